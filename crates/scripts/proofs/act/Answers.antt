use Rattle.std.proofs.Common.{refl}
use Rattle.checks.proofs.Refusing.{ready_unaltered}
use Rattle.scripts.specs.declared.Call.TheVariants.{Tally, Look}
use Rattle.scripts.proofs.Acting.{acted_idle}
use Rattle.scripts.proofs.act.Goals as goal

pub tally-answer-requires : goal.tally-answer-requires
tally-answer-requires g c = ready_unaltered _ _ _ _ _ 0 c.requires

pub look-answer-requires : goal.look-answer-requires
look-answer-requires g c = ready_unaltered _ _ _ _ _ 0 c.requires

pub returns-in-Tally : goal.returns-in-Tally
returns-in-Tally g c = record {
  acted = acted_idle _ c.args.progress c.args.table.now _ _ Tally _ c.in-Tally.is refl c.tally-answer.ensures;
  limit = refl;
}

pub returns-in-Look : goal.returns-in-Look
returns-in-Look g c = record {
  acted = acted_idle _ c.args.progress c.args.table.now _ _ (Look c.in-Look.row) _ c.in-Look.is refl c.look-answer.ensures;
  limit = refl;
}
