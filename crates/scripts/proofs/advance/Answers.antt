use Rattle.std.proofs.Common.{refl}
use Rattle.checks.proofs.Turning.{has_ended}
use Rattle.scripts.proofs.Acting.{acted_ended}
use Rattle.scripts.proofs.advance.Goals as goal

pub returns-in_default : goal.returns-in_default
returns-in_default g c = record {
  acted = acted_ended _ c.args.grant c.args.progress _ _ _ (has_ended c.args.progress c.in_default.not-Running) _ c.verdict.ensures c.granted_after-answer.ensures;
  limit = refl;
}
