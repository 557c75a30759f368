use Rattle.std.proofs.Common.{is_some, ap, arith}
use Rattle.patterns.specs.Automaton.{read}
use Rattle.patterns.proofs.Forming.{formed}
use Rattle.pairs.proofs.tables.Pair.last_row.Goals as goal

pub bounds-self-self : goal.bounds-self-self
bounds-self-self c = (formed (read c.args.self.later) (ap is_some c.args.self.later_judged)).starts

pub bounds-self-self-2 : goal.bounds-self-self-2
bounds-self-self-2 c = (formed (read c.args.self.earlier) (ap is_some c.args.self.earlier_judged)).starts

pub dual_place-requires : goal.dual_place-requires
dual_place-requires c =
    let F = formed (read c.args.self.earlier) (ap is_some c.args.self.earlier_judged) in
    let r = F.rooted c.args.self.earlier.start F.starts in
    let n = F.few_rows in
    omega arith
