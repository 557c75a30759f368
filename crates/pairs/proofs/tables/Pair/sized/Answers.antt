use Rattle.std.proofs.Common.{arith}
use Rattle.patterns.specs.Automaton.{read}
use Rattle.patterns.proofs.Meeting.{meets}
use Rattle.pairs.proofs.tables.Pair.sized.Goals as goal

pub invariant_of-result : goal.invariant_of-result
invariant_of-result c = record {
  later_judged = meets (read c.args.later) c.requires.later;
  earlier_judged = meets (read c.args.earlier) c.requires.earlier;
  fits = (omega arith, omega arith);
}
