-- What a judgement on a pattern says.
--
-- Decided A   the search that the judgement on A reports has a verdict, and keeps what searches promise of A
use Rattle.std.specs.Prelude.{◌≡◌, true, is_some}
use Rattle.patterns.specs.Automaton.{Automaton}
use Rattle.verdicts.specs.Promises.{PatternPromise}
use Rattle.judging.specs.Judgement.{table_rows, grant, ended}

pub record Decided (A : Automaton) : Type 0 where
  pub verdict : is_some (ended A).verdict ≡ true
  pub promise : PatternPromise A table_rows grant (ended A)
