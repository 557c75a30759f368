use Rattle.std.proofs.Common.{refl}
use Rattle.sets.specs.Sets.{set_of}
use Rattle.patterns.specs.Questions.{judged}
use Rattle.inspector.specs.Inspected.{least}
use Rattle.search.specs.Search.{opened, query, queried}
use Rattle.duals.specs.Without.{without}
use Rattle.pair_cases.specs.Cases.{Worked}
use Rattle.pair_cases.proofs.latch_without_latch.Goals as goal

worked : Worked
unfolding judged set_of least opened query queried without
worked = record {
  tables = refl;
  meets = refl;
  found = refl;
  undecided = refl;
  never = refl;
  queries = refl;
  held = refl;
  passes = refl;
  fails = refl;
}

pub returns : goal.returns
returns c = record { value = c.pair_in_tables.ensures; worked = worked }
