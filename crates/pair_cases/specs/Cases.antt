-- LATCH without LATCH, worked out: a pattern that accepts nothing, and the search and the inspector on it.
--
-- latch_pair       the automaton "LATCH without LATCH"
-- pair_tables_of   its tables, row by row
-- searched q       its search over a table of 3 rows, after q queries
-- sets t           the configurations recorded in the search state t, in the table's order
-- Worked           the cases
use Rattle.std.specs.Prelude.{◌≡◌, ℕ, List, [], ◌∷◌, map, Some, None, Ok}
use Rattle.patterns.specs.Automaton.{Automaton}
use Rattle.patterns.specs.Latch.{latch}
use Rattle.patterns.specs.Questions.{judged}
use Rattle.kind_shapes.specs.Shapes.{pattern_shape}
use Rattle.inspector.specs.declared.answers.Inspection.TheVariants.{Passed, Back}
use Rattle.inspector.specs.Inspected.{inspected}
use Rattle.search.specs.declared.Verdict.TheVariants.{Never}
use Rattle.search.specs.Search.{State, after, certificate}
use Rattle.duals.specs.Without.{without}

abbrev pub latch_pair : Automaton
latch_pair = without latch latch

abbrev pub pair_tables_of : Automaton
pair_tables_of = record {
  signals = 1;
  start = 4;
  finals = 12;
  roots = 2 ∷ 0 ∷ 8 ∷ 4 ∷ 9 ∷ [];
  rows =
      record { operation = 3; left = 0; right = 0 }
      ∷ record { operation = 2; left = 1; right = 0 }
      ∷ record { operation = 4; left = 0; right = 1 }
      ∷ record { operation = 3; left = 0; right = 0 }
      ∷ record { operation = 6; left = 3; right = 0 }
      ∷ record { operation = 0; left = 0; right = 0 }
      ∷ record { operation = 2; left = 3; right = 0 }
      ∷ record { operation = 0; left = 0; right = 0 }
      ∷ record { operation = 5; left = 4; right = 6 }
      ∷ record { operation = 4; left = 2; right = 8 } ∷ [];
}

abbrev pub searched : ℕ → State ℕ
searched q = after (pattern_shape latch_pair) 3 q

abbrev pub sets : State ℕ → List ℕ
sets t = map (λ y. y.configuration) t.finds

pub record Worked : Type 0 where
  pub tables : latch_pair ≡ pair_tables_of
  pub meets : judged latch_pair ≡ None
  -- over 3 rows the sets are 12, 6, 3, and the fifth query gives NEVER
  pub found : sets (searched 5) ≡ 12 ∷ 6 ∷ 3 ∷ []
  pub undecided : (searched 4).verdict ≡ None
  pub never : (searched 5).verdict ≡ Some Never
  pub queries : (searched 5).queries ≡ 5
  -- the certificate passes
  pub held : certificate (pattern_shape latch_pair) (searched 5) ≡ 12 ∷ 6 ∷ 3 ∷ []
  pub passes : inspected (pattern_shape latch_pair) (12 ∷ 6 ∷ 3 ∷ []) ≡ Ok Passed
  -- without its last entry it fails: entry 1 has a predecessor by move 1 that it does not cover
  pub fails : inspected (pattern_shape latch_pair) (12 ∷ 6 ∷ []) ≡ Ok (Back 1 1)
