-- The pattern STUCK, and the searches worked out for it and for LATCH.
--
-- stuck             one state and one signal: the state asks for the signal and for itself next; it is the start and
--                   not final, so no sequence is accepted
-- latch_after r q   the search for LATCH over a table of r rows, after q queries
-- stuck_after r q   the same for STUCK
-- sets t            the sets in the table of finds, row by row
-- Worked            what these searches come to
use Rattle.std.specs.Prelude.{◌≡◌, ℕ, ◌≤◌, List, [], ◌∷◌, map, length, Some, None}
use Rattle.patterns.specs.Accepted.{Accepted}
use Rattle.patterns.specs.Automaton.{Automaton}
use Rattle.patterns.specs.Latch.{latch}
use Rattle.patterns.specs.Questions.{judged}
use Rattle.kind_shapes.specs.Acceptance.{NeverMatches}
use Rattle.kind_shapes.specs.Shapes.{pattern_shape}
use Rattle.search.specs.declared.Verdict.TheVariants.{Matches, Never, Full}
use Rattle.search.specs.Search.{State, after, cleared, sequence, certificate}

abbrev pub stuck : Automaton
stuck = record {
  signals = 1;
  start = 0;
  finals = 0;
  roots = 2 ∷ [];
  rows =
      record { operation = 3; left = 0; right = 0 }
      ∷ record { operation = 2; left = 0; right = 0 }
      ∷ record { operation = 4; left = 0; right = 1 } ∷ [];
}

abbrev pub latch_after : ℕ → ℕ → State ℕ
latch_after r q = after (pattern_shape latch) r q

abbrev pub stuck_after : ℕ → ℕ → State ℕ
stuck_after r q = after (pattern_shape stuck) r q

abbrev pub sets : State ℕ → List ℕ
sets t = map (λ y. y.configuration) t.finds

pub record Worked : Type 0 where
  -- LATCH over 3 rows: MATCHES with the third query
  pub latch_3_before : (latch_after 3 2).verdict ≡ None
  pub latch_3_verdict : (latch_after 3 3).verdict ≡ Some Matches
  pub latch_3_queries : (latch_after 3 3).queries ≡ 3
  pub latch_3_sets : sets (latch_after 3 3) ≡ 0 ∷ 2 ∷ 3 ∷ []
  pub latch_3_sequence : sequence (pattern_shape latch) (latch_after 3 3) ≡ 1 ∷ 1 ∷ []
  -- LATCH over 2 rows: FULL with the third query
  pub latch_2_before : (latch_after 2 2).verdict ≡ None
  pub latch_2_verdict : (latch_after 2 3).verdict ≡ Some Full
  pub latch_2_queries : (latch_after 2 3).queries ≡ 3
  pub latch_2_cleared : cleared (latch_after 2 3) ≡ 1
  -- STUCK over any number of rows: NEVER with the first query
  pub stuck_meets : judged stuck ≡ None
  pub stuck_before : (r : ℕ) → (stuck_after r 0).verdict ≡ None
  pub stuck_verdict : (r : ℕ) → (stuck_after r 1).verdict ≡ Some Never
  pub stuck_queries : (r : ℕ) → (stuck_after r 1).queries ≡ 1
  pub stuck_certificate : (r : ℕ) → certificate (pattern_shape stuck) (stuck_after r 1) ≡ 0 ∷ []
  -- and so LATCH accepts nothing shorter than two events, and STUCK nothing at all
  pub latch_shortest : (es : List ℕ) → Accepted latch es → 2 ≤ length es
  pub stuck_never : NeverMatches stuck
