-- The pattern LATCH, and the cases worked out for it.
--
-- latch    two states and one signal: state 0 asks for the signal and for state 1 next, state 1 for the signal alone;
--          the start is 0 and no state is final, so a sequence is accepted once no state is left to satisfy
-- Worked   what the questions, acceptance and back give for it
use Rattle.std.specs.Prelude.{◌≡◌, [], ◌∷◌, None}
use Rattle.patterns.specs.Accepted.{Accepted}
use Rattle.patterns.specs.Automaton.{Automaton}
use Rattle.patterns.specs.Questions.{judged}
use Rattle.patterns.specs.Values.{back}

abbrev pub latch : Automaton
latch = record {
  signals = 1;
  start = 0;
  finals = 0;
  roots = 2 ∷ 0 ∷ [];
  rows =
      record { operation = 3; left = 0; right = 0 }
      ∷ record { operation = 2; left = 1; right = 0 }
      ∷ record { operation = 4; left = 0; right = 1 } ∷ [];
}

pub record Worked : Type 0 where
  pub meets : judged latch ≡ None
  pub rejects_empty : Accepted latch [] → ⊥
  pub rejects_1_0 : Accepted latch (1 ∷ 0 ∷ []) → ⊥
  pub accepts_1_1 : Accepted latch (1 ∷ 1 ∷ [])
  pub accepts_3_1_0 : Accepted latch (3 ∷ 1 ∷ 0 ∷ [])
  pub back_1_2 : back latch 1 2 ≡ 3
  pub back_0_2 : back latch 0 2 ≡ 0
