-- What the dual and "B without A" accept, for every sequence, from the definition of acceptance.
--
-- Complements A   the dual of A accepts the sequences that A does not accept, and no others
-- Fits B A        B without A has at most 64 states and at most 1,024 rows
-- Separates B A   B without A accepts the sequences that B accepts and A does not, and no others
use Rattle.std.specs.Prelude.{ℕ, ◌+◌, ◌≤◌, List}
use Rattle.patterns.specs.Automaton.{Automaton}
use Rattle.patterns.specs.Accepted.{Accepted}
use Rattle.duals.specs.Dual.{dual}
use Rattle.duals.specs.Without.{without, row_count_of, state_count_of}

abbrev pub Exactly : Type 0 → Type 0 → Type 0
Exactly P Q = (P → Q) × (Q → P)

abbrev pub Complements : Automaton → Type 0
Complements A = (es : List ℕ) → Exactly (Accepted (dual A) es) (Accepted A es → ⊥)

abbrev pub Fits : Automaton → Automaton → Type 0
Fits B A = (state_count_of B A + 1 ≤ 64) × (row_count_of B A + 1 ≤ 1024)

abbrev pub Separates : Automaton → Automaton → Type 0
Separates B A = (es : List ℕ) → Exactly (Accepted (without B A) es) (Accepted B es × (Accepted A es → ⊥))
