-- What it is for tables to be a pattern, in the words of automata.
--
-- StateFree A i   no state stands at row i, nor at any row below it through operands
-- Proper A i r    r is one of the seven forms that row i may have
-- Formed A        the tables are a pattern
use Rattle.std.specs.Prelude.{◌≡◌, ℕ, ◌<◌, ◌≤◌, ◌⊎◌, length}
use Rattle.sets.specs.Sets.{Below}
use Rattle.patterns.specs.declared.row.Row.{Row}
use Rattle.patterns.specs.Automaton.{Automaton, states, root, row}

pub data StateFree (A : Automaton) : ℕ → Type 0 where
  leaf : {i : ℕ} → ((row A i).operation < 2) ⊎ ((row A i).operation ≡ 3) → StateFree A i
  pair : {i : ℕ} → ((row A i).operation ≡ 4) ⊎ ((row A i).operation ≡ 5)
      → StateFree A (row A i).left → StateFree A (row A i).right → StateFree A i
  negated : {i : ℕ} → (row A i).operation ≡ 6 → StateFree A (row A i).left → StateFree A i

pub data Proper (A : Automaton) (i : ℕ) : Row → Type 0 where
  constant_0 : Proper A i (record { operation = 0; left = 0; right = 0 })
  constant_1 : Proper A i (record { operation = 1; left = 0; right = 0 })
  state : {q : ℕ} → q < states A → Proper A i (record { operation = 2; left = q; right = 0 })
  signal : {s : ℕ} → s < A.signals → Proper A i (record { operation = 3; left = s; right = 0 })
  conjunction : {j k : ℕ} → j < i → k < i → Proper A i (record { operation = 4; left = j; right = k })
  disjunction : {j k : ℕ} → j < i → k < i → Proper A i (record { operation = 5; left = j; right = k })
  negation : {j : ℕ} → j < i → StateFree A j → Proper A i (record { operation = 6; left = j; right = 0 })

pub record Formed (A : Automaton) : Type 0 where
  pub some_states : 1 ≤ states A
  pub few_states : states A ≤ 64
  pub few_signals : A.signals ≤ 16
  pub some_rows : 1 ≤ length A.rows
  pub few_rows : length A.rows ≤ 1024
  pub starts : A.start < states A
  pub ends : Below A.finals (states A)
  pub rooted : (q : ℕ) → q < states A → root A q < length A.rows
  pub proper : (i : ℕ) → i < length A.rows → Proper A i (row A i)
