-- A pattern's tables as an alternating automaton.
--
-- Automaton   states 0 to n - 1 and signals 0 to m - 1, where n is the number of roots and m is `signals`;
--             a state's transition condition is the row that its root names
-- read p      the automaton in the parts p that a caller lends
-- states A    how many states there are
-- root A q    the row that is the condition of state q
-- blank       the row that is constant 0
-- row A i     row i, and a blank one past the table's end
use Rattle.std.specs.Prelude.{ℕ, List, length, slice_index, slice_index_or}
use Rattle.patterns.specs.declared.row.Row.{Row}
use Rattle.patterns.specs.declared.parts.Parts.{Parts}

pub record Automaton : Type 0 where
  pub signals : ℕ
  pub start : ℕ
  pub finals : ℕ
  pub roots : List ℕ
  pub rows : List Row

abbrev pub read : Parts → Automaton
read p = record { signals = p.signals; start = p.start; finals = p.finals; roots = p.roots.now; rows = p.rows.now }

abbrev pub states : Automaton → ℕ
states A = length A.roots

abbrev pub root : Automaton → ℕ → ℕ
root A q = slice_index A.roots q

abbrev pub blank : Row
blank = record { operation = 0; left = 0; right = 0 }

abbrev pub row : Automaton → ℕ → Row
row A i = slice_index_or A.rows i blank
