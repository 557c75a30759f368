-- "B without A": the automaton of the sequences that B accepts and A does not.
--
-- row_count_of B A     how many rows come before its last
-- state_count_of B A   how many states come before its last
-- last_row_of B A      the condition of its start: B's start and the dual of A's at once
-- final_in B A q       whether q is a final state of it
-- larger m k           the larger of two numbers
-- without B A          B's tables, the dual of A's behind them, and a last row and a last state, which starts
use Rattle.std.specs.Prelude.{ℕ, ◌+◌, ◌-◌, ◌*◌, Bool, cond, not, ◌&&◌, [], ◌∷◌, ◌++◌, map, length, nat_lt}
use Rattle.sets.specs.Sets.{has, set_of}
use Rattle.patterns.specs.declared.row.Row.{Row}
use Rattle.patterns.specs.Automaton.{Automaton, states, root}
use Rattle.duals.specs.Dual.{dual_at, dual_rows}

abbrev pub row_count_of : Automaton → Automaton → ℕ
row_count_of B A = length B.rows + 2 * length A.rows

abbrev pub state_count_of : Automaton → Automaton → ℕ
state_count_of B A = states B + states A

abbrev pub last_row_of : Automaton → Automaton → Row
last_row_of B A = record {
  operation = 4;
  left = root B B.start;
  right = dual_at (length B.rows) (root A A.start);
}

-- B's final states, A's states that are not final in A, and the new state if B's start is final and A's is not
abbrev pub final_in : Automaton → Automaton → ℕ → Bool
final_in B A q =
    cond (nat_lt q (states B)) (has B.finals q)
    (cond (nat_lt q (state_count_of B A)) (not (has A.finals (q - states B)))
    (has B.finals B.start && not (has A.finals A.start)))

abbrev pub larger : ℕ → ℕ → ℕ
larger m k = cond (nat_lt m k) k m

unfoldable pub without : Automaton → Automaton → Automaton
without B A = record {
  signals = larger B.signals A.signals;
  start = state_count_of B A;
  finals = set_of (final_in B A) (state_count_of B A + 1);
  roots = B.roots ++ (map (dual_at (length B.rows)) A.roots ++ row_count_of B A ∷ []);
  rows = B.rows ++ (dual_rows (length B.rows) (states B) [] A.rows ++ last_row_of B A ∷ []);
}
