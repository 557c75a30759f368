-- The dual of an automaton: the one that accepts exactly the other sequences.
--
-- Every row of the automaton gives two: a copy of it if it is free of states, otherwise constant 0; then its dual, which
-- is 1 where the row is 0 once every state is taken for its opposite.
--
-- copy_at b j           where the copy of row j stands in a table that has the pairs from row b on
-- dual_at b j           where its dual stands
-- copied b r            the row r over the copies of its operands
-- exchanged b n r       the dual of a row that depends on a state: its state raised by n, or AND and OR exchanged over duals
-- row_copy b f r        the first row that r gives, where f says whether r is free of states
-- row_dual b n i f r    the second, of row i: NOT of the first, or exchanged
-- dual_rows b n fs rs   the pairs of the rows rs, which come after rows that are free of states where fs says so
-- others n d            the states below n that are not in d
-- dual A                the dual of A by itself
use Rattle.std.specs.Prelude.{ℕ, ◌+◌, ◌*◌, Bool, cond, not, List, [], ◌∷◌, map, length, ◌==◌, nat_lt}
use Rattle.sets.specs.Sets.{has, set_of}
use Rattle.patterns.specs.declared.row.Row.{Row}
use Rattle.patterns.specs.Automaton.{Automaton, states, blank}
use Rattle.patterns.specs.Questions.{free, free_step}

abbrev pub copy_at : ℕ → ℕ → ℕ
copy_at b j = b + 2 * j

abbrev pub dual_at : ℕ → ℕ → ℕ
dual_at b j = b + 2 * j + 1

abbrev pub copied : ℕ → Row → Row
copied b r =
    cond (nat_lt r.operation 4) r
    (cond (r.operation == 6) (record { operation = 6; left = copy_at b r.left; right = 0 })
    (record { operation = r.operation; left = copy_at b r.left; right = copy_at b r.right }))

abbrev pub exchanged : ℕ → ℕ → Row → Row
exchanged b n r =
    cond (r.operation == 2) (record { operation = 2; left = n + r.left; right = 0 })
    (record { operation = cond (r.operation == 4) 5 4; left = dual_at b r.left; right = dual_at b r.right })

abbrev pub row_copy : ℕ → Bool → Row → Row
row_copy b f r = cond f (copied b r) blank

abbrev pub row_dual : ℕ → ℕ → ℕ → Bool → Row → Row
row_dual b n i f r = cond f (record { operation = 6; left = copy_at b i; right = 0 }) (exchanged b n r)

abbrev pub dual_rows : ℕ → ℕ → List Bool → List Row → List Row
dual_rows b n fs [] = []
dual_rows b n fs (r ∷ rs) =
    row_copy b (free fs r) r ∷ row_dual b n (length fs) (free fs r) r ∷ dual_rows b n (free_step fs r) rs

abbrev pub others : ℕ → ℕ → ℕ
others n d = set_of (λ q. not (has d q)) n

abbrev pub dual : Automaton → Automaton
dual A = record {
  signals = A.signals;
  start = A.start;
  finals = others (states A) A.finals;
  roots = map (dual_at 0) A.roots;
  rows = dual_rows 0 0 [] A.rows;
}
