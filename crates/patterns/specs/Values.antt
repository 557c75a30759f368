-- What the rows of an automaton are worth under an event and a set of states.
--
-- row_value_of a d vs r   the value of row r, where vs has the values of the rows before it
-- values rows a d         the value of each row in turn
-- value A a d i           the value of row i
-- back A a d              the states whose root row is 1 under event a and set d
-- backs A es d            the events es worked back from the set d, the last first
use Rattle.std.specs.Prelude.{ℕ, Bool, true, false, cond, not, ◌&&◌, ◌||◌, List, [], ◌∷◌, ◌++◌, fold, ◌==◌, slice_index_or}
use Rattle.sets.specs.Sets.{has, set_of}
use Rattle.patterns.specs.declared.row.Row.{Row}
use Rattle.patterns.specs.Automaton.{Automaton, states, root}

abbrev pub row_value_of : ℕ → ℕ → List Bool → Row → Bool
row_value_of a d vs r =
    cond (r.operation == 0) false
    (cond (r.operation == 1) true
    (cond (r.operation == 2) (has d r.left)
    (cond (r.operation == 3) (has a r.left)
    (cond (r.operation == 4) (slice_index_or vs r.left false && slice_index_or vs r.right false)
    (cond (r.operation == 5) (slice_index_or vs r.left false || slice_index_or vs r.right false)
    (not (slice_index_or vs r.left false)))))))

abbrev pub value_step : ℕ → ℕ → List Bool → Row → List Bool
value_step a d vs r = vs ++ row_value_of a d vs r ∷ []

abbrev pub values : List Row → ℕ → ℕ → List Bool
values rows a d = fold (value_step a d) [] rows

abbrev pub value : Automaton → ℕ → ℕ → ℕ → Bool
value A a d i = slice_index_or (values A.rows a d) i false

abbrev pub back : Automaton → ℕ → ℕ → ℕ
back A a d = set_of (λ q. value A a d (root A q)) (states A)

abbrev pub backs : Automaton → List ℕ → ℕ → ℕ
backs A [] d = d
backs A (a ∷ es) d = back A a (backs A es d)
