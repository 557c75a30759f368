-- The questions asked of a pattern's tables, in their order, and the first that is answered no.
--
-- sized n m N          n is 1 to 64 states, m at most 16 signals, N 1 to 1,024 rows
-- ended n s fs         the start state s is one of the n states, and so is each final state
-- known r              the operation is 0 to 6, and the operands that it does not use are 0
-- ordered i r          the operands of row i that are rows come before it
-- placed n m i r       row i names a state below n, a signal below m, rows before its own
-- free fs r            the row is free of states, where fs says which rows before it are
-- row_fault n m fs r   what is wrong with the row after those of fs
-- judged A             the first fault, or nothing
use Rattle.std.specs.Prelude.{ℕ, ◌+◌, ◌^◌, Bool, true, false, cond, ◌&&◌, List, [], ◌∷◌, ◌++◌, length, Some, None, Option, ◌==◌, nat_le, nat_lt, slice_index_or}
use Rattle.patterns.specs.declared.row.Row.{Row}
use Rattle.patterns.specs.declared.fault.Fault.{Fault}
use Rattle.patterns.specs.declared.fault.Fault.TheVariants.{Sizes, Ends, Root, Operation, Operand, Negation}
use Rattle.patterns.specs.Automaton.{Automaton, states}

-- the first of two faults
abbrev pub first : Option Fault → Option Fault → Option Fault
first None g = g
first (Some f) g = Some f

-- nothing where the question is answered yes, otherwise the fault
abbrev pub unless : Bool → Fault → Option Fault
unless b f = cond b None (Some f)

abbrev pub sized : ℕ → ℕ → ℕ → Bool
sized n m N = nat_lt 0 n && (nat_le n 64 && (nat_le m 16 && (nat_lt 0 N && nat_le N 1024)))

abbrev pub ended : ℕ → ℕ → ℕ → Bool
ended n start finals = nat_lt start n && nat_lt finals (2 ^ n)

abbrev pub roots_fault : ℕ → ℕ → List ℕ → Option Fault
roots_fault N q [] = None
roots_fault N q (r ∷ rs) = first (unless (nat_lt r N) (Root q)) (roots_fault N (q + 1) rs)

abbrev pub known : Row → Bool
known r =
    cond (nat_lt r.operation 2) (r.left == 0 && r.right == 0)
    (cond (nat_lt r.operation 4) (r.right == 0)
    (cond (nat_lt r.operation 6) true
    (r.operation == 6 && r.right == 0)))

abbrev pub ordered : ℕ → Row → Bool
ordered i r =
    cond (nat_lt r.operation 4) true
    (cond (r.operation == 6) (nat_lt r.left i)
    (nat_lt r.left i && nat_lt r.right i))

abbrev pub placed : ℕ → ℕ → ℕ → Row → Bool
placed n m i r =
    cond (r.operation == 2) (nat_lt r.left n)
    (cond (r.operation == 3) (nat_lt r.left m)
    (ordered i r))

abbrev pub free : List Bool → Row → Bool
free fs r =
    cond (r.operation == 2) false
    (cond (nat_lt r.operation 4) true
    (cond (r.operation == 6) (slice_index_or fs r.left false)
    (slice_index_or fs r.left false && slice_index_or fs r.right false)))

-- a NOT stands over a row that is free of states
abbrev pub negatable : List Bool → Row → Bool
negatable fs r = cond (r.operation == 6) (slice_index_or fs r.left false) true

abbrev pub row_fault : ℕ → ℕ → List Bool → Row → Option Fault
row_fault n m fs r =
    first (unless (known r) (Operation (length fs)))
    (first (unless (placed n m (length fs) r) (Operand (length fs)))
    (unless (negatable fs r) (Negation (length fs))))

abbrev pub free_step : List Bool → Row → List Bool
free_step fs r = fs ++ free fs r ∷ []

abbrev pub rows_fault : ℕ → ℕ → List Bool → List Row → Option Fault
rows_fault n m fs [] = None
rows_fault n m fs (r ∷ rs) = first (row_fault n m fs r) (rows_fault n m (free_step fs r) rs)

unfoldable pub judged : Automaton → Option Fault
judged A =
    first (unless (sized (states A) A.signals (length A.rows)) Sizes)
    (first (unless (ended (states A) A.start A.finals) Ends)
    (first (roots_fault (length A.rows) 0 A.roots)
    (rows_fault (states A) A.signals [] A.rows)))
