-- The pairs of rows of a front of a table, and the operands of a pattern's rows.
use Rattle.std.proofs.Common.{◌≡◌, ℕ, zero, suc, ◌+◌, ◌<◌, Bool, List, [], ◌∷◌, ◌++◌, length, get_or, take, fold, Some, None, Option, Ok, Err, Result, MatchResult, sym, refl, ap, ◌∙◌, arith}
use Rattle.std.proofs.lemmas.List.{take_more, append_assoc}
use Rattle.patterns.specs.declared.row.Row.{Row}
use Rattle.patterns.specs.Automaton.{Automaton, states, row, blank}
use Rattle.patterns.specs.Formed.{Proper, constant_0, constant_1, state, signal, conjunction, disjunction, negation, Formed}
use Rattle.patterns.specs.Questions.{first, unless, sized, ended, roots_fault, row_fault, rows_fault, judged, free, free_step}
use Rattle.patterns.specs.declared.fault.Fault.{Fault}
use Rattle.patterns.specs.declared.fault.Fault.TheVariants.{Sizes, Ends}
use Rattle.patterns.proofs.Meeting.{meets}
use Rattle.duals.specs.Dual.{row_copy, row_dual, dual_rows}

first_none : (o p : Option Fault) → first o p ≡ None → (o ≡ None) × (p ≡ None)
first_none None p e = (refl, e)
first_none (Some f) p e = (cc, cc)

-- no row of a pattern is at fault, where the rows before it are asked as they come
row_meets : (n m : ℕ) (fs : List Bool) (rs : List Row) (i : ℕ) → rows_fault n m fs rs ≡ None → i < length rs
    → row_fault n m (fold free_step fs (take i rs)) (get_or rs i blank) ≡ None
row_meets n m fs [] i e h = absurd (omega arith)
row_meets n m fs (r ∷ rs) zero e h = (first_none (row_fault n m fs r) (rows_fault n m (free_step fs r) rs) e).0
row_meets n m fs (r ∷ rs) (suc i) e h =
    row_meets n m (free_step fs r) rs i (first_none (row_fault n m fs r) (rows_fault n m (free_step fs r) rs) e).1 (omega arith)

rows_meet : (A : Automaton) → judged A ≡ None → rows_fault (states A) A.signals [] A.rows ≡ None
unfolding judged
rows_meet A e =
    let rows = rows_fault (states A) A.signals [] A.rows in
    let roots = roots_fault (length A.rows) 0 A.roots in
    let ends = unless (ended (states A) A.start A.finals) Ends in
    let sizes = unless (sized (states A) A.signals (length A.rows)) Sizes in
    (first_none roots rows (first_none ends (first roots rows) (first_none sizes (first ends (first roots rows)) e).1).1).1

-- so whether a row is free of states is answered
pub free_answered : (A : Automaton) → Formed A → (i : ℕ) (fs : List Bool) (r : Result Bool Fault) → i < length A.rows
    → fs ≡ fold free_step [] (take i A.rows)
    → MatchResult r (λ b. (row_fault (states A) A.signals fs (row A i) ≡ None) × (b ≡ free fs (row A i)))
    (λ f. row_fault (states A) A.signals fs (row A i) ≡ Some f)
    → r ≡ Ok (free fs (row A i))
free_answered A F i fs r h e m = by r m
  where
    none : row_fault (states A) A.signals fs (row A i) ≡ None
    none = rw e (row_meets (states A) A.signals [] A.rows i (rows_meet A (meets A F)) h)

    by : (r : Result Bool Fault) → MatchResult r (λ b. (row_fault (states A) A.signals fs (row A i) ≡ None) × (b ≡ free fs (row A i)))
        (λ f. row_fault (states A) A.signals fs (row A i) ≡ Some f) → r ≡ Ok (free fs (row A i))
    by (Ok b) m = ap Ok m.1
    by (Err f) m = let z : None ≡ Some f = sym none ∙ m in cc

module _ (b n : ℕ) where
  -- the pairs of one row more
  pairs_push : (fs : List Bool) (rs : List Row) (r : Row)
      → dual_rows b n fs (rs ++ r ∷ [])
      ≡ dual_rows b n fs rs
      ++ (row_copy b (free (fold free_step fs rs) r) r
      ∷ row_dual b n (length (fold free_step fs rs)) (free (fold free_step fs rs) r) r ∷ [])
  pairs_push fs [] r = refl
  pairs_push fs (s ∷ rs) r =
      ap (λ (xs : List Row). row_copy b (free fs s) s ∷ row_dual b n (length fs) (free fs s) s ∷ xs) (pairs_push (free_step fs s) rs r)

  pub pairs_more : (rs : List Row) (i : ℕ) (gs : List Bool) → i < length rs → gs ≡ fold free_step [] (take i rs) → length gs ≡ i
      → dual_rows b n [] (take (i + 1) rs)
      ≡ (dual_rows b n [] (take i rs) ++ row_copy b (free gs (get_or rs i blank)) (get_or rs i blank) ∷ [])
      ++ row_dual b n i (free gs (get_or rs i blank)) (get_or rs i blank) ∷ []
  pairs_more rs i gs h e l =
      let r = get_or rs i blank in
      let xs = dual_rows b n [] (take i rs) in
      ap (dual_rows b n []) (take_more rs i blank h)
      ∙ pairs_push [] (take i rs) r
      ∙ ap (λ (fs : List Bool). xs ++ (row_copy b (free fs r) r ∷ row_dual b n (length fs) (free fs r) r ∷ [])) (sym e)
      ∙ ap (λ (k : ℕ). xs ++ (row_copy b (free gs r) r ∷ row_dual b n k (free gs r) r ∷ [])) l
      ∙ sym (append_assoc xs (row_copy b (free gs r) r ∷ []) (row_dual b n i (free gs r) r ∷ []))

module _ (A : Automaton) (F : Formed A) where
  operands : (i : ℕ) (r : Row) → i < 1024 → Proper A i r → (r.left < 1024) × (r.right < 1024)
  operands i r h constant_0 = (omega arith, omega arith)
  operands i r h constant_1 = (omega arith, omega arith)
  operands i r h (state {q} m) = let l = F.few_states in (omega arith, omega arith)
  operands i r h (signal {s} m) = let l = F.few_signals in (omega arith, omega arith)
  operands i r h (conjunction m o) = (omega arith, omega arith)
  operands i r h (disjunction m o) = (omega arith, omega arith)
  operands i r h (negation m g) = (omega arith, omega arith)

  -- every operand of a pattern is a small number
  pub operands_small : (i : ℕ) → i < length A.rows → ((row A i).left < 1024) × ((row A i).right < 1024)
  operands_small i h = let l = F.few_rows in operands i (row A i) (omega arith) (F.proper i h)
