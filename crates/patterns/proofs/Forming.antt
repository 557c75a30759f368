-- Tables that meet every question are a pattern.
use Rattle.std.proofs.Common.{◌≡◌, ℕ, zero, suc, ◌+◌, ◌^◌, ◌<◌, ◌≤◌, Bool, true, false, ltb, leb, List, [], ◌∷◌, length, get_or, take, is_some, Some, None, fold, Option, sym, refl, ap, ◌∙◌, subst, inl, inr, ⊎_elim, arith}
use Rattle.std.proofs.lemmas.Bool.{and_parts, both_ways, cases_eq, ltb-true, leb-true}
use Rattle.std.proofs.lemmas.Bool.Decides.{nat_tests}
use Rattle.sets.proofs.Members.{decides_below}
use Rattle.patterns.specs.declared.row.Row.{Row}
use Rattle.patterns.specs.declared.fault.Fault.{Fault}
use Rattle.patterns.specs.declared.fault.Fault.TheVariants.{Sizes, Ends, Root, Operation, Operand, Negation}
use Rattle.patterns.specs.Automaton.{Automaton, states, row, blank}
use Rattle.patterns.specs.Questions.{judged, sized, ended, roots_fault, rows_fault, row_fault, free_step, free, first, unless, known, placed, negatable}
use Rattle.patterns.specs.Formed.{StateFree, leaf, pair, negated, Proper, constant_0, constant_1, state, signal, conjunction, disjunction, negation, Formed}
use Rattle.patterns.proofs.Marking.{marks, length_marks, marked}

pub none_from : {X : Type 0} (o : Option X) → is_some o ≡ false → o ≡ None
none_from None e = refl
none_from (Some x) e = let z : ◌≡◌ {A = Bool} true false = e in cc

first_none : (o p : Option Fault) → first o p ≡ None → (o ≡ None) × (p ≡ None)
first_none None p e = (refl, e)
first_none (Some f) p e = (cc, cc)

unless_none : (b : Bool) (f : Fault) → unless b f ≡ None → b ≡ true
unless_none true f e = refl
unless_none false f e = cc

-- what the questions on a row tell
record Asked (n m : ℕ) (fs : List Bool) (r : Row) : Type 0 where
  is_known : known r ≡ true
  is_placed : placed n m (length fs) r ≡ true
  is_negatable : negatable fs r ≡ true

asked : (n m : ℕ) (fs : List Bool) (r : Row) → row_fault n m fs r ≡ None → Asked n m fs r
asked n m fs r e =
    let i = length fs in
    let p = first_none (unless (known r) (Operation i)) _ e in
    let q = first_none (unless (placed n m i r) (Operand i)) _ p.1 in
    record {
      is_known = unless_none (known r) (Operation i) p.0;
      is_placed = unless_none (placed n m i r) (Operand i) q.0;
      is_negatable = unless_none (negatable fs r) (Negation i) q.1;
    }

each_root : (N q : ℕ) (roots : List ℕ) → roots_fault N q roots ≡ None → (k : ℕ) → k < length roots → get_or roots k 0 < N
each_root N q [] e k h = absurd (omega arith)
each_root N q (r ∷ rs) e zero h = ltb-true r N (unless_none (ltb r N) (Root q) (first_none (unless (ltb r N) (Root q)) _ e).0)
each_root N q (r ∷ rs) e (suc k) h = each_root N (q + 1) rs (first_none (unless (ltb r N) (Root q)) _ e).1 k (omega arith)

each_row : (n m : ℕ) (fs : List Bool) (rows : List Row) → rows_fault n m fs rows ≡ None → (k : ℕ) → k < length rows
    → row_fault n m (fold free_step fs (take k rows)) (get_or rows k blank) ≡ None
each_row n m fs [] e k h = absurd (omega arith)
each_row n m fs (r ∷ rs) e zero h = (first_none (row_fault n m fs r) _ e).0
each_row n m fs (r ∷ rs) e (suc k) h = each_row n m (free_step fs r) rs (first_none (row_fault n m fs r) _ e).1 k (omega arith)

module _ (A : Automaton) (i : ℕ) where
  at_row : (r : Row) {o l t : ℕ} → r.operation ≡ o → r.left ≡ l → r.right ≡ t
      → Proper A i (record { operation = o; left = l; right = t }) → Proper A i r
  at_row r {o} {l} {t} e f g p =
      subst (λ (x : ℕ). Proper A i (record { operation = x; left = r.left; right = r.right })) (sym e)
      (subst (λ (x : ℕ). Proper A i (record { operation = o; left = x; right = r.right })) (sym f)
      (subst (λ (x : ℕ). Proper A i (record { operation = o; left = l; right = x })) (sym g) p))

  forms : (r : Row) → known r ≡ true → placed (states A) A.signals i r ≡ true → (r.operation ≡ 6 → StateFree A r.left)
      → Proper A i r
  forms r k p f =
      ⊎_elim (λ (e : r.operation ≡ 0). at_row r e (grind (arith, nat_tests)) (grind (arith, nat_tests)) constant_0) (λ n0.
      ⊎_elim (λ (e : r.operation ≡ 1). at_row r e (grind (arith, nat_tests)) (grind (arith, nat_tests)) constant_1) (λ n1.
      ⊎_elim (λ (e : r.operation ≡ 2). at_row r e refl (grind (arith, nat_tests)) (state (grind (arith, nat_tests)))) (λ n2.
      ⊎_elim (λ (e : r.operation ≡ 3). at_row r e refl (grind (arith, nat_tests)) (signal (grind (arith, nat_tests)))) (λ n3.
      ⊎_elim (λ (e : r.operation ≡ 4). at_row r e refl refl (conjunction (grind (arith, nat_tests)) (grind (arith, nat_tests)))) (λ n4.
      ⊎_elim (λ (e : r.operation ≡ 5). at_row r e refl refl (disjunction (grind (arith, nat_tests)) (grind (arith, nat_tests)))) (λ n5.
      ⊎_elim (λ (e : r.operation ≡ 6). at_row r e refl (grind (arith, nat_tests)) (negation (grind (arith, nat_tests)) (f e)))
      (λ n6. absurd (both_ways (known r) (grind (arith, nat_tests)) k))
      (cases_eq r.operation 6)) (cases_eq r.operation 5)) (cases_eq r.operation 4)) (cases_eq r.operation 3))
      (cases_eq r.operation 2)) (cases_eq r.operation 1)) (cases_eq r.operation 0)

module _ (A : Automaton) (e : rows_fault (states A) A.signals [] A.rows ≡ None) where
  row_asked : (k : ℕ) → k < length A.rows → Asked (states A) A.signals (marks A k) (row A k)
  row_asked k h = asked (states A) A.signals (marks A k) (row A k) (each_row (states A) A.signals [] A.rows e k h)

  is_placed_at : (k : ℕ) → k < length A.rows → placed (states A) A.signals k (row A k) ≡ true
  is_placed_at k h =
      ap (λ (j : ℕ). placed (states A) A.signals j (row A k)) (sym (length_marks A k (omega arith))) ∙ (row_asked k h).is_placed

  -- the row of an operand marked free of states is so
  free_sound : (b k j : ℕ) → j < k → k ≤ length A.rows → k ≤ b → get_or (marks A k) j false ≡ true → StateFree A j
  free_sound zero k j h l m t = absurd (omega arith)
  free_sound (suc b) k j h l m t =
      let r = row A j in
      let hj : j < length A.rows = omega arith in
      let g : free (marks A j) r ≡ true =
      sym (marked A k l j h) ∙ t in
      let kn = (row_asked j hj).is_known in
      let pl = is_placed_at j hj in
      let left : get_or (marks A j) r.left false ≡ true → r.left < j → StateFree A r.left =
      λ x y. free_sound b j r.left y (omega arith) (omega arith) x in
      let right : get_or (marks A j) r.right false ≡ true → r.right < j → StateFree A r.right =
      λ x y. free_sound b j r.right y (omega arith) (omega arith) x in
      ⊎_elim (λ (o : r.operation ≡ 6). negated o (left (grind (arith, nat_tests)) (grind (arith, nat_tests)))) (λ n6.
      ⊎_elim (λ (o : r.operation ≡ 5). pair (inr o) (left (grind (arith, nat_tests)) (grind (arith, nat_tests))) (right (grind (arith, nat_tests)) (grind (arith, nat_tests)))) (λ n5.
      ⊎_elim (λ (o : r.operation ≡ 4). pair (inl o) (left (grind (arith, nat_tests)) (grind (arith, nat_tests))) (right (grind (arith, nat_tests)) (grind (arith, nat_tests)))) (λ n4.
      ⊎_elim (λ (o : r.operation ≡ 3). leaf (inr o)) (λ n3. leaf (inl (grind (arith, nat_tests))))
      (cases_eq r.operation 3)) (cases_eq r.operation 4)) (cases_eq r.operation 5)) (cases_eq r.operation 6)

  each_proper : (i : ℕ) → i < length A.rows → Proper A i (row A i)
  each_proper i h =
      let s = row_asked i h in
      let p = is_placed_at i h in
      forms A i (row A i) s.is_known p
      (λ o. free_sound i i (row A i).left (grind (arith, nat_tests)) (omega arith) (omega arith)
      (let n = s.is_negatable in grind (arith, nat_tests)))

pub formed : (A : Automaton) → is_some (judged A) ≡ false → Formed A
unfolding judged
formed A none =
    let n = states A in
    let m = A.signals in
    let N = length A.rows in
    let a = first_none (unless (sized n m N) Sizes) _ (none_from (judged A) none) in
    let b = first_none (unless (ended n A.start A.finals) Ends) _ a.1 in
    let d = first_none (roots_fault N 0 A.roots) (rows_fault n m [] A.rows) b.1 in
    let s1 = and_parts (ltb 0 n) _ (unless_none (sized n m N) Sizes a.0) in
    let s2 = and_parts (leb n 64) _ s1.1 in
    let s3 = and_parts (leb m 16) _ s2.1 in
    let s4 = and_parts (ltb 0 N) _ s3.1 in
    let t = and_parts (ltb A.start n) _ (unless_none (ended n A.start A.finals) Ends b.0) in
    record {
      some_states = ltb-true 0 n s1.0;
      few_states = leb-true n 64 s2.0;
      few_signals = leb-true m 16 s3.0;
      some_rows = ltb-true 0 N s4.0;
      few_rows = leb-true N 1024 s4.1;
      starts = ltb-true A.start n t.0;
      ends = (decides_below n A.finals n (ltb-true A.finals (2 ^ n) t.1)).0 t.1;
      rooted = each_root N 0 A.roots d.0;
      proper = each_proper A d.1;
    }
