-- The tables of "B without A": B's in front, the dual of A's behind, a last row and a last state.
use Rattle.std.proofs.Common.{◌≡◌, ℕ, zero, suc, ◌+◌, ◌-◌, ◌*◌, ◌<◌, ◌≤◌, Bool, cond, not, ◌&&◌, ltb, ◌⊎◌, List, [], ◌∷◌, ◌++◌, map, length, get_or, take, sym, refl, ap, ◌∙◌, subst, inl, inr, ⊎_elim, arith}
use Rattle.std.proofs.lemmas.List.{length-append, length-map, get_or_append_left, get_or-append-add, get_or_at, get_or-map, take_at}
use Rattle.std.proofs.lemmas.Bool.{cases_lt, lt-ltb, le-ltb}
use Rattle.std.proofs.lemmas.Bool.Decides.{nat_tests}
use Rattle.sets.specs.Sets.{has, Below}
use Rattle.sets.proofs.Members.{has_set_of, in_set_of}
use Rattle.patterns.specs.declared.row.Row.{Row}
use Rattle.patterns.specs.Automaton.{Automaton, states, root, row, blank}
use Rattle.patterns.specs.Formed.{StateFree, leaf, pair, negated, Proper, constant_0, constant_1, state, signal, conjunction, disjunction, negation, Formed}
use Rattle.patterns.proofs.Meeting.{operands_before}
use Rattle.duals.specs.Complement.{Fits}
use Rattle.duals.specs.Dual.{dual_at, copy_at, row_dual, dual_rows}
use Rattle.duals.specs.Without.{without, row_count_of, state_count_of, last_row_of, final_in, larger}
use Rattle.duals.proofs.Dualised.{Dualised, copies_proper, duals_proper}
use Rattle.duals.proofs.Marked.{is_free, length_dual_rows, copy_entry, dual_entry}

larger_left : (m k : ℕ) → m ≤ larger m k
larger_left m k = grind (arith, nat_tests)

larger_right : (m k : ℕ) → k ≤ larger m k
larger_right m k = grind (arith, nat_tests)

larger_below : (m k l : ℕ) → m ≤ l → k ≤ l → larger m k ≤ l
larger_below m k l g h = grind (arith, nat_tests)

-- a number is even or odd
halves : (x : ℕ) → ((k : ℕ) × (x ≡ 2 * k)) ⊎ ((k : ℕ) × (x ≡ 2 * k + 1))
halves zero = inl (0, refl)
halves (suc x) = ⊎_elim
    (λ (e : (k : ℕ) × (x ≡ 2 * k)). let y = e.1 in inr (e.0, omega arith))
    (λ (e : (k : ℕ) × (x ≡ 2 * k + 1)). let y = e.1 in inl (1 + e.0, omega arith))
    (halves x)

module _ (B A : Automaton) where
  -- the rows and roots behind B's
  later_rows : List Row
  later_rows = dual_rows (length B.rows) (states B) [] A.rows ++ last_row_of B A ∷ []

  later_roots : List ℕ
  later_roots = map (dual_at (length B.rows)) A.roots ++ row_count_of B A ∷ []

  pub length_rows : length (without B A).rows ≡ row_count_of B A + 1
  unfolding without later_rows
  length_rows =
      let e = length_dual_rows (length B.rows) (states B) [] A.rows in
      let f = length-append (dual_rows (length B.rows) (states B) [] A.rows) (last_row_of B A ∷ []) in
      let g = length-append B.rows later_rows in
      omega arith

  pub length_roots : states (without B A) ≡ state_count_of B A + 1
  unfolding without later_roots
  length_roots =
      let e = length-map A.roots (dual_at (length B.rows)) in
      let f = length-append (map (dual_at (length B.rows)) A.roots) (row_count_of B A ∷ []) in
      let g = length-append B.roots later_roots in
      omega arith

  pub row_front : (i : ℕ) → i < length B.rows → row (without B A) i ≡ row B i
  unfolding without later_rows
  row_front i h = get_or_append_left B.rows later_rows blank i h

  pub rows_front : take (length B.rows) (without B A).rows ≡ B.rows
  unfolding without later_rows
  rows_front = take_at B.rows later_rows (length B.rows) refl

  row_middle : (k : ℕ) → k < 2 * length A.rows
      → row (without B A) (length B.rows + k) ≡ get_or (dual_rows (length B.rows) (states B) [] A.rows) k blank
  unfolding without later_rows
  row_middle k h =
      let e = length_dual_rows (length B.rows) (states B) [] A.rows in
      get_or-append-add B.rows later_rows k blank
      ∙ get_or_append_left (dual_rows (length B.rows) (states B) [] A.rows) (last_row_of B A ∷ []) blank k (omega arith)

  pub row_last : row (without B A) (row_count_of B A) ≡ last_row_of B A
  unfolding without later_rows
  row_last =
      get_or-append-add B.rows later_rows (2 * length A.rows) blank
      ∙ get_or_at (dual_rows (length B.rows) (states B) [] A.rows) (last_row_of B A) [] blank (2 * length A.rows)
      (length_dual_rows (length B.rows) (states B) [] A.rows)

  pub root_front : (q : ℕ) → q < states B → root (without B A) q ≡ root B q
  unfolding without later_roots
  root_front q h = get_or_append_left B.roots later_roots 0 q h

  pub root_middle : (q : ℕ) → q < states A → root (without B A) (states B + q) ≡ dual_at (length B.rows) (root A q)
  unfolding without later_roots
  root_middle q h =
      let e = length-map A.roots (dual_at (length B.rows)) in
      get_or-append-add B.roots later_roots q 0
      ∙ get_or_append_left (map (dual_at (length B.rows)) A.roots) (row_count_of B A ∷ []) 0 q (omega arith)
      ∙ get_or-map (dual_at (length B.rows)) A.roots q 0 0 h

  pub root_last : root (without B A) (state_count_of B A) ≡ row_count_of B A
  unfolding without later_roots
  root_last =
      get_or-append-add B.roots later_roots (states A) 0
      ∙ get_or_at (map (dual_at (length B.rows)) A.roots) (row_count_of B A) [] 0 (states A)
      (length-map A.roots (dual_at (length B.rows)))

  final_is : (q : ℕ) → q < state_count_of B A + 1 → has (without B A).finals q ≡ final_in B A q
  unfolding without
  final_is q h = has_set_of (final_in B A) (state_count_of B A + 1) q h

  pub final_front : (q : ℕ) → q < states B → has (without B A).finals q ≡ has B.finals q
  final_front q h = final_is q (omega arith) ∙ grind (arith, nat_tests)

  final_middle : (q : ℕ) → q < states A → has (without B A).finals (states B + q) ≡ not (has A.finals q)
  final_middle q h =
      let z : states B + q - states B ≡ q = omega arith in
      final_is (states B + q) (omega arith)
      ∙ ap (λ (t : Bool). cond t (has B.finals (states B + q)) (cond (ltb (states B + q) (state_count_of B A))
      (not (has A.finals (states B + q - states B))) (has B.finals B.start && not (has A.finals A.start))))
      (le-ltb (states B + q) (states B) (omega arith))
      ∙ ap (λ (t : Bool). cond t (not (has A.finals (states B + q - states B)))
      (has B.finals B.start && not (has A.finals A.start)))
      (lt-ltb (states B + q) (state_count_of B A) (omega arith))
      ∙ ap (λ (k : ℕ). not (has A.finals k)) z

  pub final_last : has (without B A).finals (state_count_of B A) ≡ (has B.finals B.start && not (has A.finals A.start))
  final_last =
      final_is (state_count_of B A) (omega arith)
      ∙ ap (λ (t : Bool). cond t (has B.finals (state_count_of B A)) (cond (ltb (state_count_of B A) (state_count_of B A))
      (not (has A.finals (state_count_of B A - states B))) (has B.finals B.start && not (has A.finals A.start))))
      (le-ltb (state_count_of B A) (states B) (omega arith))
      ∙ ap (λ (t : Bool). cond t (not (has A.finals (state_count_of B A - states B)))
      (has B.finals B.start && not (has A.finals A.start)))
      (le-ltb (state_count_of B A) (state_count_of B A) (omega arith))

  signals_are : (without B A).signals ≡ larger B.signals A.signals
  unfolding without
  signals_are = refl

  -- it has the dual of A behind B
  pub pair_dualised : Dualised A (without B A) (length B.rows) (states B)
  pair_dualised =
      let b = length B.rows in
      let n = states B in
      let rows = length_rows in
      let roots = length_roots in
      let s = signals_are in
      let m = larger_right B.signals A.signals in
      record {
        long = omega arith;
        signals = omega arith;
        fits = omega arith;
        copies = λ i h. row_middle (2 * i) (omega arith) ∙ copy_entry b n [] A.rows i h;
        duals = λ i h.
            let z : b + 2 * i + 1 ≡ b + (2 * i + 1) = omega arith in
            let y : 0 + i ≡ i = omega arith in
            ap (row (without B A)) z ∙ row_middle (2 * i + 1) (omega arith) ∙ dual_entry b n [] A.rows i h
            ∙ ap (λ (k : ℕ). row_dual b n k (is_free A i) (row A i)) y;
        roots = root_middle;
        ends = final_middle;
      }

  module _ (G : Formed B) (F : Formed A) where
    -- B's rows stay what they are
    free_front : {j : ℕ} → j < length B.rows → StateFree B j → StateFree (without B A) j
    free_front {j} h (leaf o) =
        let P : Row → Type 0 = λ r. (r.operation < 2) ⊎ (r.operation ≡ 3) in
        leaf (subst P (sym (row_front j h)) o)
    free_front {j} h (pair o f g) =
        let e = row_front j h in
        let p = operands_before B j (row B j) (G.proper j h) in
        let l : (row B j).left < j = grind (arith, nat_tests) in
        let r : (row B j).right < j = grind (arith, nat_tests) in
        let P : Row → Type 0 = λ s. (s.operation ≡ 4) ⊎ (s.operation ≡ 5) in
        let Q : ℕ → Type 0 = λ k. StateFree (without B A) k in
        pair (subst P (sym e) o)
        (subst Q (sym (ap (λ (s : Row). s.left) e)) (free_front (omega arith) f))
        (subst Q (sym (ap (λ (s : Row). s.right) e)) (free_front (omega arith) g))
    free_front {j} h (negated o f) =
        let e = row_front j h in
        let p = operands_before B j (row B j) (G.proper j h) in
        let l : (row B j).left < j = grind (arith, nat_tests) in
        let Q : ℕ → Type 0 = λ k. StateFree (without B A) k in
        negated (ap (λ (s : Row). s.operation) e ∙ o)
        (subst Q (sym (ap (λ (s : Row). s.left) e)) (free_front (omega arith) f))

    still_proper : (i : ℕ) (r : Row) → i < length B.rows → Proper B i r → Proper (without B A) i r
    still_proper i r h constant_0 = constant_0
    still_proper i r h constant_1 = constant_1
    still_proper i r h (state {q} m) = let e = length_roots in state (omega arith)
    still_proper i r h (signal {s} m) =
        let e = signals_are in
        let l = larger_left B.signals A.signals in
        signal (omega arith)
    still_proper i r h (conjunction m o) = conjunction m o
    still_proper i r h (disjunction m o) = disjunction m o
    still_proper i r h (negation {j} m f) = negation m (free_front (omega arith) f)

    -- every row is one that a pattern may have
    pub rows_proper : (i : ℕ) → i < length (without B A).rows → Proper (without B A) i (row (without B A) i)
    rows_proper i h =
        let b = length B.rows in
        let N = length A.rows in
        let e = length_rows in
        let P : ℕ → Type 0 = λ k. Proper (without B A) k (row (without B A) k) in
        let Q : Row → Type 0 = λ r. Proper (without B A) i r in
        let last : row_count_of B A ≡ i → Proper (without B A) i (row (without B A) i) = λ y.
        let p = G.rooted B.start G.starts in
        let q = F.rooted A.start F.starts in
        subst Q (sym (ap (row (without B A)) (sym y) ∙ row_last)) (conjunction (omega arith) (omega arith)) in
        ⊎_elim
        (λ (l : i < b). subst Q (sym (row_front i l)) (still_proper i (row B i) l (G.proper i l)))
        (λ (l : b ≤ i). ⊎_elim
        (λ (m : (k : ℕ) × (i - b ≡ 2 * k)).
        let y = m.1 in
        ⊎_elim
        (λ (o : m.0 < N).
        let z : copy_at b m.0 ≡ i = omega arith in
        subst P z (copies_proper A (without B A) b (states B) F pair_dualised m.0 o))
        (λ (o : N ≤ m.0). last (omega arith))
        (cases_lt m.0 N))
        (λ (m : (k : ℕ) × (i - b ≡ 2 * k + 1)).
        let y = m.1 in
        let z : dual_at b m.0 ≡ i = omega arith in
        subst P z (duals_proper A (without B A) b (states B) F pair_dualised m.0 (omega arith)))
        (halves (i - b)))
        (cases_lt i b)

    roots_below : (q : ℕ) → q < states (without B A) → root (without B A) q < length (without B A).rows
    roots_below q h =
        let n = length_roots in
        let e = length_rows in
        ⊎_elim
        (λ (l : q < states B). let y = root_front q l in let z = G.rooted q l in omega arith)
        (λ (l : states B ≤ q). ⊎_elim
        (λ (m : q < state_count_of B A).
        let x : states B + (q - states B) ≡ q = omega arith in
        let k : q - states B < states A = omega arith in
        let y : root (without B A) q ≡ dual_at (length B.rows) (root A (q - states B)) =
        ap (root (without B A)) (sym x) ∙ root_middle (q - states B) k in
        let z = F.rooted (q - states B) k in
        omega arith)
        (λ (m : state_count_of B A ≤ q).
        let x : state_count_of B A ≡ q = omega arith in
        let y : root (without B A) q ≡ row_count_of B A = ap (root (without B A)) (sym x) ∙ root_last in
        omega arith)
        (cases_lt q (state_count_of B A)))
        (cases_lt q (states B))

    pub start_is : (without B A).start ≡ state_count_of B A
    unfolding without
    start_is = refl

    ends_below : Below (without B A).finals (state_count_of B A + 1)
    unfolding without
    ends_below q e = (in_set_of (final_in B A) (state_count_of B A + 1) q e).0

    -- within the sizes of a pattern it is a pattern
    pub pair_formed : Fits B A → Formed (without B A)
    pair_formed s =
        let n = length_roots in
        let N = length_rows in
        let m = signals_are in
        let k = larger_below B.signals A.signals 16 G.few_signals F.few_signals in
        let t = start_is in
        let s0 = s.0 in
        let s1 = s.1 in
        record {
          some_states = omega arith;
          few_states = omega arith;
          few_signals = omega arith;
          some_rows = omega arith;
          few_rows = omega arith;
          starts = omega arith;
          ends = λ q e. let l = ends_below q e in omega arith;
          rooted = roots_below;
          proper = rows_proper;
        }
