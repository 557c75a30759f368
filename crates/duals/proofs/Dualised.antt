-- An automaton that has the dual of another in its tables: its rows are proper, and its values and steps are opposite.
use Rattle.std.proofs.Common.{◌≡◌, ℕ, zero, suc, ◌+◌, ◌*◌, ◌<◌, ◌≤◌, Bool, true, false, not, length, get_or, sym, ap, ◌∙◌, subst, inl, inr, ⊎_elim, arith}
use Rattle.std.proofs.lemmas.Bool.{and_parts, both_ways, cases_Bool, true≢false, false≢true}
use Rattle.sets.specs.Sets.{has}
use Rattle.patterns.specs.declared.row.Row.{Row}
use Rattle.patterns.specs.Automaton.{Automaton, states, root, row}
use Rattle.patterns.specs.Questions.{free}
use Rattle.patterns.specs.Formed.{StateFree, leaf, pair, negated, Proper, constant_0, constant_1, state, signal, conjunction, disjunction, negation, Formed}
use Rattle.patterns.proofs.Marking.{marks, marked}
use Rattle.duals.specs.Dual.{copy_at, dual_at, copied, exchanged, row_copy, row_dual}
use Rattle.duals.proofs.Marked.{is_free, free_marked}

-- E has the dual of A: the pairs of A's rows from row b on, and A's states from state n on, opposite at the ends
pub record Dualised (A E : Automaton) (b n : ℕ) : Type 0 where
  pub long : b + 2 * length A.rows ≤ length E.rows
  pub signals : A.signals ≤ E.signals
  pub fits : n + states A ≤ states E
  pub copies : (i : ℕ) → i < length A.rows → row E (copy_at b i) ≡ row_copy b (is_free A i) (row A i)
  pub duals : (i : ℕ) → i < length A.rows → row E (dual_at b i) ≡ row_dual b n i (is_free A i) (row A i)
  pub roots : (q : ℕ) → q < states A → root E (n + q) ≡ dual_at b (root A q)
  pub ends : (q : ℕ) → q < states A → has E.finals (n + q) ≡ not (has A.finals q)

module _ (A E : Automaton) (b n : ℕ) (F : Formed A) (D : Dualised A E b n) where
  -- an operand that its row's marks say is free of states is marked so itself
  pub operand : (i j : ℕ) → i ≤ length A.rows → j < i → get_or (marks A i) j false ≡ true → is_free A j ≡ true
  operand i j l h e = sym (marked A i l j h) ∙ e

  free_copy : (i x : ℕ) (r : Row) → i ≤ length A.rows → Proper A i r → free (marks A i) r ≡ true → row E x ≡ copied b r
      → ((j : ℕ) → j < i → is_free A j ≡ true → StateFree E (copy_at b j)) → StateFree E x
  free_copy i x r l constant_0 f e ih = leaf (inl (let o = ap (λ (s : Row). s.operation) e in omega arith))
  free_copy i x r l constant_1 f e ih = leaf (inl (let o = ap (λ (s : Row). s.operation) e in omega arith))
  free_copy i x r l (state m) f e ih = absurd (false≢true f)
  free_copy i x r l (signal m) f e ih = leaf (inr (ap (λ (s : Row). s.operation) e))
  free_copy i x r l (conjunction {j} {k} m o) f e ih =
      let p = and_parts (get_or (marks A i) j false) (get_or (marks A i) k false) f in
      let P : ℕ → Type 0 = λ y. StateFree E y in
      pair (inl (ap (λ (s : Row). s.operation) e))
      (subst P (sym (ap (λ (s : Row). s.left) e)) (ih j m (operand i j l m p.0)))
      (subst P (sym (ap (λ (s : Row). s.right) e)) (ih k o (operand i k l o p.1)))
  free_copy i x r l (disjunction {j} {k} m o) f e ih =
      let p = and_parts (get_or (marks A i) j false) (get_or (marks A i) k false) f in
      let P : ℕ → Type 0 = λ y. StateFree E y in
      pair (inr (ap (λ (s : Row). s.operation) e))
      (subst P (sym (ap (λ (s : Row). s.left) e)) (ih j m (operand i j l m p.0)))
      (subst P (sym (ap (λ (s : Row). s.right) e)) (ih k o (operand i k l o p.1)))
  free_copy i x r l (negation {j} m g) f e ih =
      let P : ℕ → Type 0 = λ y. StateFree E y in
      negated (ap (λ (s : Row). s.operation) e) (subst P (sym (ap (λ (s : Row). s.left) e)) (ih j m (operand i j l m f)))

  pub copy_is : (i : ℕ) → i < length A.rows → is_free A i ≡ true → row E (copy_at b i) ≡ copied b (row A i)
  copy_is i h e = D.copies i h ∙ ap (λ (f : Bool). row_copy b f (row A i)) e

  -- the copy of a row free of states is free of states
  pub copies_free : (k i : ℕ) → i < k → i < length A.rows → is_free A i ≡ true → StateFree E (copy_at b i)
  copies_free zero i l h e = absurd (omega arith)
  copies_free (suc k) i l h e =
      free_copy i (copy_at b i) (row A i) (omega arith) (F.proper i h) e (copy_is i h e)
      (λ j m. copies_free k j (omega arith) (omega arith))

  proper_copied : (i : ℕ) (r : Row) → i < length A.rows → Proper A i r → free (marks A i) r ≡ true
      → Proper E (copy_at b i) (copied b r)
  proper_copied i r l constant_0 f = constant_0
  proper_copied i r l constant_1 f = constant_1
  proper_copied i r l (state m) f = absurd (false≢true f)
  proper_copied i r l (signal {s} m) f = signal (omega (arith, D.signals))
  proper_copied i r l (conjunction {j} {k} m o) f = conjunction (omega arith) (omega arith)
  proper_copied i r l (disjunction {j} {k} m o) f = disjunction (omega arith) (omega arith)
  proper_copied i r l (negation {j} m g) f =
      negation (omega arith) (copies_free (1 + j) j (omega arith) (omega arith) (operand i j (omega arith) m f))

  proper_exchanged : (i : ℕ) (r : Row) → i < length A.rows → Proper A i r → free (marks A i) r ≡ false
      → Proper E (dual_at b i) (exchanged b n r)
  proper_exchanged i r l constant_0 f = absurd (true≢false f)
  proper_exchanged i r l constant_1 f = absurd (true≢false f)
  proper_exchanged i r l (state {q} m) f = state (omega (arith, D.fits))
  proper_exchanged i r l (signal m) f = absurd (true≢false f)
  proper_exchanged i r l (conjunction {j} {k} m o) f = disjunction (omega arith) (omega arith)
  proper_exchanged i r l (disjunction {j} {k} m o) f = conjunction (omega arith) (omega arith)
  proper_exchanged i r l (negation {j} m g) f =
      absurd (both_ways (get_or (marks A i) j false) f (free_marked A F g i m (omega arith)))

  pub dual_free : (i : ℕ) → i < length A.rows → is_free A i ≡ true
      → row E (dual_at b i) ≡ record { operation = 6; left = copy_at b i; right = 0 }
  dual_free i h e = D.duals i h ∙ ap (λ (f : Bool). row_dual b n i f (row A i)) e

  pub dual_bound : (i : ℕ) → i < length A.rows → is_free A i ≡ false → row E (dual_at b i) ≡ exchanged b n (row A i)
  dual_bound i h e = D.duals i h ∙ ap (λ (f : Bool). row_dual b n i f (row A i)) e

  pub copies_proper : (i : ℕ) → i < length A.rows → Proper E (copy_at b i) (row E (copy_at b i))
  copies_proper i h =
      let P : Row → Type 0 = λ r. Proper E (copy_at b i) r in
      ⊎_elim
      (λ (e : is_free A i ≡ true). subst P (sym (copy_is i h e)) (proper_copied i (row A i) h (F.proper i h) e))
      (λ (e : is_free A i ≡ false). subst P (sym (D.copies i h ∙ ap (λ (f : Bool). row_copy b f (row A i)) e)) constant_0)
      (cases_Bool (is_free A i))

  pub duals_proper : (i : ℕ) → i < length A.rows → Proper E (dual_at b i) (row E (dual_at b i))
  duals_proper i h =
      let P : Row → Type 0 = λ r. Proper E (dual_at b i) r in
      ⊎_elim
      (λ (e : is_free A i ≡ true).
      subst P (sym (dual_free i h e)) (negation (omega arith) (copies_free (1 + i) i (omega arith) h e)))
      (λ (e : is_free A i ≡ false). subst P (sym (dual_bound i h e)) (proper_exchanged i (row A i) h (F.proper i h) e))
      (cases_Bool (is_free A i))
