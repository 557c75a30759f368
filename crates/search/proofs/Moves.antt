-- The least move that leads back to something new: what it tells, and when it is found. Assumes nothing.
use Rattle.std.proofs.Common.{◌≡◌, ℕ, ◌<◌, Bool, true, false, List, Some, None, Option, sym, refl, ap, ◌∙◌, subst, inl, inr}
use Rattle.std.specs.Option.{option_map}
use Rattle.std.proofs.lemmas.Bool.{cases_lt, both_ways, false≢true, not-true, not_from_false}
use Rattle.kinds.specs.Shape.{Shape}
use Rattle.kinds.specs.Laws.{Laws}
use Rattle.kinds.specs.Accepted.{and_then}
use Rattle.kinds.specs.Certificate.{covered}
use Rattle.kinds.proofs.Values.{none_some, none_or_some, from_value, true_if_not_false}
use Rattle.inspector.specs.Inspected.{least, has_such, uncovered, leads_out}
use Rattle.inspector.proofs.Finds.{KeptIn}
use Rattle.inspector.proofs.Leasts.{least_missing, least_first, least_fails, least_found}
use Rattle.search.specs.Search.{least_move_of}
use Rattle.search.proofs.Entries.{mapped_from}

-- a value that passes a test
passing : {A : Type 0} (p : A → Bool) (o : Option A) → has_such p o ≡ true → (a : A) × (o ≡ Some a) × (p a ≡ true)
passing p None h = absurd (false≢true h)
passing p (Some a) h = (a, refl, h)

module _ {C : Type 0} (s : Shape C) (h : List C) (y : C) where
  new_leads : (k : ℕ) (x : C) → s.back k y ≡ Some x → covered s h x ≡ false → leads_out s h k y ≡ true
  new_leads k x b u = ap (has_such (uncovered s h)) b ∙ not_from_false (covered s h x) u

  -- the answer is the least number that passes, with where it leads
  with_least : (k : ℕ) (x : C) → least (λ k. leads_out s h k y) s.moves ≡ Some k → s.back k y ≡ Some x → least_move_of s h y ≡ Some (k, x)
  with_least k x e b = ap (λ o. and_then o (λ k. option_map (λ x. (k, x)) (s.back k y))) e ∙ ap (option_map (λ x. (k, x))) b

  -- ---- what an answer tells

  pub nothing_new : Laws s → least_move_of s h y ≡ None → (k : ℕ) (x : C) → s.back k y ≡ Some x → covered s h x ≡ true
  nothing_new laws n k x b = elim (none_or_some (least (λ k. leads_out s h k y) s.moves)) [
    | inr m ↦
        let f = least_found (λ k. leads_out s h k y) s.moves m.0 m.1 in
        let v = passing (uncovered s h) (s.back m.0 y) f.1 in
        none_some n (with_least m.0 v.0 m.1 v.1)
    | inl m ↦ elim (cases_lt k s.moves) [
      | inr l ↦ none_some (laws.no_move k y l) b
      | inl l ↦ true_if_not_false (covered s h x) (λ u. both_ways (leads_out s h k y) (least_fails (λ k. leads_out s h k y) s.moves m k l) (new_leads k x b u))
    ]
  ]

  pub something_new : (a : ℕ × C) → least_move_of s h y ≡ Some a → (a.0 < s.moves) × (s.back a.0 y ≡ Some a.1) × (covered s h a.1 ≡ false)
  something_new a e =
      let m = from_value (least (λ k. leads_out s h k y) s.moves) (λ k. option_map (λ x. (k, x)) (s.back k y)) a e in
      let v = mapped_from (λ (x : C). (m.0, x)) (s.back m.0 y) a m.2 in
      let f = least_found (λ k. leads_out s h k y) s.moves m.0 m.1 in
      let u : covered s h v.0 ≡ false = not-true (covered s h v.0) (sym (ap (has_such (uncovered s h)) v.1) ∙ f.1) in
      subst (λ (b : ℕ × C). (b.0 < s.moves) × (s.back b.0 y ≡ Some b.1) × (covered s h b.1 ≡ false)) v.2 (f.0, v.1, u)

  -- ---- when an answer comes

  pub finds_nothing : KeptIn s h s.moves y → least_move_of s h y ≡ None
  finds_nothing k = ap (λ o. and_then o (λ k. option_map (λ x. (k, x)) (s.back k y))) (least_missing (λ k. leads_out s h k y) s.moves k)

  pub finds_move : (k : ℕ) (x : C) → k < s.moves → s.back k y ≡ Some x → covered s h x ≡ false → KeptIn s h k y → least_move_of s h y ≡ Some (k, x)
  finds_move k x l b u kept = with_least k x (least_first (λ k. leads_out s h k y) s.moves k l (new_leads k x b u) kept) b
