-- The least number below n that passes a test: when it is found, and what it tells. Assumes nothing.
use Rattle.std.proofs.Common.{◌≡◌, ℕ, zero, suc, ◌<◌, Bool, true, false, ◌⊎◌, Some, None, Decides, Option, sym, refl, ap, ◌∙◌, inl, inr, le_of_suc-le-suc, not-suc-le-zero, eq-or-lt_of_le, arith}
use Rattle.std.specs.Option.{option_or}
use Rattle.std.specs.Bool.{then_some}
use Rattle.std.proofs.lemmas.Bool.{both_ways}
use Rattle.kinds.proofs.Values.{none_some}
use Rattle.inspector.specs.Inspected.{least}
use Rattle.inspector.specs.Meaning.{Least, Nowhere}

-- nothing found yet, and not here
kept : (o : Option ℕ) (b : Bool) (n : ℕ) → option_or o (then_some b n) ≡ None → (o ≡ None) × (b ≡ false)
kept None true n e = none_some e refl
kept None false n e = (refl, refl)
kept (Some k) b n e = none_some e refl

-- found before, or here
taken : (o : Option ℕ) (b : Bool) (n k : ℕ) → option_or o (then_some b n) ≡ Some k → (o ≡ Some k) ⊎ ((o ≡ None) × (b ≡ true) × (n ≡ k))
taken None true n k e = inr (refl, refl, cc)
taken None false n k e = none_some refl e
taken (Some j) b n k e = inl e

module _ (p : ℕ → Bool) where
  -- where every number fails the test, none is found
  pub least_missing : (n : ℕ) → ((j : ℕ) → j < n → p j ≡ false) → least p n ≡ None
  unfolding least
  least_missing zero h = refl
  least_missing (suc n) h =
      let a : least p n ≡ None = least_missing n (λ j l. h j (omega arith)) in
      let b : p n ≡ false = h n (omega arith) in
      rw (a, b)

  -- a number that passes is found if all before it fail
  pub least_first : (n k : ℕ) → k < n → p k ≡ true → ((j : ℕ) → j < k → p j ≡ false) → least p n ≡ Some k
  unfolding least
  least_first zero k l t h = absurd (not-suc-le-zero l)
  least_first (suc n) k l t h = elim (eq-or-lt_of_le (le_of_suc-le-suc l)) [
    | inl q ↦
        let a : least p n ≡ None = least_missing n (λ j m. h j (omega arith)) in
        let b : p n ≡ true = ap p (sym q) ∙ t in
        rw (a, b) (ap Some (sym q))
    | inr m ↦ rw (least_first n k m t h)
  ]

  -- where none is found, every number fails the test
  pub least_fails : (n : ℕ) → least p n ≡ None → (k : ℕ) → k < n → p k ≡ false
  unfolding least
  least_fails zero h k l = absurd (not-suc-le-zero l)
  least_fails (suc n) h k l =
      let r = kept (least p n) (p n) n h in
      elim (eq-or-lt_of_le (le_of_suc-le-suc l)) [
        | inl q ↦ ap p q ∙ r.1
        | inr m ↦ least_fails n r.0 k m
      ]

  -- what is found passes, and nothing is found before it
  pub least_found : (n k : ℕ) → least p n ≡ Some k → (k < n) × (p k ≡ true) × (least p k ≡ None)
  unfolding least
  least_found zero k e = none_some refl e
  least_found (suc n) k e = elim (taken (least p n) (p n) n k e) [
    | inl q ↦ let r = least_found n k q in (omega (arith, r.0), r.1, r.2)
    | inr q ↦ let i = q.2 in (omega arith, ap p (sym i) ∙ q.1, ap (least p) (sym i) ∙ q.0)
  ]

-- The same of a property that the test decides, and that only numbers below n have.
module _ (p : ℕ → Bool) (P : ℕ → Type 0) (decides : (i : ℕ) → Decides (p i) (P i)) (n : ℕ) (below : (i : ℕ) → P i → i < n) where
  pub nowhere : least p n ≡ None → Nowhere P
  nowhere e i h = both_ways (p i) (least_fails p n e i (below i h)) ((decides i).1 h)

  pub least_place : (i : ℕ) → least p n ≡ Some i → Least P i
  least_place i e =
      let r = least_found p n i e in
      record { here = (decides i).0 r.1; before = λ j l h. both_ways (p j) (least_fails p i r.2 j l) ((decides j).1 h) }
