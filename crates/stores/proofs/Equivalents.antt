-- Configurations that are within each other: where a list has one alike, and that it is covered. Assumes nothing.
use Rattle.std.proofs.Common.{◌≡◌, ℕ, zero, suc, true, List, [], ◌∷◌, Some, refl, ap, ◌∙◌, inl, inr}
use Rattle.std.specs.List.{slice_get}
use Rattle.std.proofs.lemmas.Bool.{false≢true, and_parts, or_cases, or_left, or_right}
use Rattle.kinds.specs.Shape.{Shape}
use Rattle.kinds.specs.Certificate.{covered}
use Rattle.kinds.proofs.Values.{none_some}
use Rattle.kinds.proofs.Covering.{entry_covers}
use Rattle.stores.specs.Holding.{alike}
use Rattle.stores.specs.Equivalence.{equivalent}

module _ {C : Type 0} (s : Shape C) (x : C) where
  -- where a list has one alike, an entry is
  pub alike_entry : (xs : List C) → alike s xs x ≡ true → (i : ℕ) × (y : C) × (slice_get xs i ≡ Some y) × (equivalent s x y ≡ true)
  alike_entry [] h = absurd (false≢true h)
  alike_entry (y ∷ ys) h = elim (or_cases (equivalent s x y) (alike s ys x) h) [
    | inl m ↦ (0, y, refl, m)
    | inr t ↦ let e = alike_entry ys t in (suc e.0, e.1, e.2, e.3)
  ]

  -- an entry alike is found in the list
  pub entry_alike : (xs : List C) (i : ℕ) (y : C) → slice_get xs i ≡ Some y → equivalent s x y ≡ true → alike s xs x ≡ true
  entry_alike [] i y e m = none_some refl e
  entry_alike (v ∷ vs) zero y e m = let q : v ≡ y = cc in or_left (equivalent s x v) (alike s vs x) (ap (equivalent s x) q ∙ m)
  entry_alike (v ∷ vs) (suc i) y e m = or_right (equivalent s x v) (alike s vs x) (entry_alike vs i y e m)

  -- what is held is covered
  pub alike_covered : (xs : List C) → alike s xs x ≡ true → covered s xs x ≡ true
  alike_covered xs h =
      let e = alike_entry xs h in
      entry_covers s xs e.0 x e.1 e.2 (and_parts (s.within x e.1) (s.within e.1 x) e.3).0
