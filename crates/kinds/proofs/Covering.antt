-- What a list covers: by its entries, and by two lists joined. Assumes nothing.
use Rattle.std.proofs.Common.{◌≡◌, ℕ, zero, suc, Bool, true, false, ◌||◌, List, [], ◌∷◌, ◌++◌, Some, Decides, refl, ap, ◌∙◌, inl, inr}
use Rattle.std.specs.List.{slice_get, list_any}
use Rattle.std.proofs.lemmas.Bool.{false≢true, or_cases, or_left, or_right}
use Rattle.kinds.specs.Shape.{Shape}
use Rattle.kinds.specs.Laws.{Laws}
use Rattle.kinds.specs.Certificate.{covered, CoveringEntry}

-- joining is associative
or_assoc : (x y z : Bool) → (x || (y || z)) ≡ ((x || y) || z)
or_assoc true y z = refl
or_assoc false y z = refl

module _ {C : Type 0} (s : Shape C) where
  -- where a list covers x, an entry does
  pub covering_entry : (xs : List C) (x : C) → covered s xs x ≡ true → CoveringEntry s xs x
  covering_entry [] x h = absurd (false≢true h)
  covering_entry (y ∷ ys) x h = elim (or_cases (s.within x y) (covered s ys x) h) [
    | inl w ↦ record { place = 0; entry = y; there = refl; covers = w }
    | inr t ↦
        let e = covering_entry ys x t in
        record { place = suc e.place; entry = e.entry; there = e.there; covers = e.covers }
  ]

  -- what an entry covers, the list covers
  pub entry_covers : (xs : List C) (i : ℕ) (x y : C) → slice_get xs i ≡ Some y → s.within x y ≡ true → covered s xs x ≡ true
  entry_covers [] i x y e w = cc
  entry_covers (v ∷ vs) zero x y e w = let q : v ≡ y = cc in or_left (s.within x v) (covered s vs x) (ap (s.within x) q ∙ w)
  entry_covers (v ∷ vs) (suc i) x y e w = or_right (s.within x v) (covered s vs x) (entry_covers vs i x y e w)

  -- a list covers x exactly if some entry does
  pub covered_decides : (xs : List C) (x : C) → Decides (covered s xs x) (CoveringEntry s xs x)
  covered_decides xs x = (covering_entry xs x, λ e. entry_covers xs e.place x e.entry e.there e.covers)

  -- two lists joined cover what either covers
  pub covered_append : (xs ys : List C) (x : C) → covered s (xs ++ ys) x ≡ (covered s xs x || covered s ys x)
  covered_append [] ys x = refl
  covered_append (v ∷ vs) ys x = ap (λ b. s.within x v || b) (covered_append vs ys x) ∙ or_assoc (s.within x v) (covered s vs x) (covered s ys x)

  -- what is within a covered configuration is covered
  pub covered_within :
      Laws s → (xs : List C) → ((i : ℕ) (y : C) → slice_get xs i ≡ Some y → s.fits y ≡ true)
      → (x y : C) → s.fits x ≡ true → s.fits y ≡ true → s.within x y ≡ true → covered s xs y ≡ true → covered s xs x ≡ true
  covered_within laws xs fit x y fx fy w h =
      let e = covering_entry xs y h in
      entry_covers xs e.place x e.entry e.there
      (laws.transitive x y e.entry fx fy (fit e.place e.entry e.there) w e.covers)

  -- to ask each entry whether it covers x is to ask whether the list does
  pub any_covers : (xs : List C) (x : C) → list_any (s.within x) xs ≡ covered s xs x
  any_covers [] x = refl
  any_covers (y ∷ ys) x = ap (λ b. s.within x y || b) (any_covers ys x)
