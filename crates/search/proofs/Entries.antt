-- Entries of a list with one more behind it, what a filter keeps, and what is found or not. Assumes nothing.
use Rattle.std.proofs.Common.{◌≡◌, ℕ, zero, suc, ◌-◌, Bool, true, false, ◌⊎◌, List, [], ◌∷◌, ◌++◌, map, length, is_some, Some, None, filter, Option, sym, refl, ap, ◌∙◌, subst, inl, inr, ⊎_elim, arith, length-append}
use Rattle.std.specs.List.{slice_get}
use Rattle.std.specs.Option.{option_map}
use Rattle.std.proofs.lemmas.Option.{slice_get_within, slice_get-map}
use Rattle.kinds.proofs.Lists.{nth_left, nth_seam}
use Rattle.std.proofs.lemmas.Bool.{cond_both, cond-true, true≢false}
use Rattle.kinds.proofs.Values.{none_some}
use Rattle.inspector.specs.Inspected.{if_found}

-- an option that has no value
pub no_value : {A : Type 0} (o : Option A) → is_some o ≡ false → o ≡ None
no_value None e = refl
no_value (Some a) e = absurd (true≢false e)

-- what holds of every value that may be found, and of what comes else, holds of what is made of the answer
pub found_both : {A B : Type 0} (P : B → Type 0) (o : Option A) (f : A → B) (b : B) → ((a : A) → o ≡ Some a → P (f a)) → (o ≡ None → P b) → P (if_found o f b)
found_both P None f b p q = q refl
found_both P (Some a) f b p q = p a refl

-- what a function makes of an option comes of a value
pub mapped_from : {A B : Type 0} (f : A → B) (o : Option A) (b : B) → option_map f o ≡ Some b → (a : A) × (o ≡ Some a) × (f a ≡ b)
mapped_from f None b h = none_some refl h
mapped_from f (Some a) b h = (a, refl, cc)

module _ {A : Type 0} where
  -- P holds of each entry
  abbrev pub Each : (A → Type 0) → List A → Type 0
  Each P xs = (i : ℕ) (x : A) → slice_get xs i ≡ Some x → P x

  pub same_entry : (xs : List A) (i : ℕ) (x y : A) → slice_get xs i ≡ Some x → slice_get xs i ≡ Some y → x ≡ y
  same_entry xs i x y e f = cc

  -- ---- one more entry

  pub one_longer : (xs : List A) (y : A) → length (xs ++ y ∷ []) ≡ suc (length xs)
  one_longer xs y = simp length-append (omega arith)

  pub earlier_entry : (xs ys : List A) (i : ℕ) (x : A) → slice_get xs i ≡ Some x → slice_get (xs ++ ys) i ≡ Some x
  earlier_entry xs ys i x e = nth_left xs ys i (slice_get_within xs i x e) ∙ e

  pub last_entry : (xs : List A) (y : A) → slice_get (xs ++ y ∷ []) (length (xs ++ y ∷ []) - 1) ≡ Some y
  last_entry xs y =
      let m = one_longer xs y in
      let q : length (xs ++ y ∷ []) - 1 ≡ length xs = omega arith in
      ap (slice_get (xs ++ y ∷ [])) q ∙ nth_seam xs y

  pub either_entry : (xs : List A) (y : A) (i : ℕ) (z : A) → slice_get (xs ++ y ∷ []) i ≡ Some z → (slice_get xs i ≡ Some z) ⊎ ((i ≡ length xs) × (y ≡ z))
  either_entry [] y zero z e = inr (refl, cc)
  either_entry [] y (suc i) z e = none_some refl e
  either_entry (v ∷ vs) y zero z e = inl e
  either_entry (v ∷ vs) y (suc i) z e = ⊎_elim inl (λ (t : (i ≡ length vs) × (y ≡ z)). inr (ap suc t.0, t.1)) (either_entry vs y i z e)

  pub each_more : (P : A → Type 0) (xs : List A) (y : A) → Each P xs → P y → Each P (xs ++ y ∷ [])
  each_more P xs y f p i z e = ⊎_elim (f i z) (λ (t : (i ≡ length xs) × (y ≡ z)). subst P t.1 p) (either_entry xs y i z e)

  -- ---- what a filter keeps

  module _ (p : A → Bool) where
    pub kept_from : (xs : List A) (i : ℕ) (x : A) → slice_get (filter p xs) i ≡ Some x → (j : ℕ) × (slice_get xs j ≡ Some x)
    kept_from [] i x e = (i, e)
    kept_from (v ∷ vs) i x e = cond_both (p v) (v ∷ filter p vs) (filter p vs)
        (λ zs. (i : ℕ) → slice_get zs i ≡ Some x → (j : ℕ) × (slice_get (v ∷ vs) j ≡ Some x))
        (λ _. whole (λ i. kept_from vs i x)) (λ _ i e. let m = kept_from vs i x e in (suc m.0, m.1)) i e
      where
        whole : ((i : ℕ) → slice_get (filter p vs) i ≡ Some x → (j : ℕ) × (slice_get vs j ≡ Some x)) → (i : ℕ) → slice_get (v ∷ filter p vs) i ≡ Some x → (j : ℕ) × (slice_get (v ∷ vs) j ≡ Some x)
        whole rest zero e = (0, e)
        whole rest (suc i) e = let m = rest i e in (suc m.0, m.1)

    pub kept_in : (xs : List A) (j : ℕ) (x : A) → slice_get xs j ≡ Some x → p x ≡ true → (i : ℕ) × (slice_get (filter p xs) i ≡ Some x)
    kept_in [] j x e t = none_some refl e
    kept_in (v ∷ vs) zero x e t =
        let q : v ≡ x = cc in
        (0, ap (λ zs. slice_get zs 0) (cond-true (p v) (v ∷ filter p vs) (filter p vs) (ap p q ∙ t)) ∙ e)
    kept_in (v ∷ vs) (suc j) x e t =
        let m = kept_in vs j x e t in
        cond_both (p v) (v ∷ filter p vs) (filter p vs) (λ zs. (i : ℕ) × (slice_get zs i ≡ Some x)) (λ _. (suc m.0, m.1)) (λ _. m)

  -- an entry of a list that a function is taken over
  pub map_from : {B : Type 0} (f : A → B) (xs : List A) (i : ℕ) (b : B) → slice_get (map f xs) i ≡ Some b → (a : A) × (slice_get xs i ≡ Some a) × (f a ≡ b)
  map_from f xs i b e = mapped_from f (slice_get xs i) b (sym (slice_get-map f xs i) ∙ e)
