-- The order of what is held changes neither what is covered, nor what is alike, nor that none is within another. Assumes nothing.
use Rattle.std.proofs.Common.{◌≡◌, ℕ, zero, suc, Bool, true, false, cond, ◌&&◌, ◌||◌, List, [], ◌∷◌, ◌++◌, length, Some, refl, ap, ◌∙◌, arith}
use Rattle.std.specs.List.{slice_get}
use Rattle.kinds.specs.Shape.{Shape}
use Rattle.kinds.specs.Certificate.{covered}
use Rattle.stores.specs.Holding.{Reordered, none, same, swap, next, Apart, dropped, inserted, alike}

module _ {X : Type 0} where
  pub reordered_refl : (xs : List X) → Reordered xs xs
  reordered_refl [] = none
  reordered_refl (x ∷ xs) = same (reordered_refl xs)

  pub reordered_sym : {xs ys : List X} → Reordered xs ys → Reordered ys xs
  reordered_sym none = none
  reordered_sym (same p) = same (reordered_sym p)
  reordered_sym swap = swap
  reordered_sym (next p q) = next (reordered_sym q) (reordered_sym p)

  -- a list that is equal to another has its entries
  pub reordered_from : (xs ys : List X) → ys ≡ xs → Reordered xs ys
  reordered_from xs ys e = rw e (reordered_refl xs)

  pub reordered_length : {xs ys : List X} → Reordered xs ys → length xs ≡ length ys
  reordered_length none = refl
  reordered_length (same p) = ap suc (reordered_length p)
  reordered_length swap = refl
  reordered_length (next p q) = reordered_length p ∙ reordered_length q

  -- with the same entries behind them, too
  pub reordered_append : {xs ys : List X} → Reordered xs ys → (zs : List X) → Reordered (xs ++ zs) (ys ++ zs)
  reordered_append none zs = reordered_refl zs
  reordered_append (same p) zs = same (reordered_append p zs)
  reordered_append swap zs = swap
  reordered_append (next p q) zs = next (reordered_append p zs) (reordered_append q zs)

-- ---- where an entry stood before

-- the first place stays, and the others go as f says
behind_first : (ℕ → ℕ) → ℕ → ℕ
behind_first f zero = zero
behind_first f (suc i) = suc (f i)

-- the first two places change
crossed : ℕ → ℕ
crossed zero = 1
crossed (suc zero) = 0
crossed (suc (suc i)) = suc (suc i)

-- the place in xs of each entry of ys; no two entries have one place
record Places {X : Type 0} (xs ys : List X) : Type 0 where
  place : ℕ → ℕ
  there : (i : ℕ) (y : X) → slice_get ys i ≡ Some y → slice_get xs (place i) ≡ Some y
  one : (i j : ℕ) → place i ≡ place j → i ≡ j

module _ {X : Type 0} where
  places_same : (x : X) (xs ys : List X) → Places xs ys → Places (x ∷ xs) (x ∷ ys)
  unfolding behind_first
  places_same x xs ys q = record { place = behind_first q.place; there = there; one = one }
    where
      there : (i : ℕ) (y : X) → slice_get (x ∷ ys) i ≡ Some y → slice_get (x ∷ xs) (behind_first q.place i) ≡ Some y
      there zero y e = e
      there (suc i) y e = q.there i y e

      one : (i j : ℕ) → behind_first q.place i ≡ behind_first q.place j → i ≡ j
      one zero zero e = refl
      one zero (suc j) e = absurd (omega arith)
      one (suc i) zero e = absurd (omega arith)
      one (suc i) (suc j) e = ap suc (q.one i j (omega arith))

  places_swap : (x y : X) (zs : List X) → Places (x ∷ y ∷ zs) (y ∷ x ∷ zs)
  unfolding crossed
  places_swap x y zs = record { place = crossed; there = there; one = one }
    where
      there : (i : ℕ) (v : X) → slice_get (y ∷ x ∷ zs) i ≡ Some v → slice_get (x ∷ y ∷ zs) (crossed i) ≡ Some v
      there zero v e = e
      there (suc zero) v e = e
      there (suc (suc i)) v e = e

      one : (i j : ℕ) → crossed i ≡ crossed j → i ≡ j
      one zero zero e = refl
      one zero (suc zero) e = absurd (omega arith)
      one zero (suc (suc j)) e = absurd (omega arith)
      one (suc zero) zero e = absurd (omega arith)
      one (suc zero) (suc zero) e = refl
      one (suc zero) (suc (suc j)) e = absurd (omega arith)
      one (suc (suc i)) zero e = absurd (omega arith)
      one (suc (suc i)) (suc zero) e = absurd (omega arith)
      one (suc (suc i)) (suc (suc j)) e = e

  places : {xs ys : List X} → Reordered xs ys → Places xs ys
  places none = record { place = λ i. i; there = λ i y e. e; one = λ i j e. e }
  places (same {x = x} {xs = xs} {ys = ys} p) = places_same x xs ys (places p)
  places (swap {x = x} {y = y} {xs = zs}) = places_swap x y zs
  places (next p q) =
      let a = places p in
      let b = places q in
      record {
        place = λ i. a.place (b.place i);
        there = λ i y e. a.there (b.place i) y (b.there i y e);
        one = λ i j e. b.one i j (a.one (b.place i) (b.place j) e);
      }

  -- an entry of either list is an entry of the other
  pub reordered_entry : {xs ys : List X} → Reordered xs ys → (i : ℕ) (y : X) → slice_get ys i ≡ Some y → (j : ℕ) × (slice_get xs j ≡ Some y)
  reordered_entry p i y e = let q = places p in (q.place i, q.there i y e)

-- ---- what a store answers

or_swap : (p q r : Bool) → (p || (q || r)) ≡ (q || (p || r))
or_swap true true r = refl
or_swap true false r = refl
or_swap false true r = refl
or_swap false false r = refl

module _ {C : Type 0} (s : Shape C) where
  pub covered_reordered : (x : C) {xs ys : List C} → Reordered xs ys → covered s xs x ≡ covered s ys x
  covered_reordered x none = refl
  covered_reordered x (same {x = y} p) = ap (λ (b : Bool). s.within x y || b) (covered_reordered x p)
  covered_reordered x (swap {x = a} {y = b} {xs = zs}) = or_swap (s.within x a) (s.within x b) (covered s zs x)
  covered_reordered x (next p q) = covered_reordered x p ∙ covered_reordered x q

  pub alike_reordered : (x : C) {xs ys : List C} → Reordered xs ys → alike s xs x ≡ alike s ys x
  alike_reordered x none = refl
  alike_reordered x (same {x = y} p) = ap (λ (b : Bool). (s.within x y && s.within y x) || b) (alike_reordered x p)
  alike_reordered x (swap {x = a} {y = b} {xs = zs}) = or_swap (s.within x a && s.within a x) (s.within x b && s.within b x) (alike s zs x)
  alike_reordered x (next p q) = alike_reordered x p ∙ alike_reordered x q

  pub dropped_reordered : (x : C) {xs ys : List C} → Reordered xs ys → Reordered (dropped s x xs) (dropped s x ys)
  dropped_reordered x none = none
  dropped_reordered x (same {x = y} {xs = xs} {ys = ys} p) = both (s.within y x) (dropped_reordered x p)
    where
      both : (b : Bool) → Reordered (dropped s x xs) (dropped s x ys) → Reordered (cond b (dropped s x xs) (y ∷ dropped s x xs)) (cond b (dropped s x ys) (y ∷ dropped s x ys))
      both true r = r
      both false r = same r
  dropped_reordered x (swap {x = a} {y = b} {xs = zs}) = both (s.within a x) (s.within b x) (dropped s x zs)
    where
      both : (p q : Bool) (vs : List C) → Reordered (cond p (cond q vs (b ∷ vs)) (a ∷ cond q vs (b ∷ vs))) (cond q (cond p vs (a ∷ vs)) (b ∷ cond p vs (a ∷ vs)))
      both true true vs = reordered_refl vs
      both true false vs = reordered_refl (b ∷ vs)
      both false true vs = reordered_refl (a ∷ vs)
      both false false vs = swap
  dropped_reordered x (next p q) = next (dropped_reordered x p) (dropped_reordered x q)

  pub inserted_reordered : (x : C) {xs ys : List C} → Reordered xs ys → Reordered (inserted s x xs) (inserted s x ys)
  inserted_reordered x p = reordered_append (dropped_reordered x p) (x ∷ [])

  pub apart_reordered : {xs ys : List C} → Reordered xs ys → Apart s xs → Apart s ys
  apart_reordered p a i j x y n e f =
      let q = places p in
      a (q.place i) (q.place j) x y (λ same. n (q.one i j same)) (q.there i x e) (q.there j y f)
