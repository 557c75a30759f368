-- What a store means: a list of configurations, read up to its order.
--
-- Reordered xs ys   ys has the entries of xs in some order
-- Apart s h         none of h is within another
-- dropped s x h     h without all that x covers
-- inserted s x h    what is held once x is put in: all that x covers is dropped
-- alike s h x       whether some held configuration and x are within each other
use Rattle.std.specs.Prelude.{◌≡◌, ℕ, Bool, false, cond, ◌≢◌, List, [], ◌∷◌, ◌++◌, Some}
use Rattle.std.specs.List.{slice_get, list_any}
use Rattle.kinds.specs.Shape.{Shape}
use Rattle.stores.specs.Equivalence.{equivalent}

pub data Reordered {X : Type 0} : List X → List X → Type 0 where
  none : Reordered [] []
  same : {x : X} {xs ys : List X} → Reordered xs ys → Reordered (x ∷ xs) (x ∷ ys)
  swap : {x y : X} {xs : List X} → Reordered (x ∷ y ∷ xs) (y ∷ x ∷ xs)
  next : {xs ys zs : List X} → Reordered xs ys → Reordered ys zs → Reordered xs zs

module _ {C : Type 0} (s : Shape C) where
  abbrev pub Apart : List C → Type 0
  Apart h = (i j : ℕ) (x y : C) → i ≢ j → slice_get h i ≡ Some x → slice_get h j ≡ Some y → s.within x y ≡ false

  abbrev pub dropped : C → List C → List C
  dropped x [] = []
  dropped x (y ∷ ys) = cond (s.within y x) (dropped x ys) (y ∷ dropped x ys)

  abbrev pub inserted : C → List C → List C
  inserted x h = dropped x h ++ x ∷ []

  abbrev pub alike : List C → C → Bool
  alike h x = list_any (equivalent s x) h
