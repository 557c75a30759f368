-- The rows of a list: what an insertion leaves in them. Assumes nothing.
use Rattle.std.proofs.Common.{◌≡◌, ℕ, ◌+◌, ◌<◌, Bool, true, false, cond, not, List, [], ◌∷◌, ◌++◌, length, take, set, filter, refl, ap, ◌∙◌}
use Rattle.std.proofs.lemmas.List.{take_more_set}
use Rattle.std.proofs.lemmas.List.Filters.{FiltersInPlace}
use Rattle.kinds.specs.Shape.{Shape}
use Rattle.stores.specs.Holding.{dropped, inserted}

module _ {C : Type 0} (s : Shape C) (x : C) where
  -- what x does not cover is what is left once all that it covers is dropped
  kept_dropped : (xs : List C) → filter (λ y. not (s.within y x)) xs ≡ dropped s x xs
  kept_dropped [] = refl
  kept_dropped (y ∷ ys) = both (s.within y x) (kept_dropped ys)
    where
      both : (b : Bool) → filter (λ y. not (s.within y x)) ys ≡ dropped s x ys → cond (not b) (y ∷ filter (λ y. not (s.within y x)) ys) (filter (λ y. not (s.within y x)) ys) ≡ cond b (dropped s x ys) (y ∷ dropped s x ys)
      both true e = e
      both false e = ap (λ zs. y ∷ zs) e

  -- x behind the rows that were moved up
  pub rows_inserted : (xs ys : List C) (len count : ℕ) → FiltersInPlace (λ y. not (s.within y x)) xs ys count len → count < length ys → take (count + 1) (set ys count x) ≡ inserted s x (take len xs)
  rows_inserted xs ys len count k l = take_more_set ys count x l ∙ ap (λ zs. zs ++ x ∷ []) (k.front ∙ kept_dropped (take len xs))
