-- The entries of two lists that are joined. Assumes nothing.
use Rattle.std.proofs.Common.{◌≡◌, ℕ, zero, suc, ◌+◌, ◌<◌, List, [], ◌∷◌, ◌++◌, length, Some, refl, sym, ap, ◌∙◌, arith}
use Rattle.std.specs.List.{slice_get}

module _ {A : Type 0} where
  -- the entries of the front list come first
  pub nth_left : (xs ys : List A) (k : ℕ) → k < length xs → slice_get (xs ++ ys) k ≡ slice_get xs k
  nth_left [] ys k l = absurd (omega arith)
  nth_left (x ∷ xs) ys zero l = refl
  nth_left (x ∷ xs) ys (suc k) l = nth_left xs ys k (omega arith)

  -- then those of the other
  pub nth_right : (xs ys : List A) (k : ℕ) → slice_get (xs ++ ys) (length xs + k) ≡ slice_get ys k
  nth_right [] ys k = let e : 0 + k ≡ k = omega arith in ap (slice_get ys) e
  nth_right (x ∷ xs) ys k =
      let e : suc (length xs) + k ≡ suc (length xs + k) = omega arith in
      ap (slice_get (x ∷ xs ++ ys)) e ∙ nth_right xs ys k

  -- an entry put behind a list stands at its length
  pub nth_seam : (xs : List A) (x : A) → slice_get (xs ++ (x ∷ [])) (length xs) ≡ Some x
  nth_seam xs x = let e : length xs + 0 ≡ length xs = omega arith in sym (ap (slice_get (xs ++ (x ∷ []))) e) ∙ nth_right xs (x ∷ []) 0
