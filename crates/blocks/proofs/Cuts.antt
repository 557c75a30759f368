-- Fronts of lists.
use Rattle.std.proofs.Common.{◌≡◌, ℕ, ◌<◌, ◌≤◌, min, List, [], ◌++◌, length, take, drop, sym, ap, ◌∙◌, ⊎_elim, arith, length-append, length-take}
use Rattle.std.proofs.lemmas.List.{take_all, take_at, take-take, drop_at, drop_all}
use Rattle.std.proofs.lemmas.Bool.{cases_lt}

nothing : (xs : List ℕ) → length xs ≡ 0 → xs ≡ []
nothing xs e = sym (take_all 0 xs (omega arith))

pub take_both : (m n : ℕ) (xs : List ℕ) → take m (take n xs) ≡ take (min m n) xs
take_both m n xs =
    let l = length-take n xs in
    ⊎_elim
    (λ (h : m < n). let e : m ≡ min m n = omega arith in take-take m n xs (omega arith) ∙ ap (λ (k : ℕ). take k xs) e)
    (λ (h : n ≤ m). let e : n ≡ min m n = omega arith in take_all m (take n xs) (omega arith) ∙ ap (λ (k : ℕ). take k xs) e)
    (cases_lt m n)

-- what chunks(504) cuts off xs
module _ (xs part rest : List ℕ) (e : xs ≡ part ++ rest) (cut : length part ≡ min 504 (length xs)) where
  pub chunk_front : part ≡ take 504 xs
  chunk_front =
      sym (take_at part rest (min 504 (length xs)) cut)
      ∙ ap (take (min 504 (length xs))) (sym e)
      ∙ sym (take_both 504 (length xs) xs) ∙ ap (take 504) (take_all (length xs) xs (omega arith))

  pub chunk_behind : rest ≡ drop 504 xs
  chunk_behind =
      let l = ap length e ∙ length-append part rest in
      ⊎_elim
      (λ (h : 504 < length xs). sym (ap (drop 504) e ∙ drop_at part rest 504 (omega arith)))
      (λ (h : length xs ≤ 504). nothing rest (omega arith) ∙ sym (drop_all 504 xs h))
      (cases_lt 504 (length xs))
