-- The lines of a list: at numbers, and of a list that grows.
use Rattle.std.proofs.Common.{◌≡◌, ℕ, ◌+◌, ◌<◌, List, [], ◌∷◌, ◌++◌, length, get_or, take, Some, None, Option, decimal, refl, sym, ap, ◌∙◌, append-nil}
use Rattle.std.proofs.Output.{then_text_assoc}
use Rattle.std.proofs.lemmas.List.{take_more}
use Rattle.std.specs.Fmt.{◌++?◌}
use Rattle.reports.specs.Reports.{lines}
use Rattle.reports.specs.Shown.{line_of, lines_of}

-- numbers print in decimal
pub lines_of_numbers : (word ns : List ℕ) → lines_of (λ (n : ℕ). Some (decimal n)) word ns ≡ Some (lines word ns)
lines_of_numbers word [] = refl
lines_of_numbers word (n ∷ ns) = ap (λ (o : Option (List ℕ)). line_of (λ (m : ℕ). Some (decimal m)) word n ++? o) (lines_of_numbers word ns)

nothing_first : (o : Option (List ℕ)) → (o ++? Some []) ≡ (Some [] ++? o)
nothing_first None = refl
nothing_first (Some a) = ap (λ (bs : List ℕ). Some bs) (append-nil a)

module _ {T : Type 0} (print : T → Option (List ℕ)) (word : List ℕ) where
  lines_of-append : (xs : List T) (x : T) → lines_of print word (xs ++ x ∷ []) ≡ (lines_of print word xs ++? line_of print word x)
  lines_of-append [] x = nothing_first (line_of print word x)
  lines_of-append (y ∷ ys) x =
      ap (λ (o : Option (List ℕ)). line_of print word y ++? o) (lines_of-append ys x)
      ∙ sym (then_text_assoc (line_of print word y) (lines_of print word ys) (line_of print word x))

  pub lines_of_more : (xs : List T) (i : ℕ) (x : T) → x ≡ get_or xs i x → i < length xs
      → (lines_of print word (take i xs) ++? line_of print word x) ≡ lines_of print word (take (i + 1) xs)
  lines_of_more xs i x e h =
      ap (λ (y : T). lines_of print word (take i xs) ++? line_of print word y) e
      ∙ sym (ap (lines_of print word) (take_more xs i x h) ∙ lines_of-append (take i xs) (get_or xs i x))
