-- The steps of the questions on roots and rows.
use Rattle.std.proofs.Common.{◌≡◌, ℕ, ◌+◌, ◌<◌, Bool, true, false, cond, not, ltb, leb, refl, arith, List, [], ◌∷◌, ◌++◌, length, get_or, drop, Some, None, Option, sym, ap, ◌∙◌}
use Rattle.std.proofs.lemmas.List.{at_drop_more}
use Rattle.std.proofs.lemmas.Bool.Decides.{nat_tests}
use Rattle.std.proofs.lemmas.Iterator.Adapters.{position_from-zero}
use Rattle.std.specs.List.{position, position_from}
use Rattle.std.specs.Option.{option_map}
use Rattle.patterns.specs.declared.row.Row.{Row}
use Rattle.patterns.specs.declared.fault.Fault.{Fault}
use Rattle.patterns.specs.declared.fault.Fault.TheVariants.{Root}
use Rattle.patterns.specs.Questions.{roots_fault, rows_fault, row_fault, free_step, free, first, unless}

root_before : (b c : Bool) (q : ℕ) (o : Option Fault) (p : Option ℕ) → c ≡ not b → o ≡ option_map Root p
    → first (unless c (Root q)) o ≡ option_map Root (cond b (Some q) p)
root_before true c q o p e h = ap (λ (d : Bool). first (unless d (Root q)) o) e
root_before false c q o p e h = ap (λ (d : Bool). first (unless d (Root q)) o) e ∙ h

roots_from : (N q : ℕ) (roots : List ℕ) → roots_fault N q roots ≡ option_map Root (position_from (leb N) q roots)
roots_from N q [] = refl
roots_from N q (r ∷ rs) =
    root_before (leb N r) (ltb r N) q (roots_fault N (q + 1) rs) (position_from (leb N) (q + 1) rs)
    (grind (arith, nat_tests)) (roots_from N (q + 1) rs)

-- the first fault of the roots is that of the first root past the rows
pub roots_at : (N : ℕ) (roots : List ℕ) → roots_fault N 0 roots ≡ option_map Root (position (leb N) roots)
roots_at N roots = roots_from N 0 roots ∙ ap (option_map Root) (sym (position_from-zero (leb N) roots))

module _ (n m : ℕ) (rows : List Row) (i : ℕ) (x : Row) (h : i < length rows) (fs : List Bool) where
  pub rows_more : (b : Bool) → row_fault n m fs (get_or rows i x) ≡ None → b ≡ free fs (get_or rows i x)
      → rows_fault n m (fs ++ b ∷ []) (drop (i + 1) rows) ≡ rows_fault n m fs (drop i rows)
  rows_more b p f =
      let r = get_or rows i x in
      let rest : List Bool → Option Fault = λ gs. rows_fault n m gs (drop (i + 1) rows) in
      ap (λ (c : Bool). rest (fs ++ c ∷ [])) f
      ∙ sym (at_drop_more (rows_fault n m fs) rows i x h
      ∙ ap (λ (o : Option Fault). first o (rest (free_step fs r))) p)

  pub rows_stop : (g : Fault) → row_fault n m fs (get_or rows i x) ≡ Some g → rows_fault n m fs (drop i rows) ≡ Some g
  rows_stop g p =
      let r = get_or rows i x in
      at_drop_more (rows_fault n m fs) rows i x h
      ∙ ap (λ (o : Option Fault). first o (rows_fault n m (free_step fs r) (drop (i + 1) rows))) p
