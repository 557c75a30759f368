-- Tables filled row by row, each entry from those before it.
use Rattle.std.proofs.Common.{◌≡◌, ℕ, zero, suc, ◌+◌, ◌<◌, ◌≤◌, Bool, false, List, [], ◌∷◌, ◌++◌, length, get_or, take, drop, fold, sym, refl, ap, ◌∙◌, arith}
use Rattle.std.proofs.lemmas.List.{length_push, get_or_append_left, get_or_push, length-take-le, take-append-drop}
use Rattle.patterns.specs.declared.row.Row.{Row}

module _ (f : List Bool → Row → Bool) where
  abbrev pub grown : List Bool → Row → List Bool
  grown vs r = vs ++ f vs r ∷ []

  pub length_folded : (vs : List Bool) (rows : List Row) → length (fold grown vs rows) ≡ length vs + length rows
  length_folded vs [] = omega arith
  length_folded vs (r ∷ rs) =
      let e = length_push vs (f vs r) in
      let i = length_folded (grown vs r) rs in
      omega arith

  -- what is there stays
  pub keeps : (vs : List Bool) (rows : List Row) (j : ℕ) → j < length vs → get_or (fold grown vs rows) j false ≡ get_or vs j false
  keeps vs [] j h = refl
  keeps vs (r ∷ rs) j h =
      let e = length_push vs (f vs r) in
      keeps (grown vs r) rs j (omega arith) ∙ get_or_append_left vs (f vs r ∷ []) false j h

  -- each entry, from those before it
  pub entry : (vs : List Bool) (rows : List Row) (i : ℕ) (x : Row) → i < length rows
      → get_or (fold grown vs rows) (length vs + i) false ≡ f (fold grown vs (take i rows)) (get_or rows i x)
  entry vs [] i x h = absurd (omega arith)
  entry vs (r ∷ rs) zero x h =
      let e = length_push vs (f vs r) in
      let z : length vs + 0 ≡ length vs = omega arith in
      ap (λ (k : ℕ). get_or (fold grown (grown vs r) rs) k false) z
      ∙ keeps (grown vs r) rs (length vs) (omega arith) ∙ get_or_push vs (f vs r) false (length vs) refl
  entry vs (r ∷ rs) (suc i) x h =
      let e = length_push vs (f vs r) in
      let z : length vs + suc i ≡ length (grown vs r) + i = omega arith in
      ap (λ (k : ℕ). get_or (fold grown (grown vs r) rs) k false) z ∙ entry (grown vs r) rs i x (omega arith)

  folded_append : (vs : List Bool) (rs ss : List Row) → fold grown vs (rs ++ ss) ≡ fold grown (fold grown vs rs) ss
  folded_append vs [] ss = refl
  folded_append vs (r ∷ rs) ss = folded_append (grown vs r) rs ss

  -- the entries of a front of the rows are those of the whole
  pub front : (rows : List Row) (i j : ℕ) → j < i → i ≤ length rows
      → get_or (fold grown [] (take i rows)) j false ≡ get_or (fold grown [] rows) j false
  front rows i j h l =
      let n = length_folded [] (take i rows) in
      let m = length-take-le i rows l in
      sym (ap (λ (rs : List Row). get_or (fold grown [] rs) j false) (sym (take-append-drop i rows))
      ∙ ap (λ (vs : List Bool). get_or vs j false) (folded_append [] (take i rows) (drop i rows))
      ∙ keeps (fold grown [] (take i rows)) (drop i rows) j (omega arith))
