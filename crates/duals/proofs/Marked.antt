-- Which rows of a pattern are marked free of states, and the pairs of rows that a dual has.
use Rattle.std.proofs.Common.{◌≡◌, ℕ, zero, suc, ◌+◌, ◌*◌, ◌<◌, ◌≤◌, Bool, true, false, List, [], ◌∷◌, length, get_or, take, fold, refl, ap, ◌∙◌, arith}
use Rattle.std.proofs.lemmas.List.{length_push}
use Rattle.std.proofs.lemmas.Bool.Decides.{nat_tests}
use Rattle.patterns.specs.declared.row.Row.{Row}
use Rattle.patterns.specs.Automaton.{Automaton, row, blank}
use Rattle.patterns.specs.Questions.{free, free_step}
use Rattle.patterns.specs.Formed.{StateFree, leaf, pair, negated, Formed}
use Rattle.patterns.proofs.Marking.{marks, marked}
use Rattle.patterns.proofs.Meeting.{operands_before}
use Rattle.duals.specs.Dual.{row_copy, row_dual, dual_rows}

-- whether row i is marked free of states
abbrev pub is_free : Automaton → ℕ → Bool
is_free A i = free (marks A i) (row A i)

module _ (A : Automaton) (F : Formed A) where
  pub free_marked : {j : ℕ} → StateFree A j → (k : ℕ) → j < k → k ≤ length A.rows → get_or (marks A k) j false ≡ true
  free_marked {j} (leaf o) k h l = marked A k l j h ∙ grind (arith, nat_tests)
  free_marked {j} (pair o f g) k h l =
      let p = operands_before A j (row A j) (F.proper j (omega arith)) in
      let x = free_marked f j (grind (arith, nat_tests)) (omega arith) in
      let y = free_marked g j (grind (arith, nat_tests)) (omega arith) in
      marked A k l j h ∙ grind (arith, nat_tests)
  free_marked {j} (negated o f) k h l =
      let p = operands_before A j (row A j) (F.proper j (omega arith)) in
      let x = free_marked f j (grind (arith, nat_tests)) (omega arith) in
      marked A k l j h ∙ grind (arith, nat_tests)

module _ (b n : ℕ) where
  pub length_dual_rows : (fs : List Bool) (rs : List Row) → length (dual_rows b n fs rs) ≡ 2 * length rs
  length_dual_rows fs [] = refl
  length_dual_rows fs (r ∷ rs) = let e = length_dual_rows (free_step fs r) rs in omega arith

  -- the two rows that row i gives
  pub copy_entry : (fs : List Bool) (rs : List Row) (i : ℕ) → i < length rs
      → get_or (dual_rows b n fs rs) (2 * i) blank ≡ row_copy b (free (fold free_step fs (take i rs)) (get_or rs i blank)) (get_or rs i blank)
  copy_entry fs [] i h = absurd (omega arith)
  copy_entry fs (r ∷ rs) zero h = refl
  copy_entry fs (r ∷ rs) (suc i) h =
      let z : 2 * suc i ≡ suc (suc (2 * i)) = omega arith in
      ap (λ (k : ℕ). get_or (dual_rows b n fs (r ∷ rs)) k blank) z ∙ copy_entry (free_step fs r) rs i (omega arith)

  pub dual_entry : (fs : List Bool) (rs : List Row) (i : ℕ) → i < length rs
      → get_or (dual_rows b n fs rs) (2 * i + 1) blank
      ≡ row_dual b n (length fs + i) (free (fold free_step fs (take i rs)) (get_or rs i blank)) (get_or rs i blank)
  dual_entry fs [] i h = absurd (omega arith)
  dual_entry fs (r ∷ rs) zero h =
      let z : length fs ≡ length fs + 0 = omega arith in
      ap (λ (k : ℕ). row_dual b n k (free fs r) r) z
  dual_entry fs (r ∷ rs) (suc i) h =
      let z : 2 * suc i + 1 ≡ suc (suc (2 * i + 1)) = omega arith in
      let e = length_push fs (free fs r) in
      let y : length (free_step fs r) + i ≡ length fs + suc i = omega arith in
      ap (λ (k : ℕ). get_or (dual_rows b n fs (r ∷ rs)) k blank) z ∙ dual_entry (free_step fs r) rs i (omega arith)
      ∙ ap (λ (k : ℕ). row_dual b n k (free (fold free_step (free_step fs r) (take i rs)) (get_or rs i blank)) (get_or rs i blank)) y
