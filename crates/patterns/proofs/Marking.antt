-- The marks that the questions keep: which rows of a front of the table are free of states.
use Rattle.std.proofs.Common.{◌≡◌, ℕ, ◌+◌, ◌<◌, ◌≤◌, Bool, false, List, [], length, get_or, take, fold, sym, ap, ◌∙◌, arith}
use Rattle.std.proofs.lemmas.List.{length-take-le}
use Rattle.patterns.specs.Automaton.{Automaton, row, blank}
use Rattle.patterns.specs.Questions.{free_step, free}
use Rattle.patterns.proofs.Folding.{length_folded, entry, front}

abbrev pub marks : Automaton → ℕ → List Bool
marks A k = fold free_step [] (take k A.rows)

module _ (A : Automaton) (k : ℕ) (l : k ≤ length A.rows) where
  pub length_marks : length (marks A k) ≡ k
  length_marks = length_folded free [] (take k A.rows) ∙ omega (arith, length-take-le k A.rows l)

  -- a mark, from those before it
  pub marked : (j : ℕ) → j < k → get_or (marks A k) j false ≡ free (marks A j) (row A j)
  marked j h =
      let z : 0 + j ≡ j = omega arith in
      front free A.rows k j h l
      ∙ sym (ap (λ (i : ℕ). get_or (fold free_step [] A.rows) i false) z)
      ∙ entry free [] A.rows j blank (omega arith)
