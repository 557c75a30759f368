-- When a list is long enough for the sequence of intact rows, and when it is not. Assumes nothing.
use Rattle.std.proofs.Common.{◌≡◌, ℕ, ◌<◌, ◌≤◌, true, ltb, List, length, Some, None, ◌∙◌}
use Rattle.std.proofs.lemmas.Bool.{cond-true, cond-false, lt-ltb, le-ltb}
use Rattle.kinds.specs.Shape.{Shape}
use Rattle.search.specs.declared.Find.{Find}
use Rattle.finds.specs.declared.refusals.Refused.TheVariants.{SequenceRoom}
use Rattle.finds.specs.Intact.{intact}
use Rattle.finds.specs.Results.{sequence_of, sequence_refusal}

module _ {C : Type 0} (s : Shape C) (f : ℕ) (fs : List (Find C)) (n : ℕ) where
  pub sequence_short : intact s f fs ≡ true → n < length (sequence_of s fs) → sequence_refusal s f fs n ≡ Some SequenceRoom
  sequence_short t l = cond-true (intact s f fs) _ _ t ∙ cond-true (ltb n (length (sequence_of s fs))) _ _ (lt-ltb n (length (sequence_of s fs)) l)

  pub sequence_fits : intact s f fs ≡ true → length (sequence_of s fs) ≤ n → sequence_refusal s f fs n ≡ None
  sequence_fits t l = cond-true (intact s f fs) _ _ t ∙ cond-false (ltb n (length (sequence_of s fs))) _ _ (le-ltb n (length (sequence_of s fs)) l)
