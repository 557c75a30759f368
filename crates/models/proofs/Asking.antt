-- The steps of the questions on arrows.
use Rattle.std.proofs.Common.{◌≡◌, ℕ, ◌+◌, ◌<◌, Bool, true, false, List, length, get_or, drop, Some, Option, sym, ap, ◌∙◌}
use Rattle.std.proofs.lemmas.List.{at_drop_more}
use Rattle.models.specs.declared.arrow.Arrow.{Arrow}
use Rattle.models.specs.declared.fault.ModelFault.{ModelFault}
use Rattle.models.specs.declared.fault.ModelFault.TheVariants.{Arrow as BadArrow}
use Rattle.models.specs.Questions.{arrows_fault, proper, first, unless}

module _ (n m : ℕ) (ts : List Arrow) (i : ℕ) (x : Arrow) (h : i < length ts) where
  from_here : Bool → Option ModelFault
  from_here b = first (unless b (BadArrow i)) (arrows_fault n m (i + 1) (drop (i + 1) ts))

  pub arrows_more : proper n m (get_or ts i x) ≡ true → arrows_fault n m (i + 1) (drop (i + 1) ts) ≡ arrows_fault n m i (drop i ts)
  unfolding from_here
  arrows_more e = sym (at_drop_more (arrows_fault n m i) ts i x h ∙ ap from_here e)

  pub arrows_stop : proper n m (get_or ts i x) ≡ false → arrows_fault n m i (drop i ts) ≡ Some (BadArrow i)
  unfolding from_here
  arrows_stop e = at_drop_more (arrows_fault n m i) ts i x h ∙ ap from_here e
