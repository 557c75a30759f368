-- What each answer of the inspector says of the list.
--
-- Entry            the entry of a list at place i, which has P
-- Least            P holds of i and of no smaller number
-- Nowhere          P holds of no number
-- UnfitEntry       entry i does not fit
-- UncoveredFirst   first configuration i is not covered by the list
-- GoalEntry        entry i is a goal
-- LeadsOut         move k leads back from y to a configuration that the list does not cover
-- Escape           move k leads out from entry i
-- Escapable        some move leads out from entry i
-- Inspectable      the list is short enough, and each entry fits
-- Says             what an answer says, case by case: what is least, and that all asked before was found in order
-- Passable         the list is short enough, and certifies
-- PassesExactly    the answer is Passed if and only if the list is passable
use Rattle.std.specs.Prelude.{◌≡◌, ℕ, ◌<◌, ◌≤◌, true, false, List, length, Some, Ok, Err, Result}
use Rattle.std.specs.List.{slice_get}
use Rattle.kinds.specs.Shape.{Shape}
use Rattle.kinds.specs.Certificate.{covered, Certifies}
use Rattle.inspector.specs.declared.answers.Inspection.{Inspection}
use Rattle.inspector.specs.declared.answers.Inspection.TheVariants.{Passed, First, Goal, Back}
use Rattle.inspector.specs.declared.answers.Refused.{Refused}
use Rattle.inspector.specs.declared.answers.Refused.TheVariants.{TooLong, Unfit}
use Rattle.inspector.specs.Inspected.{max_entries}

pub record Entry {C : Type 0} (xs : List C) (P : C → Type 0) (i : ℕ) : Type 0 where
  pub entry : C
  pub there : slice_get xs i ≡ Some entry
  pub has : P entry

pub record Least (P : ℕ → Type 0) (i : ℕ) : Type 0 where
  pub here : P i
  pub before : (j : ℕ) → j < i → P j → ⊥

abbrev pub Nowhere : (ℕ → Type 0) → Type 0
Nowhere P = (i : ℕ) → P i → ⊥

pub record LeadsOut {C : Type 0} (s : Shape C) (xs : List C) (k : ℕ) (y : C) : Type 0 where
  pub to : C
  pub leads : s.back k y ≡ Some to
  pub uncovered : covered s xs to ≡ false

module _ {C : Type 0} (s : Shape C) (xs : List C) where
  abbrev pub UnfitEntry : ℕ → Type 0
  UnfitEntry = Entry xs (λ y. s.fits y ≡ false)

  abbrev pub UncoveredFirst : ℕ → Type 0
  UncoveredFirst = Entry s.firsts (λ c. covered s xs c ≡ false)

  abbrev pub GoalEntry : ℕ → Type 0
  GoalEntry = Entry xs (λ y. s.goal y ≡ true)

  abbrev pub Escape : ℕ → ℕ → Type 0
  Escape i k = Entry xs (LeadsOut s xs k) i

  abbrev pub Escapable : ℕ → Type 0
  Escapable i = (k : ℕ) × Escape i k

  abbrev pub Inspectable : Type 0
  Inspectable = (length xs ≤ max_entries) × Nowhere UnfitEntry

  abbrev pub Passable : Type 0
  Passable = (length xs ≤ max_entries) × Certifies s xs

  abbrev pub Says : Result Inspection Refused → Type 0
  Says (Err TooLong) = max_entries < length xs
  Says (Err (Unfit i)) = (length xs ≤ max_entries) × Least UnfitEntry i
  Says (Ok (First i)) = Inspectable × Least UncoveredFirst i
  Says (Ok (Goal i)) = Inspectable × Nowhere UncoveredFirst × Least GoalEntry i
  Says (Ok (Back i k)) = Inspectable × Nowhere UncoveredFirst × Nowhere GoalEntry × Least Escapable i × Least (Escape i) k
  Says (Ok Passed) = Passable

  abbrev pub PassesExactly : Result Inspection Refused → Type 0
  PassesExactly r = (r ≡ Ok Passed → Passable) × (Passable → r ≡ Ok Passed)
