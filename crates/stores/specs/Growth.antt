-- What an insertion does to what a store covers.
--
-- Fitting s h      every configuration of h fits
-- Grown s x h h'   what may be relied on where h was held, h' is held after x was put in or found covered, and all fits
-- itself           x is covered
-- keeps            what was covered is covered still
-- exactly          so what is covered now is what was covered and what x covers, and nothing else
-- from             each held configuration was held before, or is x
-- fitting          each held configuration fits
-- one_more         at most one more is held
-- Grows s x h h'   if x and all of h fit, all this may be relied on
use Rattle.std.specs.Prelude.{◌≡◌, ℕ, suc, ◌≤◌, true, ◌||◌, ◌⊎◌, List, length, Some}
use Rattle.std.specs.List.{slice_get}
use Rattle.kinds.specs.Shape.{Shape}
use Rattle.kinds.specs.Certificate.{covered}

abbrev pub Fitting : {C : Type 0} → Shape C → List C → Type 0
Fitting {C} s h = (i : ℕ) (y : C) → slice_get h i ≡ Some y → s.fits y ≡ true

pub record Grown {C : Type 0} (s : Shape C) (x : C) (h h' : List C) : Type 0 where
  pub itself : covered s h' x ≡ true
  pub keeps : (z : C) → s.fits z ≡ true → covered s h z ≡ true → covered s h' z ≡ true
  pub exactly : (z : C) → s.fits z ≡ true → covered s h' z ≡ (s.within z x || covered s h z)
  pub from : (i : ℕ) (y : C) → slice_get h' i ≡ Some y → ((j : ℕ) × (slice_get h j ≡ Some y)) ⊎ (y ≡ x)
  pub fitting : Fitting s h'
  pub one_more : length h' ≤ suc (length h)

abbrev pub Grows : {C : Type 0} → Shape C → C → List C → List C → Type 0
Grows s x h h' = Fitting s h → s.fits x ≡ true → Grown s x h h'
