-- What every kind owes.
--
-- Laws           the laws of a shape; all but the last are asked of configurations that fit
-- first_fits     first configurations fit
-- back_fits      and so does back of what fits
-- reflexive      each configuration is within itself
-- transitive     what is within y is within all that y is within
-- back_covered   where y is within z and a move can be worked back from y, it can be from z, and leads to what covers the former
-- goal_covered   what covers a goal is a goal
-- no_move        a number that is no move cannot be worked back
--
-- A type may hold more than the system has, as a number holds bits that stand for no state. Asking the laws only of
-- what fits admits such types. Nothing is lost by it: every configuration that a search or an inspection meets fits.
use Rattle.std.specs.Prelude.{◌≡◌, ℕ, ◌≤◌, true, Some, None}
use Rattle.std.specs.List.{slice_get}
use Rattle.kinds.specs.Shape.{Shape}

pub record Laws {C : Type 0} (s : Shape C) : Type 0 where
  pub first_fits : (i : ℕ) (x : C) → slice_get s.firsts i ≡ Some x → s.fits x ≡ true
  pub back_fits : (k : ℕ) (y x : C) → s.fits y ≡ true → s.back k y ≡ Some x → s.fits x ≡ true
  pub reflexive : (x : C) → s.fits x ≡ true → s.within x x ≡ true
  pub transitive : (x y z : C) → s.fits x ≡ true → s.fits y ≡ true → s.fits z ≡ true → s.within x y ≡ true → s.within y z ≡ true → s.within x z ≡ true
  pub back_covered : (k : ℕ) (y z x : C) → s.fits y ≡ true → s.fits z ≡ true → s.within y z ≡ true → s.back k y ≡ Some x → (w : C) × (s.back k z ≡ Some w) × (s.within x w ≡ true)
  pub goal_covered : (x y : C) → s.fits x ≡ true → s.fits y ≡ true → s.within x y ≡ true → s.goal x ≡ true → s.goal y ≡ true
  pub no_move : (k : ℕ) (y : C) → s.moves ≤ k → s.back k y ≡ None
