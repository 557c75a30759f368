-- Covering, and lists of configurations that certify that nothing is accepted.
--
-- covered             whether some entry of a list covers x
-- CoveringEntry       an entry of the list that covers x: y covers x where x is within y
-- Certifies           the list is closed under working back: it covers the first configurations and all that a move leads back to from its entries, and no entry is a goal
-- CertificatesSound   the theorem on certificates: where some list certifies, nothing is accepted
use Rattle.std.specs.Prelude.{◌≡◌, ℕ, Bool, true, false, ◌||◌, List, [], ◌∷◌, Some}
use Rattle.std.specs.List.{slice_get}
use Rattle.kinds.specs.Shape.{Shape}
use Rattle.kinds.specs.Accepted.{NothingAccepted}

abbrev pub covered : {C : Type 0} → Shape C → List C → C → Bool
covered s [] x = false
covered s (y ∷ ys) x = s.within x y || covered s ys x

pub record CoveringEntry {C : Type 0} (s : Shape C) (xs : List C) (x : C) : Type 0 where
  pub place : ℕ
  pub entry : C
  pub there : slice_get xs place ≡ Some entry
  pub covers : s.within x entry ≡ true

pub record Certifies {C : Type 0} (s : Shape C) (xs : List C) : Type 0 where
  pub fitting : (i : ℕ) (y : C) → slice_get xs i ≡ Some y → s.fits y ≡ true
  pub firsts : (i : ℕ) (c : C) → slice_get s.firsts i ≡ Some c → covered s xs c ≡ true
  pub goals : (i : ℕ) (y : C) → slice_get xs i ≡ Some y → s.goal y ≡ false
  pub backs : (i : ℕ) (y : C) (k : ℕ) (x : C) → slice_get xs i ≡ Some y → s.back k y ≡ Some x → covered s xs x ≡ true

abbrev pub CertificatesSound : {C : Type 0} → Shape C → Type 0
CertificatesSound {C} s = (xs : List C) → Certifies s xs → NothingAccepted s
