-- Options with a value and without, and tests that come out one way. Assumes nothing.
use Rattle.std.proofs.Common.{◌≡◌, ℕ, Bool, true, false, ◌⊎◌, Some, None, Option, refl, inl, inr, arith}
use Rattle.kinds.specs.Accepted.{and_then}

-- no option is both without a value and with one
pub none_some : {A B : Type 0} {o : Option A} {a : A} → o ≡ None → o ≡ Some a → B
none_some p q = let z : ◌≡◌ {A = ℕ} 0 1 = cc in absurd (omega arith)

-- an option has no value, or one
pub none_or_some : {A : Type 0} (o : Option A) → (o ≡ None) ⊎ ((a : A) × (o ≡ Some a))
none_or_some None = inl refl
none_or_some (Some a) = inr (a, refl)

-- what a function makes of an option comes of a value
pub from_value : {A B : Type 0} (o : Option A) (f : A → Option B) (b : B) → and_then o f ≡ Some b → (a : A) × (o ≡ Some a) × (f a ≡ Some b)
from_value None f b h = none_some refl h
from_value (Some a) f b h = (a, refl, h)

-- a test that is not false is true
pub true_if_not_false : (b : Bool) → (b ≡ false → ⊥) → b ≡ true
true_if_not_false true h = refl
true_if_not_false false h = absurd (h refl)

-- a test that is not true is false
pub false_if_not_true : (b : Bool) → (b ≡ true → ⊥) → b ≡ false
false_if_not_true true h = absurd (h refl)
false_if_not_true false h = refl
