-- A value that is there only if a test came out true.
use Rattle.std.proofs.Common.{◌≡◌, Bool, true, false, cond, Some, None, Option, refl}
use Rattle.std.specs.Option.{option_map}
use Rattle.kinds.proofs.Values.{none_some}

-- where it is there, the test was true
pub tested : {X : Type 0} (b : Bool) (v x : X) → cond b (Some v) None ≡ Some x → (b ≡ true) × (v ≡ x)
tested true v x e = (refl, cc)
tested false v x e = none_some refl e

-- what a function makes of a value comes of it
pub of_value : {X Y : Type 0} (f : X → Y) (o : Option X) (y : Y) → option_map f o ≡ Some y → (x : X) × (o ≡ Some x) × (f x ≡ y)
of_value f None y e = none_some refl e
of_value f (Some x) y e = (x, refl, cc)
