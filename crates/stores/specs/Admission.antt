-- What a store answers to an insertion.
--
-- admitted s x h n   the answer where h is held and n is the maximum: refused if x is covered, otherwise refused if n are held, otherwise done
-- answered_new       the answer to putting x in unless it is covered already: whether it was put in, or refused if n are held
-- IfPut r P Q        P where the answer is that x was put in, and Q where it was not
use Rattle.std.specs.Prelude.{ℕ, Bool, true, false, cond, List, length, Ok, Err, Result, nat_lt}
use Rattle.kinds.specs.Shape.{Shape}
use Rattle.kinds.specs.Certificate.{covered}
use Rattle.stores.specs.declared.refusals.Refused.{Refused}
use Rattle.stores.specs.declared.refusals.Refused.TheVariants.{Covered, Full}

module _ {C : Type 0} (s : Shape C) (x : C) (h : List C) (n : ℕ) where
  abbrev pub admitted : Result (Unit {0}) Refused
  admitted = cond (covered s h x) (Err Covered) (cond (nat_lt (length h) n) (Ok tt) (Err Full))

  abbrev pub answered_new : Result Bool Refused
  answered_new = cond (covered s h x) (Ok false) (cond (nat_lt (length h) n) (Ok true) (Err Full))

abbrev pub IfPut : Result Bool Refused → Type 0 → Type 0 → Type 0
IfPut (Ok true) P Q = P
IfPut (Ok false) P Q = Q
IfPut (Err e) P Q = Q
