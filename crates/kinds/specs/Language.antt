-- What a kind accepts, in the words of sequences of events.
--
-- Speaks s m L   the shape s is that of the language L over m signals: of the sequences in L it accepts those whose
--                events have no bit from m up
-- plain          what it accepts is in L, and clearing those bits changes nothing there; and it accepts all of that
-- cleared        clearing those bits makes no difference to what is in L
use Rattle.std.specs.Prelude.{◌≡◌, ℕ, ◌↔◌, List}
use Rattle.sets.specs.Events.{lowered}
use Rattle.kinds.specs.Shape.{Shape}
use Rattle.kinds.specs.Accepted.{AcceptedEvents}

pub record Speaks {C : Type 0} (s : Shape C) (m : ℕ) (L : List ℕ → Type 0) : Type 0 where
  pub plain : (es : List ℕ) → AcceptedEvents s es ↔ ((lowered m es ≡ es) × L es)
  pub cleared : (es : List ℕ) → L es ↔ L (lowered m es)
