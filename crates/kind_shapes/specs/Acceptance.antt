-- What the two kinds accept, in the words of patterns and models.
--
-- Exactly P Q           P holds if and only if Q does
-- Plain m es            no event of es has a bit from m up: clearing those bits changes nothing
-- PatternAcceptance A   the pattern kind accepts the sequences of plain events that the pattern accepts, and no others
-- JointAcceptance A M   the joint kind accepts the sequences of plain events that the pattern accepts and the model
--                       sends, and no others
--
-- NeverMatches A        the pattern accepts no sequence of events, of any length and with any bits
-- NeverTogether A M     none that the pattern accepts does the model send
--
-- In both records, the bits from m up make no difference to what the pattern accepts and the model sends (`cleared`, `sent`), so
-- plain events stand for all others.
use Rattle.std.specs.Prelude.{◌≡◌, ℕ, List}
use Rattle.sets.specs.Events.{lowered}
use Rattle.patterns.specs.Automaton.{Automaton}
use Rattle.patterns.specs.Accepted.{Accepted}
use Rattle.models.specs.Machine.{Machine}
use Rattle.models.specs.Sent.{Sends}
use Rattle.kinds.specs.Accepted.{AcceptedEvents}
use Rattle.kind_shapes.specs.Shapes.{pattern_shape, joint_shape}

abbrev pub Exactly : Type 0 → Type 0 → Type 0
Exactly P Q = (P → Q) × (Q → P)

abbrev pub Plain : ℕ → List ℕ → Type 0
Plain m es = lowered m es ≡ es

pub record PatternAcceptance (A : Automaton) : Type 0 where
  pub plain : (es : List ℕ) → Exactly (AcceptedEvents (pattern_shape A) es) (Plain A.signals es × Accepted A es)
  pub cleared : (es : List ℕ) → Exactly (Accepted A es) (Accepted A (lowered A.signals es))

pub record JointAcceptance (A : Automaton) (M : Machine) : Type 0 where
  pub plain : (es : List ℕ) → Exactly (AcceptedEvents (joint_shape A M) es) (Plain A.signals es × Accepted A es × Sends M es)
  pub cleared : (es : List ℕ) → Exactly (Accepted A es) (Accepted A (lowered A.signals es))
  pub sent : (es : List ℕ) → Exactly (Sends M es) (Sends M (lowered A.signals es))

abbrev pub NeverMatches : Automaton → Type 0
NeverMatches A = (es : List ℕ) → Accepted A es → ⊥

abbrev pub NeverTogether : Automaton → Machine → Type 0
NeverTogether A M = (es : List ℕ) → Accepted A es → Sends M es → ⊥
