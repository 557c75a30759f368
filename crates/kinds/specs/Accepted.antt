-- What a kind accepts.
--
-- and_then          what a function makes of a value, where there is one
-- worked_back       where a list of moves leads back to from a configuration, the last move worked first; nothing where a move cannot be worked back
-- Accepted          a list of moves that leads back from some first configuration to a goal
-- events            the events of a list of moves
-- AcceptedEvents    a sequence of events that some accepted list of moves stands for
-- NothingAccepted   no list of moves, and so no sequence of events, is accepted
use Rattle.std.specs.Prelude.{◌≡◌, ℕ, true, List, [], ◌∷◌, map, Some, None, Option}
use Rattle.std.specs.List.{slice_get}
use Rattle.kinds.specs.Shape.{Shape}

abbrev pub and_then : {A B : Type 0} → Option A → (A → Option B) → Option B
and_then None f = None
and_then (Some x) f = f x

abbrev pub worked_back : {C : Type 0} → Shape C → List ℕ → C → Option C
worked_back s [] c = Some c
worked_back s (k ∷ ms) c = and_then (worked_back s ms c) (s.back k)

pub record Accepted {C : Type 0} (s : Shape C) (ms : List ℕ) : Type 0 where
  pub place : ℕ
  pub first : C
  pub end : C
  pub is_first : slice_get s.firsts place ≡ Some first
  pub leads : worked_back s ms first ≡ Some end
  pub is_goal : s.goal end ≡ true

abbrev pub events : {C : Type 0} → Shape C → List ℕ → List ℕ
events s ms = map s.event ms

pub record AcceptedEvents {C : Type 0} (s : Shape C) (es : List ℕ) : Type 0 where
  pub moves : List ℕ
  pub accepted : Accepted s moves
  pub stands_for : events s moves ≡ es

pub record NothingAccepted {C : Type 0} (s : Shape C) : Type 0 where
  pub no_moves : (ms : List ℕ) → Accepted s ms → ⊥
  pub no_events : (es : List ℕ) → AcceptedEvents s es → ⊥
