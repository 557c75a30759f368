-- A pattern as a kind, and a pattern with a model as a kind. Both are worked backwards: from the final states, and
-- from the end states of the model, to the start.
--
-- subset c d        every member of c is a member of d: c AND d is c
-- members c n       the members of c below n, in ascending order
-- pattern_shape A   the pattern kind: a configuration is a set of states, ordered by subset, and the final set is the
--                   one first configuration; the moves are the events of A's signals, and a goal holds the start
-- joined q c        the configuration of model state q and set c
-- enters t a p      arrow t admits event a and enters state p
-- crossed A a y t   where arrow t leads back to from y under event a, if it admits a and enters y's model state
-- joint_shape A M   the joint kind: a configuration is a model state with a set, ordered by subset among equal model
--                   states; each end state with the final set is a first configuration; move t * 2 ^ m + a is arrow t
--                   under event a, where m is the number of signals; a goal has the model's start and holds A's
use Rattle.std.specs.Prelude.{ℕ, zero, suc, ◌*◌, ◌/◌, ◌%◌, ◌^◌, Bool, cond, ◌&&◌, List, [], ◌∷◌, ◌++◌, map, length, Some, None, Option, ◌==◌, bit_and, nat_lt}
use Rattle.std.specs.List.{slice_get}
use Rattle.sets.specs.Sets.{has}
use Rattle.patterns.specs.Automaton.{Automaton, states}
use Rattle.patterns.specs.Values.{back}
use Rattle.models.specs.declared.arrow.Arrow.{Arrow}
use Rattle.models.specs.Machine.{Machine}
use Rattle.models.specs.Sent.{admits}
use Rattle.kinds.specs.Shape.{Shape}
use Rattle.kinds.specs.Accepted.{and_then}
use Rattle.kind_shapes.specs.declared.JointConfig.{JointConfig}

abbrev pub subset : ℕ → ℕ → Bool
subset c d = bit_and c d == c

unfoldable pub members : ℕ → ℕ → List ℕ
members c zero = []
members c (suc n) = members c n ++ cond (has c n) (n ∷ []) []

abbrev pub pattern_shape : Automaton → Shape ℕ
pattern_shape A = record {
  fits = λ x. nat_lt x (2 ^ states A);
  within = subset;
  firsts = A.finals ∷ [];
  moves = 2 ^ A.signals;
  event = λ k. k % 2 ^ A.signals;
  goal = λ x. has x A.start;
  back = λ k y. cond (nat_lt k (2 ^ A.signals)) (Some (back A k y)) None;
}

abbrev pub joined : ℕ → ℕ → JointConfig
joined q c = record { state = q; set = c }

abbrev pub enters : Arrow → ℕ → ℕ → Bool
enters t a p = admits t a && t.to == p

abbrev pub crossed : Automaton → ℕ → JointConfig → Arrow → Option JointConfig
crossed A a y t = cond (enters t a y.state) (Some (joined t.from (back A a y.set))) None

abbrev pub joint_shape : Automaton → Machine → Shape JointConfig
joint_shape A M = record {
  fits = λ x. nat_lt x.state M.states && nat_lt x.set (2 ^ states A);
  within = λ x y. (x.state == y.state) && subset x.set y.set;
  firsts = map (λ q. joined q A.finals) (members M.ends M.states);
  moves = length M.arrows * 2 ^ A.signals;
  event = λ k. k % 2 ^ A.signals;
  goal = λ x. (x.state == M.start) && has x.set A.start;
  back = λ k y. and_then (slice_get M.arrows (k / 2 ^ A.signals)) (crossed A (k % 2 ^ A.signals) y);
}
