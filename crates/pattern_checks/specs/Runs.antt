-- What a script of calls leaves of a check on a kind whose language is known, and so on a pattern, and on a pattern with a
-- model.
--
-- EventRan s m L t xs p t' h l ys   the script xs over the table t, on the shape s whose language over m signals is L, left the check p, the table t', a store that holds h and may hold l, and the script ys with its answers
-- ran                               it is what the defined search leaves and answers, after as many queries as were granted
-- promise                           and so what searches promise holds there, in the words of sequences of events
--
-- PatternRan A                      the same on the pattern A
-- JointRan A M                      the same on the pattern A with the model M
use Rattle.std.specs.Prelude.{ℕ, List, length}
use Rattle.patterns.specs.Automaton.{Automaton}
use Rattle.patterns.specs.Accepted.{Accepted}
use Rattle.models.specs.Machine.{Machine}
use Rattle.kinds.specs.Shape.{Shape}
use Rattle.kind_shapes.specs.declared.JointConfig.{JointConfig}
use Rattle.kind_shapes.specs.Shapes.{pattern_shape, joint_shape}
use Rattle.joint_kinds.specs.Language.{Together}
use Rattle.search.specs.declared.Find.{Find}
use Rattle.checks.specs.declared.states.Progress.{Progress}
use Rattle.checks.specs.View.{view}
use Rattle.scripts.specs.declared.Step.{Step}
use Rattle.scripts.specs.Scripts.{granted, Ran}
use Rattle.verdicts.specs.Promises.{EventPromise}

pub record EventRan {C : Type 0} (s : Shape C) (m : ℕ) (L : List ℕ → Type 0) (t : List (Find C)) (xs : List (Step C)) (p : Progress) (t' : List (Find C)) (h : List C) (l : ℕ) (ys : List (Step C)) : Type 0 where
  pub ran : Ran s t xs p t' h l ys
  pub promise : EventPromise s m L (length t) (granted xs) (view p t' h)

abbrev pub PatternRan : Automaton → List (Find ℕ) → List (Step ℕ) → Progress → List (Find ℕ) → List ℕ → ℕ → List (Step ℕ) → Type 0
PatternRan A = EventRan (pattern_shape A) A.signals (Accepted A)

abbrev pub JointRan : Automaton → Machine → List (Find JointConfig) → List (Step JointConfig) → Progress → List (Find JointConfig) → List JointConfig → ℕ → List (Step JointConfig) → Type 0
JointRan A M = EventRan (joint_shape A M) A.signals (Together A M)
