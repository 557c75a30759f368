-- The keys of the two kinds, and what keys are for.
--
-- pattern_key x      in the pattern kind the key is the states that the set x has not
-- pattern_config w   the set whose key is w
-- joint_key x        in the joint kind 64 plus the model state comes first
-- joint_config w     the configuration whose key is w
-- KeyOrder           x is within y exactly if every number of y's key is one of x's: the fewer states a set has not, the more it covers
use Rattle.std.specs.Prelude.{◌≡◌, ℕ, ◌+◌, ◌-◌, true, List, [], ◌∷◌}
use Rattle.kinds.specs.Shape.{Shape}
use Rattle.kind_shapes.specs.declared.JointConfig.{JointConfig}
use Rattle.kind_shapes.specs.Shapes.{joined}
use Rattle.keys.specs.Numbers.{contained, missing, lacking, proper}

abbrev pub pattern_key : ℕ → List ℕ
pattern_key x = missing x 64

abbrev pub pattern_config : List ℕ → ℕ
pattern_config w = lacking w

abbrev pub joint_key : JointConfig → List ℕ
joint_key x = (64 + x.state) ∷ missing x.set 64

abbrev pub joint_config : List ℕ → JointConfig
joint_config [] = joined 0 0
joint_config (n ∷ w) = joined (n - 64) (lacking w)

pub record KeyOrder {C : Type 0} (leads : ℕ) (s : Shape C) (config : List ℕ → C) : Type 0 where
  pub order : (v w : List ℕ) → proper leads v ≡ true → proper leads w ≡ true → s.within (config v) (config w) ≡ contained w v
