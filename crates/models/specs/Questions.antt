-- The questions asked of a model, in their order, and the first that is answered no.
--
-- sized n s es k          n is 1 to 64 states, k at most 256 arrows, the start s and each end state of es one of the states
-- proper n m t            arrow t joins two of n states, its mask is below 2 ^ m, and its value has no bit outside the mask
-- arrows_fault n m i ts   the first arrow of ts that is not proper, the numbers beginning at i
-- judged m M              the first fault of M as a model over m signals, or nothing
use Rattle.std.specs.Prelude.{ℕ, ◌+◌, ◌^◌, Bool, cond, ◌&&◌, List, [], ◌∷◌, length, Some, None, Option, ◌==◌, bit_and, nat_le, nat_lt}
use Rattle.models.specs.declared.arrow.Arrow.{Arrow}
use Rattle.models.specs.declared.fault.ModelFault.{ModelFault}
use Rattle.models.specs.declared.fault.ModelFault.TheVariants.{Sizes, Arrow as BadArrow}
use Rattle.models.specs.Machine.{Machine}

-- the first of two faults
abbrev pub first : {F : Type 0} → Option F → Option F → Option F
first None g = g
first (Some f) g = Some f

-- nothing where the question is answered yes, otherwise the fault
abbrev pub unless : {F : Type 0} → Bool → F → Option F
unless b f = cond b None (Some f)

abbrev pub sized : ℕ → ℕ → ℕ → ℕ → Bool
sized n start ends k = nat_lt 0 n && (nat_le n 64 && (nat_le k 256 && (nat_lt start n && nat_lt ends (2 ^ n))))

abbrev pub proper : ℕ → ℕ → Arrow → Bool
proper n m t =
    nat_lt t.from n && (nat_lt t.to n && (nat_lt t.mask (2 ^ m) && bit_and t.value t.mask == t.value))

abbrev pub arrows_fault : ℕ → ℕ → ℕ → List Arrow → Option ModelFault
arrows_fault n m i [] = None
arrows_fault n m i (t ∷ ts) = first (unless (proper n m t) (BadArrow i)) (arrows_fault n m (i + 1) ts)

unfoldable pub judged : ℕ → Machine → Option ModelFault
judged m M =
    first (unless (sized M.states M.start M.ends (length M.arrows)) Sizes)
    (arrows_fault M.states m 0 M.arrows)
