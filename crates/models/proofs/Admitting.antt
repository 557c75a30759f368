-- What an arrow looks at in an event.
use Rattle.std.proofs.Common.{◌≡◌, ℕ, ◌%◌, ◌^◌, ◌<◌, Bool, true, false, ◌&&◌, eqb, Decides, sym, refl, ap, ◌∙◌, ⊎_elim, mod-eq_of_lt, arith}
use lib.Bits.{bit_and, and_le_r, and_mod}
use Rattle.std.proofs.lemmas.Bool.{cases_Bool, both_ways, and_parts, and_right, eqb-true, eq-eqb}
use Rattle.sets.specs.Sets.{has, Within}
use Rattle.sets.proofs.Members.{has_and, same_set}
use Rattle.models.specs.declared.arrow.Arrow.{Arrow}
use Rattle.models.specs.Sent.{admits, Agrees}

-- bits of the event from m up make no difference where the mask has none there
pub admits_lowered : (m : ℕ) (t : Arrow) (a : ℕ) → t.mask < 2 ^ m → admits t a ≡ admits t (a % 2 ^ m)
admits_lowered m t a h =
    let l : bit_and a t.mask < 2 ^ m = let r = and_le_r a t.mask in omega arith in
    let e : bit_and a t.mask ≡ bit_and (a % 2 ^ m) t.mask =
    sym (mod-eq_of_lt l) ∙ and_mod a t.mask m ∙ ap (bit_and (a % 2 ^ m)) (mod-eq_of_lt h) in
    ap (λ (i : ℕ). eqb i t.value) e

and_with : (x y : Bool) → y ≡ true → (x && y) ≡ x
and_with true y e = e
and_with false y e = refl

module _ (t : Arrow) (a : ℕ) where
  -- an arrow that admits anything has its value inside its mask
  pub admits_within : admits t a ≡ true → Within t.value t.mask
  admits_within e q v =
      let b : has (bit_and a t.mask) q ≡ true = ap (λ (i : ℕ). has i q) (eqb-true (bit_and a t.mask) t.value e) ∙ v in
      (and_parts (has a q) (has t.mask q) (sym (has_and a t.mask q) ∙ b)).1

  admits_same : admits t a ≡ true → (q : ℕ) → has t.mask q ≡ true → has a q ≡ has t.value q
  admits_same e q s =
      sym (and_with (has a q) (has t.mask q) s) ∙ sym (has_and a t.mask q)
      ∙ ap (λ (i : ℕ). has i q) (eqb-true (bit_and a t.mask) t.value e)

  same_bits : Agrees t a → (q : ℕ) → has (bit_and a t.mask) q ≡ has t.value q
  same_bits g q = has_and a t.mask q ∙ ⊎_elim
      (λ (s : has t.mask q ≡ true). and_with (has a q) (has t.mask q) s ∙ g.1 q s)
      (λ (s : has t.mask q ≡ false). and_right (has a q) (has t.mask q) s ∙ sym (off s))
      (cases_Bool (has t.mask q))
    where
      off : has t.mask q ≡ false → has t.value q ≡ false
      off s = ⊎_elim
          (λ (y : has t.value q ≡ true). absurd (both_ways (has t.mask q) s (g.0 q y)))
          (λ (y : has t.value q ≡ false). y)
          (cases_Bool (has t.value q))

  -- to admit an event is to agree with it on the mask
  pub decides_agrees : (k : ℕ) → t.mask < 2 ^ k → t.value < 2 ^ k → Decides (admits t a) (Agrees t a)
  decides_agrees k l v = (
    (λ e. (admits_within e, admits_same e)),
    λ g. eq-eqb (bit_and a t.mask) t.value
        (same_set k (bit_and a t.mask) t.value (let r = and_le_r a t.mask in omega arith) v (λ q _. same_bits g q)),
  )
