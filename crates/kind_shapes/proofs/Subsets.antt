-- Subset as a test: it decides being within, and so it is an order.
use Rattle.std.proofs.Common.{◌≡◌, ℕ, zero, suc, ◌*◌, ◌^◌, ◌<◌, true, ltb, Decides, pow-suc, arith}
use Rattle.sets.specs.Sets.{Within, Below}
use Rattle.sets.proofs.Members.{decides_within, decides_below}
use Rattle.kind_shapes.specs.Shapes.{subset}

-- every number is below some power of two
below_power : (n : ℕ) → n < 2 ^ n
below_power zero = omega arith
below_power (suc n) =
    let h = below_power n in
    let p : 2 ^ suc n ≡ 2 ^ n * 2 = pow-suc 2 n in
    omega arith

-- a set whose members are below n is below 2 ^ n
pub below_fits : (c n : ℕ) → Below c n → ltb c (2 ^ n) ≡ true
below_fits c n b = (decides_below c c n (below_power c)).1 b

pub decides_subset : (c d : ℕ) → Decides (subset c d) (Within c d)
decides_subset c d = decides_within c c d (below_power c)

pub subset_refl : (c : ℕ) → subset c c ≡ true
subset_refl c = (decides_subset c c).1 (λ q h. h)

pub subset_trans : (c d e : ℕ) → subset c d ≡ true → subset d e ≡ true → subset c e ≡ true
subset_trans c d e v w = (decides_subset c e).1 (λ q h. (decides_subset d e).0 w q ((decides_subset c d).0 v q h))
