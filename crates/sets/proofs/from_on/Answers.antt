use Rattle.std.proofs.Common.{◌≡◌, ℕ, ◌*◌, ◌/◌, ◌^◌, ◌<◌, ◌≤◌, eqb, ltb, Decides, sym, refl, ◌∙◌, ⊎_elim, arith, pow_mono}
use native.Mathlib.Nat.{div-eq_of_lt}
use Rattle.std.proofs.lemmas.Bool.{cases_lt, lt-ltb, le-ltb, eq-eqb, ne_eqb}
use Rattle.std.proofs.lemmas.Bool.Decides.{Decides-at}
use Rattle.std.proofs.lemmas.Nat.{div_below, le-div, pow_pos}
use Rattle.sets.specs.Sets.{Below}
use Rattle.sets.proofs.Members.{decides_below}
use Rattle.sets.proofs.from_on.Goals as goal

shifted_out : (f n : ℕ) → eqb (f / 2 ^ n) 0 ≡ ltb f (2 ^ n)
shifted_out f n = ⊎_elim
    (λ l.
    let h : f < 1 * 2 ^ n = omega arith in
    let k = div_below f (2 ^ n) 1 (pow_pos n) h in
    eq-eqb (f / 2 ^ n) 0 (omega arith) ∙ sym (lt-ltb f (2 ^ n) l))
    (λ l.
    let h : 1 * 2 ^ n ≤ f = omega arith in
    let k = le-div 1 f (2 ^ n) (pow_pos n) h in
    ne_eqb (f / 2 ^ n) 0 (λ e. omega arith) ∙ sym (le-ltb f (2 ^ n) l))
    (cases_lt f (2 ^ n))

-- what holds of the quotient
record Shifted (set place r : ℕ) : Type 0 where
  value : r ≡ set / 2 ^ place
  test : eqb r 0 ≡ ltb set (2 ^ place)
  members : Decides (eqb r 0) (Below set place)

shifted : (set place r : ℕ) → set < 2 ^ 64 → r ≡ set / 2 ^ place → Shifted set place r
shifted set place r l e =
    let t : eqb r 0 ≡ ltb set (2 ^ place) = rw e (shifted_out set place) in
    record { value = e; test = t; members = Decides-at _ _ t (decides_below 64 set place l) }

none_left : (set place : ℕ) → set < 2 ^ 64 → 64 ≤ place → 0 ≡ set / 2 ^ place
none_left set place l h =
    let p = pow_mono {i = 64} {j = place} h in
    sym (div-eq_of_lt (omega arith))

pub returns-then-place-lt-MAX_STATES : goal.returns-then-place-lt-MAX_STATES
returns-then-place-lt-MAX_STATES c =
    let s = shifted c.args.set c.args.place _ c.ranges.set.fits refl in
    record { value = s.value; test = s.test; members = s.members }

pub returns-else-place-lt-MAX_STATES : goal.returns-else-place-lt-MAX_STATES
returns-else-place-lt-MAX_STATES c =
    let s = shifted c.args.set c.args.place 0 c.ranges.set.fits
    (none_left c.args.set c.args.place c.ranges.set.fits (omega arith)) in
    record { value = s.value; test = s.test; members = s.members }
