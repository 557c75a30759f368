-- The laws of the kind of spots. Assumes nothing.
use Rattle.std.specs.Prelude.{◌≡◌, true, ◌==◌, bit_and, refl}
use Rattle.std.proofs.Common.{◌∙◌}
use Rattle.std.specs.Int.Bits.{and_self}
use Rattle.std.proofs.lemmas.Bool.{and_from, and_parts, eq-eqb, eqb-true, false≢true, ltb-true}
use Rattle.kinds.specs.Laws.{Laws}
use Rattle.kinds.proofs.Values.{none_some}
use Rattle.sets.proofs.Members.{decides_within}
use Rattle.store_tests.specs.declared.spots.Spot.{Spot}
use Rattle.store_tests.specs.Spots.{spots, spot_within}

within_itself : (x : Spot) → spot_within x x ≡ true
within_itself x =
    and_from (x.place == x.place) (bit_and x.set x.set == x.set)
    (eq-eqb x.place x.place refl) (eq-eqb (bit_and x.set x.set) x.set (and_self x.set))

within_through : (x y z : Spot) → spots.fits x ≡ true → spots.fits y ≡ true → spot_within x y ≡ true → spot_within y z ≡ true → spot_within x z ≡ true
within_through x y z fx fy v w =
    let p = and_parts (x.place == y.place) (bit_and x.set y.set == x.set) v in
    let q = and_parts (y.place == z.place) (bit_and y.set z.set == y.set) w in
    let first = (decides_within 4 x.set y.set (ltb-true x.set 16 fx)).0 p.1 in
    let second = (decides_within 4 y.set z.set (ltb-true y.set 16 fy)).0 q.1 in
    and_from (x.place == z.place) (bit_and x.set z.set == x.set)
    (eq-eqb x.place z.place (eqb-true x.place y.place p.0 ∙ eqb-true y.place z.place q.0))
    ((decides_within 4 x.set z.set (ltb-true x.set 16 fx)).1 (λ m h. second m (first m h)))

pub spots_lawful : Laws spots
spots_lawful = record {
  first_fits = λ i x e. none_some refl e;
  back_fits = λ k y x f e. none_some refl e;
  reflexive = λ x f. within_itself x;
  transitive = λ x y z fx fy fz. within_through x y z fx fy;
  back_covered = λ k y z x fy fz w e. none_some refl e;
  goal_covered = λ x y fx fy w g. absurd (false≢true g);
  no_move = λ k y l. refl;
}
