-- A building keeps the laws of a kind.
--
-- below_refl, below_trans   being below is an order
-- first_capped              a first configuration is not above the top
-- step_taken                how back came to be: a step at whose entry y stands or above
-- building_laws             the laws
use Rattle.std.specs.Prelude.{◌≡◌, ℕ, zero, suc, ◌+◌, ◌≤◌, min, Bool, true, false, cond, List, [], ◌∷◌, map, Some, None, ◌==◌, nat_le, refl}
use Rattle.std.proofs.Common.{◌∙◌, ap, subst, arith}
use Rattle.std.specs.List.{slice_get}
use Rattle.std.proofs.lemmas.Option.{slice_get_past}
use Rattle.std.proofs.lemmas.Bool.{and_parts, and_from, eqb-true, eq-eqb, leb-true, le-leb}
use Rattle.kinds.specs.Laws.{Laws}
use Rattle.kinds.specs.Accepted.{and_then}
use Rattle.kinds.proofs.Values.{none_some, from_value}
use Rattle.inspector_tests.specs.declared.building.Cell.{Cell}
use Rattle.inspector_tests.specs.declared.building.Step.{Step}
use Rattle.inspector_tests.specs.declared.building.Building.{Building}
use Rattle.inspector_tests.specs.Building.{below, capped, stepped, building_shape}

below_parts : (x y : Cell) → below x y ≡ true → (x.room ≡ y.room) × (x.level ≤ y.level)
below_parts x y h =
    let r = and_parts (x.room == y.room) (nat_le x.level y.level) h in
    (eqb-true x.room y.room r.0, leb-true x.level y.level r.1)

below_from : (x y : Cell) → x.room ≡ y.room → x.level ≤ y.level → below x y ≡ true
below_from x y e l = and_from (x.room == y.room) (nat_le x.level y.level) (eq-eqb x.room y.room e) (le-leb x.level y.level l)

pub below_refl : (x : Cell) → below x x ≡ true
below_refl x = below_from x x refl (omega arith)

pub below_trans : (x y z : Cell) → below x y ≡ true → below y z ≡ true → below x z ≡ true
below_trans x y z p q =
    let a = below_parts x y p in
    let b = below_parts y z q in
    below_from x z (a.0 ∙ b.0) (omega (arith, a.1, b.1))

capped_fits : (room level top : ℕ) → nat_le (capped room level top).level top ≡ true
capped_fits room level top = le-leb (min level top) top (omega arith)

pub first_capped : (top : ℕ) (cs : List Cell) (i : ℕ) (x : Cell) → slice_get (map (λ (c : Cell). capped c.room c.level top) cs) i ≡ Some x → nat_le x.level top ≡ true
first_capped top [] i x e = none_some refl e
first_capped top (c ∷ cs) zero x e =
    let q : capped c.room c.level top ≡ x = cc in
    subst (λ (v : Cell). nat_le v.level top ≡ true) q (capped_fits c.room c.level top)
first_capped top (c ∷ cs) (suc i) x e = first_capped top cs i x e

given : (b : Bool) (v x : Cell) → cond b (Some v) None ≡ Some x → (b ≡ true) × (v ≡ x)
given true v x e = (refl, cc)
given false v x e = none_some refl e

pub step_taken : (top : ℕ) (ts : List Step) (k : ℕ) (y x : Cell) → and_then (slice_get ts k) (stepped top y) ≡ Some x → (t : Step) × (slice_get ts k ≡ Some t) × (below t.into y ≡ true) × (capped t.out_of (y.level + t.raise) top ≡ x)
step_taken top ts k y x e =
    let f = from_value (slice_get ts k) (stepped top y) x e in
    let g = given (below f.0.into y) (capped f.0.out_of (y.level + f.0.raise) top) x f.2 in
    (f.0, f.1, g.0, g.1)

back_higher : (top : ℕ) (ts : List Step) (k : ℕ) (y z x : Cell) → below y z ≡ true → and_then (slice_get ts k) (stepped top y) ≡ Some x → (w : Cell) × (and_then (slice_get ts k) (stepped top z) ≡ Some w) × (below x w ≡ true)
back_higher top ts k y z x l e =
    let r = step_taken top ts k y x e in
    let t = r.0 in
    let w = capped t.out_of (z.level + t.raise) top in
    let up = below_trans t.into y z r.2 l in
    let h = (below_parts y z l).1 in (
      w,
      ap (λ o. and_then o (stepped top z)) r.1 ∙ ap (λ (v : Bool). cond v (Some w) None) up,
      subst (λ (v : Cell). below v w ≡ true) r.3 (below_from (capped t.out_of (y.level + t.raise) top) w refl (omega arith)),
    )

pub building_laws : (b : Building) → Laws (building_shape b)
building_laws b = record {
  first_fits = first_capped b.top b.firsts.now;
  back_fits = λ k y x _ e.
      let r = step_taken b.top b.steps.now k y x e in
      subst (λ (v : Cell). nat_le v.level b.top ≡ true) r.3 (capped_fits r.0.out_of (y.level + r.0.raise) b.top);
  reflexive = λ x _. below_refl x;
  transitive = λ x y z _ _ _. below_trans x y z;
  back_covered = λ k y z x _ _. back_higher b.top b.steps.now k y z x;
  goal_covered = λ x y _ _ l g. below_trans b.target x y g l;
  no_move = λ k y l. ap (λ o. and_then o (stepped b.top y)) (slice_get_past b.steps.now k l);
}
