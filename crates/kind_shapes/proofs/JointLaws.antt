-- The joint kind keeps the laws of kinds.
use Rattle.std.proofs.Common.{◌≡◌, ℕ, ◌*◌, ◌/◌, ◌%◌, ◌^◌, ◌<◌, ◌≤◌, true, eqb, ltb, length, Some, None, Option, sym, refl, ap, ◌∙◌, subst}
use Rattle.std.specs.List.{slice_get}
use Rattle.std.proofs.lemmas.Nat.{le-div, pow_pos}
use Rattle.std.proofs.lemmas.Option.{slice_get-map, slice_get_past, slice_get_within}
use Rattle.std.proofs.lemmas.Bool.{and_parts, and_from, cond-true, eqb-true, eq-eqb, lt-ltb}
use Rattle.sets.specs.Sets.{has}
use Rattle.patterns.specs.Automaton.{Automaton, states}
use Rattle.patterns.specs.Formed as pattern
use Rattle.patterns.specs.Values.{back}
use Rattle.models.specs.declared.arrow.Arrow.{Arrow}
use Rattle.models.specs.Formed as model
use Rattle.models.specs.Machine.{Machine, arrow, idle}
use Rattle.models.specs.Sent.{admits}
use Rattle.kinds.specs.Accepted.{and_then}
use Rattle.kinds.specs.Laws.{Laws}
use Rattle.kinds.proofs.Searches.{read_at}
use Rattle.kinds.proofs.Values.{from_value}
use Rattle.kind_shapes.specs.declared.JointConfig.{JointConfig}
use Rattle.kind_shapes.specs.Shapes.{subset, members, joined, enters, crossed, joint_shape}
use Rattle.kind_shapes.proofs.Listing.{listed_member}
use Rattle.kind_shapes.proofs.PatternLaws.{back_below, back_subset, finals_fit}
use Rattle.kind_shapes.proofs.Subsets.{decides_subset, subset_refl, subset_trans}
use Rattle.kind_shapes.proofs.Taking.{tested, of_value}

module _ (A : Automaton) (M : Machine) where
  -- the arrow that a move is worked back along from y to x, under the move's event
  pub record Crossing (k : ℕ) (y x : JointConfig) : Type 0 where
    pub there : k / 2 ^ A.signals < length M.arrows
    pub found : slice_get M.arrows (k / 2 ^ A.signals) ≡ Some (arrow M (k / 2 ^ A.signals))
    pub admitted : admits (arrow M (k / 2 ^ A.signals)) (k % 2 ^ A.signals) ≡ true
    pub entered : (arrow M (k / 2 ^ A.signals)).to ≡ y.state
    pub left : joined (arrow M (k / 2 ^ A.signals)).from (back A (k % 2 ^ A.signals) y.set) ≡ x

  pub crossing : (k : ℕ) (y x : JointConfig) → (joint_shape A M).back k y ≡ Some x → Crossing k y x
  crossing k y x e =
      let i = k / 2 ^ A.signals in
      let a = k % 2 ^ A.signals in
      let f = from_value (slice_get M.arrows i) (crossed A a y) x e in
      let r : arrow M i ≡ f.0 = read_at M.arrows i f.0 idle f.1 in
      let t = tested (enters f.0 a y.state) (joined f.0.from (back A a y.set)) x f.2 in
      let p = and_parts (admits f.0 a) (eqb f.0.to y.state) t.0 in
      record {
        there = slice_get_within M.arrows i f.0 f.1;
        found = f.1 ∙ ap Some (sym r);
        admitted = ap (λ (u : Arrow). admits u a) r ∙ p.0;
        entered = ap (λ (u : Arrow). u.to) r ∙ eqb-true f.0.to y.state p.1;
        left = ap (λ (u : Arrow). joined u.from (back A a y.set)) r ∙ t.1;
      }

  -- an arrow that admits an event and enters y's model state is worked back there
  pub crosses : (k : ℕ) (y : JointConfig) (t : Arrow) → slice_get M.arrows (k / 2 ^ A.signals) ≡ Some t
      → admits t (k % 2 ^ A.signals) ≡ true → t.to ≡ y.state
      → (joint_shape A M).back k y ≡ Some (joined t.from (back A (k % 2 ^ A.signals) y.set))
  crosses k y t f a e =
      ap (λ (o : Option Arrow). and_then o (crossed A (k % 2 ^ A.signals) y)) f
      ∙ cond-true (enters t (k % 2 ^ A.signals) y.state) (Some (joined t.from (back A (k % 2 ^ A.signals) y.set))) None
      (and_from (admits t (k % 2 ^ A.signals)) (eqb t.to y.state) a (eq-eqb t.to y.state e))

  -- what a first configuration is
  pub first_is : (i : ℕ) (x : JointConfig) → slice_get (joint_shape A M).firsts i ≡ Some x
      → (x.state < M.states) × (has M.ends x.state ≡ true) × (x.set ≡ A.finals)
  first_is i x e =
      let f : ℕ → JointConfig = λ q. joined q A.finals in
      let v = of_value f (slice_get (members M.ends M.states) i) x (sym (slice_get-map f (members M.ends M.states) i) ∙ e) in
      let l = listed_member M.ends M.states i v.0 v.1 in
      let s : v.0 ≡ x.state = ap (λ (y : JointConfig). y.state) v.2 in (
        subst (λ (q : ℕ). q < M.states) s l.0,
        subst (λ (q : ℕ). has M.ends q ≡ true) s l.1,
        sym (ap (λ (y : JointConfig). y.set) v.2),
      )

  -- the two parts of being within
  pub within_parts : (x y : JointConfig) → (joint_shape A M).within x y ≡ true → (x.state ≡ y.state) × (subset x.set y.set ≡ true)
  within_parts x y w =
      let p = and_parts (eqb x.state y.state) (subset x.set y.set) w in
      (eqb-true x.state y.state p.0, p.1)

  within_from : (x y : JointConfig) → x.state ≡ y.state → subset x.set y.set ≡ true → (joint_shape A M).within x y ≡ true
  within_from x y e w = and_from (eqb x.state y.state) (subset x.set y.set) (eq-eqb x.state y.state e) w

  fits_from : (x : JointConfig) → x.state < M.states → ltb x.set (2 ^ states A) ≡ true → (joint_shape A M).fits x ≡ true
  fits_from x l b = and_from (ltb x.state M.states) (ltb x.set (2 ^ states A)) (lt-ltb x.state M.states l) b

  module _ (F : pattern.Formed A) (G : model.Formed A.signals M) where
    first_fits : (i : ℕ) (x : JointConfig) → slice_get (joint_shape A M).firsts i ≡ Some x → (joint_shape A M).fits x ≡ true
    first_fits i x e =
        let f = first_is i x e in
        fits_from x f.0 (subst (λ (c : ℕ). ltb c (2 ^ states A) ≡ true) (sym f.2) (finals_fit A F))

    back_fits : (k : ℕ) (y x : JointConfig) → (joint_shape A M).back k y ≡ Some x → (joint_shape A M).fits x ≡ true
    back_fits k y x e =
        let c = crossing k y x e in
        let i = k / 2 ^ A.signals in
        let a = k % 2 ^ A.signals in
        subst (λ (v : JointConfig). (joint_shape A M).fits v ≡ true) c.left
        (fits_from (joined (arrow M i).from (back A a y.set)) (G.joined i c.there).leaves (back_below A a y.set))

    back_covered : (k : ℕ) (y z x : JointConfig) → (joint_shape A M).within y z ≡ true → (joint_shape A M).back k y ≡ Some x
        → (w : JointConfig) × ((joint_shape A M).back k z ≡ Some w) × ((joint_shape A M).within x w ≡ true)
    back_covered k y z x w e =
        let c = crossing k y x e in
        let p = within_parts y z w in
        let a = k % 2 ^ A.signals in
        let t = arrow M (k / 2 ^ A.signals) in (
          joined t.from (back A a z.set),
          crosses k z t c.found c.admitted (c.entered ∙ p.0),
          subst (λ (v : JointConfig). (joint_shape A M).within v (joined t.from (back A a z.set)) ≡ true) c.left
              (within_from (joined t.from (back A a y.set)) (joined t.from (back A a z.set)) refl
              (back_subset A F a y.set z.set p.1)),
        )

    goal_covered : (x y : JointConfig) → (joint_shape A M).within x y ≡ true → (joint_shape A M).goal x ≡ true → (joint_shape A M).goal y ≡ true
    goal_covered x y w g =
        let p = within_parts x y w in
        let h = and_parts (eqb x.state M.start) (has x.set A.start) g in
        and_from (eqb y.state M.start) (has y.set A.start)
        (eq-eqb y.state M.start (sym p.0 ∙ eqb-true x.state M.start h.0))
        ((decides_subset x.set y.set).0 p.1 A.start h.1)

    no_move : (k : ℕ) (y : JointConfig) → length M.arrows * 2 ^ A.signals ≤ k → (joint_shape A M).back k y ≡ None
    no_move k y l =
        let p = le-div (length M.arrows) k (2 ^ A.signals) (pow_pos A.signals) l in
        ap (λ (o : Option Arrow). and_then o (crossed A (k % 2 ^ A.signals) y)) (slice_get_past M.arrows (k / 2 ^ A.signals) p)

    pub joint_laws : Laws (joint_shape A M)
    joint_laws = record {
      first_fits = first_fits;
      back_fits = λ k y x _. back_fits k y x;
      reflexive = λ x _. within_from x x refl (subset_refl x.set);
      transitive = λ x y z _ _ _ v w.
          let p = within_parts x y v in
          let q = within_parts y z w in
          within_from x z (p.0 ∙ q.0) (subset_trans x.set y.set z.set p.1 q.1);
      back_covered = λ k y z x _ _. back_covered k y z x;
      goal_covered = λ x y _ _. goal_covered x y;
      no_move = no_move;
    }
