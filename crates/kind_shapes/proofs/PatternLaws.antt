-- The pattern kind keeps the laws of kinds.
use Rattle.std.proofs.Common.{◌≡◌, ℕ, zero, suc, ◌^◌, true, ltb, [], ◌∷◌, Some, None, refl, subst}
use Rattle.std.specs.List.{slice_get}
use Rattle.std.proofs.lemmas.Bool.{cond-true, cond-false, lt-ltb, le-ltb}
use Rattle.sets.proofs.Members.{set_of_lt}
use Rattle.patterns.specs.Automaton.{Automaton, states, root}
use Rattle.patterns.specs.Formed.{Formed}
use Rattle.patterns.specs.Values.{value, back}
use Rattle.patterns.proofs.Accepting.{back_grows}
use Rattle.kinds.specs.Laws.{Laws}
use Rattle.kinds.proofs.Values.{none_some}
use Rattle.kind_shapes.specs.Shapes.{subset, pattern_shape}
use Rattle.kind_shapes.proofs.Subsets.{below_fits, decides_subset, subset_refl, subset_trans}
use Rattle.kind_shapes.proofs.Taking.{tested}

-- the one entry of a list of one
pub only : {X : Type 0} (x y : X) (i : ℕ) → slice_get (x ∷ []) i ≡ Some y → x ≡ y
only x y zero e = cc
only x y (suc i) e = none_some refl e

module _ (A : Automaton) where
  -- back is a set of states
  pub back_below : (a d : ℕ) → ltb (back A a d) (2 ^ states A) ≡ true
  back_below a d = lt-ltb (back A a d) (2 ^ states A) (set_of_lt (λ (q : ℕ). value A a d (root A q)) (states A))

  module _ (F : Formed A) where
    pub finals_fit : ltb A.finals (2 ^ states A) ≡ true
    finals_fit = below_fits A.finals (states A) F.ends

    -- a larger set is reached from at least as many states
    pub back_subset : (a d d' : ℕ) → subset d d' ≡ true → subset (back A a d) (back A a d') ≡ true
    back_subset a d d' w =
        (decides_subset (back A a d) (back A a d')).1 (back_grows A F a d d' ((decides_subset d d').0 w))

    pub pattern_laws : Laws (pattern_shape A)
    pattern_laws =
        record {
          first_fits = λ i x e. subst (λ (c : ℕ). ltb c (2 ^ states A) ≡ true) (only A.finals x i e) finals_fit;
          back_fits = λ k y x _ e.
              let t = tested (ltb k (2 ^ A.signals)) (back A k y) x e in
              subst (λ (c : ℕ). ltb c (2 ^ states A) ≡ true) t.1 (back_below k y);
          reflexive = λ x _. subset_refl x;
          transitive = λ x y z _ _ _. subset_trans x y z;
          back_covered = λ k y z x _ _ w e.
              let t = tested (ltb k (2 ^ A.signals)) (back A k y) x e in (
                back A k z,
                cond-true (ltb k (2 ^ A.signals)) (Some (back A k z)) None t.0,
                subst (λ (c : ℕ). subset c (back A k z) ≡ true) t.1 (back_subset k y z w),
              );
          goal_covered = λ x y _ _ w. (decides_subset x y).0 w A.start;
          no_move = λ k y l. cond-false (ltb k (2 ^ A.signals)) (Some (back A k y)) None (le-ltb k (2 ^ A.signals) l);
        }
