-- A kind with any first configurations and no moves.
--
-- beginnings          what it means
-- beginnings_lawful   its laws
use Rattle.std.proofs.Common.{◌∙◌}
use Rattle.std.specs.Prelude.{ℕ, true, false, eqb, None, refl}
use Rattle.std.proofs.lemmas.Bool.{eq-eqb, eqb-true}
use Rattle.kinds.specs.Shape.{Shape}
use Rattle.kinds.specs.Laws.{Laws}
use Rattle.kinds.proofs.Values.{none_some}
use Rattle.search_tests.specs.declared.beginnings.Beginnings.{Beginnings}

abbrev pub beginnings : Beginnings → Shape ℕ
beginnings b = record {
  fits = λ x. true;
  within = eqb;
  firsts = b.firsts.now;
  moves = 0;
  event = λ k. 0;
  goal = λ x. false;
  back = λ k y. None;
}

pub beginnings_lawful : (b : Beginnings) → Laws (beginnings b)
beginnings_lawful b = record {
  first_fits = λ i x e. refl;
  back_fits = λ k y x f e. refl;
  reflexive = λ x f. eq-eqb x x refl;
  transitive = λ x y z f g h v w. eq-eqb x z (eqb-true x y v ∙ eqb-true y z w);
  back_covered = λ k y z x f g w e. none_some refl e;
  goal_covered = λ x y f g w e. e;
  no_move = λ k y l. refl;
}
