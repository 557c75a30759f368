use Rattle.std.proofs.Common.{[], ◌∷◌, refl}
use Rattle.std.proofs.lemmas.Bool.Decides.{not_from_Decides}
use Rattle.sets.specs.Sets.{set_of}
use Rattle.patterns.specs.Latch.{latch, Worked}
use Rattle.patterns.specs.Questions.{judged}
use Rattle.patterns.proofs.Accepting.{decides_accepted}
use Rattle.patterns.proofs.Forming.{formed}
use Rattle.patterns.proofs.examples.latch.Goals as goal

worked : Worked
unfolding judged set_of
worked =
    let d = decides_accepted latch (formed latch refl) in
    record {
      meets = refl;
      rejects_empty = not_from_Decides _ (d []) refl;
      rejects_1_0 = not_from_Decides _ (d (1 ∷ 0 ∷ [])) refl;
      accepts_1_1 = (d (1 ∷ 1 ∷ [])).0 refl;
      accepts_3_1_0 = (d (3 ∷ 1 ∷ 0 ∷ [])).0 refl;
      back_1_2 = refl;
      back_0_2 = refl;
    }

pub returns : goal.returns
returns c = record { value = c.latch_tables.ensures; worked = worked }
