use Rattle.patterns.specs.declared.pattern.Pattern.{Pattern}
use Rattle.patterns.specs.Formed.{Formed}
use Rattle.patterns.specs.View.{automaton}
use Rattle.patterns.proofs.Forming.{formed}
use Rattle.patterns.proofs.Meeting.{meets}
use Rattle.duals.specs.Without.{without}
use Rattle.duals.proofs.Pairing.{pair_formed}
use Rattle.duals.proofs.Separating.{separates}
use Rattle.duals.proofs.pair_matches.Goals as goal

is_formed : (p : Pattern) → Formed (automaton p)
is_formed p = formed (automaton p) p.formed

pub returns : goal.returns
returns c =
    let B = automaton c.args.later.now in
    let A = automaton c.args.earlier.now in
    let G = is_formed c.args.later.now in
    let F = is_formed c.args.earlier.now in
    record {
      accepted = c.matches_alone.ensures;
      pattern = λ s. meets (without B A) (pair_formed B A G F s);
      separated = separates B A G F;
    }
