use Rattle.std.proofs.lemmas.Bool.Decides.{Decides-like}
use Rattle.patterns.specs.declared.pattern.Pattern.{Pattern}
use Rattle.patterns.specs.View.{automaton}
use Rattle.patterns.proofs.Forming.{formed}
use Rattle.duals.specs.Complement.{Complements}
use Rattle.duals.proofs.Complementing.{complements}
use Rattle.duals.proofs.dual_matches.Goals as goal

complement : (p : Pattern) → Complements (automaton p)
complement p = complements (automaton p) (formed (automaton p) p.formed)

pub returns : goal.returns
returns c =
    let exact = complement c.args.pattern.now c.args.events.now in
    record {
      accepted = Decides-like c.rejects.result exact.1 exact.0 c.rejects.ensures;
      complement = complement c.args.pattern.now;
    }
