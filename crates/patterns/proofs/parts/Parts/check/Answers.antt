use Rattle.patterns.specs.Automaton.{read}
use Rattle.patterns.proofs.Meeting.{decides_formed}
use Rattle.patterns.proofs.parts.Parts.check.Goals as goal

pub returns-clause-formed : goal.returns-clause-formed
returns-clause-formed c = decides_formed (read c.args.self) c.ask.result c.ask.ensures
