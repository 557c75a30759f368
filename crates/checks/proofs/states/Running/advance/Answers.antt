use Rattle.checks.proofs.Refusing.{advance_ready}
use Rattle.checks.proofs.states.Running.advance.Goals as goal

pub turns-requires : goal.turns-requires
turns-requires g c = advance_ready _ _ _ _ _ c.args.grant c.in-Ok.ensures
