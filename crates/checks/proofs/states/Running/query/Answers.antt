use Rattle.std.proofs.Common.{rules}
use Rattle.checks.proofs.Stepping.{found_new}
use Rattle.checks.proofs.states.Running.query.Goals as goal

pub note_find-requires-clause-fresh : goal.note_find-requires-clause-fresh
note_find-requires-clause-fresh g c = found_new c.requires.ready c.args.self.room c.args.self.here c.requires.answered c.in-Some.k _ (search rules)

pub note_find-requires-2-clause-fresh : goal.note_find-requires-2-clause-fresh
note_find-requires-2-clause-fresh g c = found_new c.requires.ready c.args.self.room c.args.self.here c.requires.answered c.in-Some.k _ (search rules)
