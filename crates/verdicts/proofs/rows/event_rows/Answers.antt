use Rattle.verdicts.proofs.Keeping.{event_promise, event_searches}
use Rattle.verdicts.proofs.rows.event_rows.Goals as goal

pub returns-clause-keeps_promise : goal.returns-clause-keeps_promise
returns-clause-keeps_promise g c = event_promise _ _ _ (g.met.K.Language.speaks c.args.kind.now)

pub returns-clause-searches : goal.returns-clause-searches
returns-clause-searches g c =
    event_searches _ _ _ (g.met.K.Language.speaks c.args.kind.now) c.admits_rows.ensures.keeps_promise
