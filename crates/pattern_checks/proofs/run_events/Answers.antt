use Rattle.std.proofs.lemmas.Result.{MatchResult-weaker}
use Rattle.verdicts.proofs.Keeping.{event_promise}
use Rattle.pattern_checks.proofs.run_events.Goals as goal

pub returns : goal.returns
returns g c =
    let k = c.args.kind.now in
    let promise = event_promise (g.K.Kind.shape k) (g.K.Language.signals k) (g.K.Language.accepts k) (g.met.K.Language.speaks k) in
    record {
      cases = MatchResult-weaker c.run.result c.run.ensures.cases
          (λ p x. (x.0, record { ran = x.1; promise = promise _ _ _ x.1.stands.promise }))
          (λ e x. x);
      limit = c.run.ensures.limit;
    }
