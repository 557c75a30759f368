use Rattle.std.proofs.Common.{sym, ◌∙◌}
use Rattle.models.specs.Machine as models
use Rattle.patterns.specs.Automaton as patterns
use Rattle.inspections.proofs.Passing.{accepts_jointly, passed_never_together}
use Rattle.inspections.proofs.inspect_joint.Goals as goal

pub returns : goal.returns
returns c =
    let A = patterns.read c.args.parts in
    let M = models.read c.args.model in
    record {
      value = c.examine_joint.ensures;
      ok = λ e. passed_never_together A M c.args.list.now (sym c.examine_joint.ensures ∙ e);
      accepted = accepts_jointly A M;
    }
