use Rattle.std.proofs.Common.{sym, ◌∙◌}
use Rattle.patterns.specs.Automaton.{read}
use Rattle.inspections.proofs.Passing.{accepts, passed_never}
use Rattle.inspections.proofs.inspect_pattern.Goals as goal

pub returns : goal.returns
returns c =
    let A = read c.args.parts in
    record {
      value = c.examine_pattern.ensures;
      ok = λ e. passed_never A c.args.list.now (sym c.examine_pattern.ensures ∙ e);
      accepted = accepts A;
    }
