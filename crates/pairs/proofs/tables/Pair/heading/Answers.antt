use Rattle.std.proofs.Common.{ℕ, ◌+◌, ap, ◌∙◌}
use Rattle.files.specs.declared.heading.Heading.{Heading}
use Rattle.patterns.specs.Automaton.{read}
use Rattle.duals.specs.Without.{without, row_count_of, state_count_of}
use Rattle.pairs.proofs.tables.Pair.heading.Goals as goal

pub returns : goal.returns
unfolding without
returns c =
    let B = read c.args.self.later in
    let A = read c.args.self.earlier in
    let made : ℕ → ℕ → Heading = λ m d. record {
      states = state_count_of B A + 1;
      signals = m;
      start = state_count_of B A;
      rows = row_count_of B A + 1;
      finals = d;
    } in
    ap (λ (m : ℕ). made m c.finals.result) c.signals.ensures
    ∙ ap (made (without B A).signals) c.finals.ensures
