use Rattle.std.proofs.Common.{◌≡◌, ap, arith}
use Rattle.patterns.specs.Automaton.{Automaton}
use Rattle.patterns.specs.View.{automaton}
use Rattle.patterns.proofs.Forming.{formed}
use Rattle.kind_shapes.proofs.reading.signal_count.Goals as goal

pub returns : goal.returns
returns c =
    let p = c.args.pattern.now in
    let e : c.parts.result.signals ≡ (automaton p).signals = ap (λ (A : Automaton). A.signals) c.parts.ensures in
    let few = (formed (automaton p) p.formed).few_signals in
    record { value = e; few = omega arith }
