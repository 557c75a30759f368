use Rattle.patterns.proofs.Forming.{formed}
use Rattle.kind_shapes.proofs.PatternAccepting.{pattern_acceptance}
use Rattle.pattern_kinds.specs.PatternKind.{single_pattern}
use Rattle.pattern_kinds.proofs.pattern.Single.new.Goals as goal

pub returns : goal.returns
returns c =
    let s = c.alone.result in
    record {
      value = c.alone.ensures;
      accepted = pattern_acceptance (single_pattern s) (formed (single_pattern s) s.pattern.formed);
    }
