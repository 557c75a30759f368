-- What the pattern kind accepts, in the words of sequences of events.
--
-- pattern_signals s    how many signals the pattern in s has
-- pattern_language s   the sequences of events that it accepts
-- pattern_speaks s     the pattern kind accepts those, once the bits that stand for no signal are cleared
use Rattle.std.specs.Prelude.{ℕ, List}
use Rattle.patterns.specs.Accepted.{Accepted}
use Rattle.patterns.proofs.Forming.{formed}
use Rattle.kinds.specs.Language.{Speaks}
use Rattle.kind_shapes.proofs.PatternAccepting.{pattern_acceptance}
use Rattle.pattern_kinds.specs.declared.pattern.Single.{Single}
use Rattle.pattern_kinds.specs.PatternKind.{single_pattern, pattern_kind}

abbrev pub pattern_signals : Single → ℕ
pattern_signals s = (single_pattern s).signals

abbrev pub pattern_language : Single → List ℕ → Type 0
pattern_language s = Accepted (single_pattern s)

pub pattern_speaks : (s : Single) → Speaks (pattern_kind s) (pattern_signals s) (pattern_language s)
pattern_speaks s =
    let accepting = pattern_acceptance (single_pattern s) (formed (single_pattern s) s.pattern.formed) in
    record { plain = accepting.plain; cleared = accepting.cleared }
