-- A pattern by itself as a kind.
--
-- single_pattern s      the automaton of the pattern in s
-- pattern_kind s        the shape of the pattern in s
-- pattern_kind_laws s   the laws of kinds hold of it
use Rattle.std.specs.Prelude.{ℕ}
use Rattle.patterns.specs.Automaton.{Automaton}
use Rattle.patterns.specs.View.{automaton}
use Rattle.patterns.proofs.Forming.{formed}
use Rattle.kinds.specs.Laws.{Laws}
use Rattle.kinds.specs.Shape.{Shape}
use Rattle.kind_shapes.specs.Shapes.{pattern_shape}
use Rattle.kind_shapes.proofs.PatternLaws.{pattern_laws}
use Rattle.pattern_kinds.specs.declared.pattern.Single.{Single}

abbrev pub single_pattern : Single → Automaton
single_pattern s = automaton s.pattern

abbrev pub pattern_kind : Single → Shape ℕ
pattern_kind s = pattern_shape (single_pattern s)

pub pattern_kind_laws : (s : Single) → Laws (pattern_kind s)
pattern_kind_laws s = pattern_laws (single_pattern s) (formed (single_pattern s) s.pattern.formed)
