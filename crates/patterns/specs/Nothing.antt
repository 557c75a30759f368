-- The automaton that accepts nothing.
--
-- nothing   one state, whose condition is never met
use Rattle.std.specs.Prelude.{[], ◌∷◌}
use Rattle.patterns.specs.Automaton.{Automaton, blank}

abbrev pub nothing : Automaton
nothing = record { signals = 0; start = 0; finals = 0; roots = 0 ∷ []; rows = blank ∷ [] }
