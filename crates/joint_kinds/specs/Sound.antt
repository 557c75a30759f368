-- Tables that meet every question, whatever was given.
--
-- silent            the machine that sends nothing: it has no end state
-- sound_pattern A   the automaton if it meets every question, otherwise the one that accepts nothing
-- sound_model m M   the machine if it meets every question for m signals, otherwise the one that sends nothing
use Rattle.std.specs.Prelude.{ℕ, cond, [], is_some}
use Rattle.patterns.specs.Automaton.{Automaton}
use Rattle.patterns.specs.Nothing.{nothing}
use Rattle.patterns.specs.Questions as patterns
use Rattle.models.specs.Machine.{Machine}
use Rattle.models.specs.Questions as models

abbrev pub silent : Machine
silent = record { states = 1; start = 0; ends = 0; arrows = [] }

abbrev pub sound_pattern : Automaton → Automaton
sound_pattern A = cond (is_some (patterns.judged A)) nothing A

abbrev pub sound_model : ℕ → Machine → Machine
sound_model m M = cond (is_some (models.judged m M)) silent M
