-- What a pattern is: the automaton in its tables.
--
-- automaton p   the automaton that the pattern p is
use Rattle.patterns.specs.declared.pattern.Pattern.{Pattern}
use Rattle.patterns.specs.Automaton.{Automaton, read}

abbrev pub automaton : Pattern → Automaton
automaton p = read p.parts
