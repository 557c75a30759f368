-- The tables behind parts that were checked.
--
-- tables c   the automaton in the checked parts c
use Rattle.patterns.specs.declared.parts.Checked.{Checked}
use Rattle.patterns.specs.Automaton.{Automaton, read}

abbrev pub tables : Checked → Automaton
tables c = read c.parts
