-- The pattern in the fronts of two tables.
--
-- fronts_of h roots rows   the automaton with the heading h whose tables are the fronts of these, as long as h says
use Rattle.std.specs.Prelude.{ℕ, List, take}
use Rattle.patterns.specs.declared.row.Row.{Row}
use Rattle.patterns.specs.Automaton.{Automaton}
use Rattle.files.specs.declared.heading.Heading.{Heading}

abbrev pub fronts_of : Heading → List ℕ → List Row → Automaton
fronts_of h roots rows = record {
  signals = h.signals;
  start = h.start;
  finals = h.finals;
  roots = take h.states roots;
  rows = take h.rows rows;
}
