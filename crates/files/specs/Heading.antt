-- What the heading of a payload says.
--
-- heading_in p    the heading of the payload p, if it has one of this edition
-- length_of h     how long the payload is that the heading h is of
-- tables_of h p   the automaton with the heading h whose tables stand in the payload p
use Rattle.std.specs.Prelude.{ℕ, ◌+◌, ◌*◌, cond, List, Some, None, Option}
use Rattle.patterns.specs.Automaton.{Automaton}
use Rattle.files.specs.declared.heading.Heading.{Heading}
use Rattle.files.specs.Layout.{field, states_in, rows_in, roots_in, table_in}
use Rattle.files.specs.Questions.{headed}

abbrev pub heading_of : List ℕ → Heading
heading_of p = record {
  states = states_in p;
  signals = field p 2 1;
  start = field p 3 1;
  rows = rows_in p;
  finals = field p 6 8;
}

abbrev pub heading_in : List ℕ → Option Heading
heading_in p = cond (headed p) (Some (heading_of p)) None

abbrev pub length_of : Heading → ℕ
length_of h = 16 + 2 * h.states + 6 * h.rows

abbrev pub tables_of : Heading → List ℕ → Automaton
tables_of h p = record {
  signals = h.signals;
  start = h.start;
  finals = h.finals;
  roots = roots_in h.states p;
  rows = table_in h.states h.rows p;
}
