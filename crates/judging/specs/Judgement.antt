-- The text of the judgement on a pattern file.
--
-- table_rows       how many rows the table of finds has, and how many configurations the store can hold
-- grant            how many queries are granted: more than any search over so many rows can make
-- ended A          the state of the search for the pattern A when the queries were made
-- state_text A t   the report of the state t of a search for A that has a verdict, and nothing where it has none
-- file_text f A    the refusal of a file with the fault f, or else the report on its pattern A
-- judgement_text   the text of the judgement on the bytes of a file
use Rattle.std.specs.Prelude.{ℕ, List, [], ◌++◌, length, Some, None, codes, Option}
use Rattle.blocks.specs.Layout.{payload}
use Rattle.files.specs.declared.fault.TableFault.{TableFault}
use Rattle.files.specs.Layout.{decoded}
use Rattle.files.specs.Lines.{refused_line_of}
use Rattle.files.specs.Questions.{read_fault}
use Rattle.kind_shapes.specs.Shapes.{pattern_shape}
use Rattle.patterns.specs.Automaton.{Automaton}
use Rattle.reports.specs.Reports.{matches, never, full, report_text}
use Rattle.search.specs.declared.Verdict.{Verdict}
use Rattle.search.specs.declared.Verdict.TheVariants.{Matches, Never, Full}
use Rattle.search.specs.Search.{State, after, sequence, certificate, cleared}

abbrev pub table_rows : ℕ
table_rows = 1024

abbrev pub grant : ℕ
grant = 65535

unfoldable pub ended : Automaton → State ℕ
ended A = after (pattern_shape A) table_rows grant

module _ (A : Automaton) (t : State ℕ) where
  abbrev pub text_at : Option Verdict → List ℕ
  text_at (Some Matches) = report_text t.queries (length t.finds) (matches (sequence (pattern_shape A) t))
  text_at (Some Never) = report_text t.queries (length t.finds) (never (certificate (pattern_shape A) t))
  text_at (Some Full) = report_text t.queries (length t.finds) (full (cleared t))
  text_at None = []

  abbrev pub state_text : List ℕ
  state_text = text_at t.verdict

abbrev pub file_text : Option TableFault → Automaton → List ℕ
file_text (Some f) A = refused_line_of f ++ codes "\n"
file_text None A = state_text A (ended A)

abbrev pub judgement_text : List ℕ → List ℕ
judgement_text file = file_text (read_fault file 64 1024) (decoded (payload file))
