-- Writing and reading pattern files undo each other.
--
-- ReadsBack file A   the file has no fault and holds the automaton A, and tables that are long enough take it
-- WritesBack file    the file is the only one with its automaton: writing that gives the same bytes
use Rattle.std.specs.Prelude.{◌≡◌, ℕ, ◌≤◌, List, length, None}
use Rattle.blocks.specs.Faults as blocks
use Rattle.blocks.specs.Layout.{payload}
use Rattle.patterns.specs.Automaton.{Automaton, states}
use Rattle.files.specs.Layout.{decoded, file_of}
use Rattle.files.specs.Questions.{max_file, file_fault, read_fault}

abbrev pub ReadsBack : List ℕ → Automaton → Type 0
ReadsBack file A = (blocks.file_fault file max_file ≡ None) × (file_fault file ≡ None) × (decoded (payload file) ≡ A)
    × ((n N : ℕ) → states A ≤ n → length A.rows ≤ N → read_fault file n N ≡ None)

abbrev pub WritesBack : List ℕ → Type 0
WritesBack file = file_of (decoded (payload file)) ≡ file
