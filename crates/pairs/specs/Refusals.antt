-- The number and the place under which "B without A" is refused, and the line that a program prints for it.
--
-- pair_number f    the number that refuses two patterns for f
-- pair_place f     where f lies: 0, since no question about two patterns has a place
-- files_number f   the number that refuses two files for f
-- files_place f    where f lies: 0 too; where a file's own fault lies, that fault says
-- pair_layer       the layer of all these refusals
-- pair_line_of f   the line of a refusal of two files
use Rattle.std.specs.Prelude.{ℕ, List, codes}
use Rattle.files.specs.Lines.{line_of}
use Rattle.pairs.specs.declared.fault.PairFault.{PairFault}
use Rattle.pairs.specs.declared.fault.PairFault.TheVariants.{States, Rows, Room}
use Rattle.pairs.specs.declared.fault.FilesFault.{FilesFault}
use Rattle.pairs.specs.declared.fault.FilesFault.TheVariants.{Earlier, Later, Pair}

abbrev pub pair_number : PairFault → ℕ
pair_number States = 31
pair_number Rows = 32
pair_number Room = 33

abbrev pub pair_place : PairFault → ℕ
pair_place States = 0
pair_place Rows = 0
pair_place Room = 0

abbrev pub files_number : FilesFault → ℕ
files_number (Earlier f) = 29
files_number (Later f) = 30
files_number (Pair f) = pair_number f

abbrev pub files_place : FilesFault → ℕ
files_place (Earlier f) = 0
files_place (Later f) = 0
files_place (Pair f) = pair_place f

abbrev pub pair_layer : List ℕ
pair_layer = codes "pair"

abbrev pub pair_line_of : FilesFault → List ℕ
pair_line_of f = line_of (files_number f) pair_layer (files_place f)
