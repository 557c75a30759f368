-- The line that a program prints for a refusal.
--
-- layer_name_of l     the name of a layer, in bytes
-- line_of n l p       "refused", the number n, the layer l and the place p, with a space between them
-- refused_line_of f   that line of the fault f
use Rattle.std.specs.Prelude.{ℕ, List, ◌++◌, codes, decimal}
use Rattle.files.specs.declared.fault.Layer.{Layer}
use Rattle.files.specs.declared.fault.Layer.TheVariants.{Block, Record, Table}
use Rattle.files.specs.declared.fault.TableFault.{TableFault}
use Rattle.files.specs.Refusals.{refusal}

abbrev pub layer_name_of : Layer → List ℕ
layer_name_of Block = codes "block"
layer_name_of Record = codes "record"
layer_name_of Table = codes "table"

abbrev pub line_of : ℕ → List ℕ → ℕ → List ℕ
line_of number layer place = codes "refused " ++ (decimal number ++ (codes " " ++ (layer ++ (codes " " ++ decimal place))))

abbrev pub refused_line_of : TableFault → List ℕ
refused_line_of f = line_of (refusal f).number (layer_name_of (refusal f).layer) (refusal f).place
