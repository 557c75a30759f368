-- What reading a file answers as one number.
--
-- refusal_number o   0 where there is no fault, otherwise the number that refuses it
use Rattle.std.specs.Prelude.{ℕ, Some, None, Option}
use Rattle.files.specs.declared.fault.TableFault.{TableFault}
use Rattle.files.specs.Refusals.{refusal}

abbrev pub refusal_number : Option TableFault → ℕ
refusal_number None = 0
refusal_number (Some f) = (refusal f).number
