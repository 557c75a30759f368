-- The questions asked of a pattern file, in their order, and the first that is answered no.
--
-- max_file              the length of the longest pattern file
-- headed p              the payload has a heading, of edition 1, whose zero bytes are zero
-- record_fault p        what is wrong with the payload p as a record
-- file_fault file       what is wrong with the file up to the tables that it holds
-- read_fault file n N   what is wrong with reading the file into tables of n roots and N rows
-- write_fault A room    what is wrong with writing A to a buffer of that many bytes
use Rattle.std.specs.Prelude.{ℕ, ◌+◌, ◌*◌, Bool, cond, ◌&&◌, List, length, Some, None, Option, ◌==◌, nat_le}
use Rattle.std.specs.Option.{option_map}
use Rattle.blocks.specs.Faults as blocks
use Rattle.blocks.specs.Layout.{payload}
use Rattle.patterns.specs.Automaton.{Automaton}
use Rattle.patterns.specs.Questions.{judged}
use Rattle.files.specs.declared.fault.RecordCause.TheVariants.{Heading, Length, Buffer}
use Rattle.files.specs.declared.fault.RecordFault.{RecordFault}
use Rattle.files.specs.declared.fault.RecordFault.TheVariants as record-fault
use Rattle.files.specs.declared.fault.TableCause.TheVariants.{Pattern, Room}
use Rattle.files.specs.declared.fault.TableFault.{TableFault}
use Rattle.files.specs.declared.fault.TableFault.TheVariants.{Record, Table}
use Rattle.files.specs.Layout.{edition_in, states_in, rows_in, zeros_in, decoded, file_of}

abbrev pub max_file : ℕ
max_file = 6656

-- the first of two faults
abbrev pub first : {F : Type 0} → Option F → Option F → Option F
first None g = g
first (Some f) g = Some f

-- nothing where the question is answered yes, otherwise the fault
abbrev pub unless : {F : Type 0} → Bool → F → Option F
unless b f = cond b None (Some f)

abbrev pub headed : List ℕ → Bool
headed p = nat_le 16 (length p) && (edition_in p == 1 && zeros_in p == 0)

unfoldable pub record_fault : List ℕ → Option RecordFault
record_fault p =
    first (unless (headed p) (record-fault.Record Heading))
    (unless (length p == 16 + 2 * states_in p + 6 * rows_in p) (record-fault.Record Length))

unfoldable pub file_fault : List ℕ → Option RecordFault
file_fault file = first (option_map record-fault.Block (blocks.file_fault file max_file)) (record_fault (payload file))

unfoldable pub read_fault : List ℕ → ℕ → ℕ → Option TableFault
read_fault file n N =
    first (option_map Record (file_fault file))
    (first (option_map (λ f. Table (Pattern f)) (judged (decoded (payload file))))
    (unless (nat_le (states_in (payload file)) n && nat_le (rows_in (payload file)) N) (Table Room)))

unfoldable pub write_fault : Automaton → ℕ → Option TableFault
write_fault A room =
    first (option_map (λ f. Table (Pattern f)) (judged A))
    (unless (nat_le (length (file_of A)) room) (Record (record-fault.Record Buffer)))
