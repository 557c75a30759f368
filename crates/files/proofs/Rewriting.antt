-- A file with no fault is the only one with its automaton.
use Rattle.std.proofs.Common.{◌≡◌, ℕ, zero, suc, ◌+◌, ◌*◌, ◌/◌, ◌<◌, true, false, eqb, List, length, take, drop, is_some, Some, None, Option, refl, ap, ◌∙◌}
use Rattle.std.proofs.ByRecursion.{All-append, All-take, All-drop}
use Rattle.std.proofs.lemmas.Bool.{eqb-true}
use Rattle.std.specs.Option.{option_map}
use Rattle.blocks.specs.declared.fault.BlockFault.{BlockFault}
use Rattle.blocks.specs.Bytes.{Bytes}
use Rattle.blocks.specs.Faults as blocks
use Rattle.blocks.specs.Layout.{used_in, room_in, front_of, fronts, payload, blocks_of}
use Rattle.blocks.proofs.Files.{rewritten}
use Rattle.files.specs.declared.fault.RecordCause.TheVariants.{Heading, Length}
use Rattle.files.specs.declared.fault.RecordFault.TheVariants as record-fault
use Rattle.files.specs.Layout.{states_in, rows_in}
use Rattle.files.specs.Questions.{max_file, unless, headed, record_fault, file_fault}
use Rattle.files.specs.RoundTrips.{WritesBack}
use Rattle.files.proofs.Ordering.{first_none, unless_none}
use Rattle.files.proofs.RoundTrip.{encoded_decoded}

bytes_fronts : (n : ℕ) (file : List ℕ) → Bytes file → Bytes (fronts n file)
bytes_fronts zero file known = tt
bytes_fronts (suc n) file known =
    let block = take 512 file in
    let here = All-take (λ b. b < 256) 512 file known in
    let front = All-take (λ b. b < 256) (used_in block) (room_in block) (All-take (λ b. b < 256) 504 (drop 4 block) (All-drop (λ b. b < 256) 4 block here)) in
    All-append (λ b. b < 256) (front_of block) (fronts n (drop 512 file)) front (bytes_fronts n (drop 512 file) (All-drop (λ b. b < 256) 512 file known))

pub bytes_payload : (file : List ℕ) → Bytes file → Bytes (payload file)
unfolding payload
bytes_payload file known = bytes_fronts (length file / 512) file known

none_below : (o : Option BlockFault) → option_map record-fault.Block o ≡ None → is_some o ≡ false
none_below None e = refl
none_below (Some f) e = cc

-- what the questions about the record tell
pub record_right : (p : List ℕ) → record_fault p ≡ None → (headed p ≡ true) × (length p ≡ 16 + 2 * states_in p + 6 * rows_in p)
unfolding record_fault
record_right p e =
    let long = 16 + 2 * states_in p + 6 * rows_in p in
    let q = first_none (unless (headed p) (record-fault.Record Heading)) (unless (eqb (length p) long) (record-fault.Record Length)) e in
    (unless_none (headed p) (record-fault.Record Heading) q.0, eqb-true (length p) long (unless_none (eqb (length p) long) (record-fault.Record Length) q.1))

pub writes_back : (file : List ℕ) → Bytes file → file_fault file ≡ None → WritesBack file
unfolding file_fault
writes_back file known e =
    let p = payload file in
    let q = first_none (option_map record-fault.Block (blocks.file_fault file max_file)) (record_fault p) e in
    let r = record_right p q.1 in
    ap blocks_of (encoded_decoded p (bytes_payload file known) r.0 r.1)
    ∙ rewritten file max_file known (none_below (blocks.file_fault file max_file) q.0)
