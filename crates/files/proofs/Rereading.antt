-- The file of a pattern has no fault, and its automaton is the pattern.
use Rattle.std.proofs.Common.{◌≡◌, ℕ, ◌+◌, ◌*◌, ◌≤◌, Bool, true, ◌&&◌, eqb, leb, List, length, None, Option, refl, ap, ◌∙◌, arith}
use Rattle.std.proofs.lemmas.Bool.{and_from, eq-eqb, le-leb}
use Rattle.std.specs.Option.{option_map}
use Rattle.blocks.specs.declared.fault.BlockFault.{BlockFault}
use Rattle.blocks.specs.Faults as blocks
use Rattle.blocks.specs.Laws.{Readable}
use Rattle.blocks.specs.Layout.{payload}
use Rattle.patterns.specs.declared.fault.Fault.{Fault}
use Rattle.patterns.specs.Automaton.{Automaton, states}
use Rattle.patterns.specs.Formed.{Formed}
use Rattle.patterns.specs.Questions.{judged}
use Rattle.patterns.proofs.Forming.{none_from}
use Rattle.patterns.proofs.Meeting.{meets}
use Rattle.files.specs.declared.fault.RecordCause.TheVariants.{Heading, Length}
use Rattle.files.specs.declared.fault.RecordFault.{RecordFault}
use Rattle.files.specs.declared.fault.RecordFault.TheVariants as record-fault
use Rattle.files.specs.declared.fault.TableCause.TheVariants.{Pattern, Room}
use Rattle.files.specs.declared.fault.TableFault.TheVariants.{Record, Table}
use Rattle.files.specs.Layout.{states_in, rows_in, decoded, encoded}
use Rattle.files.specs.Questions.{max_file, first, unless, headed, record_fault, file_fault, read_fault}
use Rattle.files.specs.RoundTrips.{ReadsBack}
use Rattle.files.proofs.RoundTrip.{length_encoded, states_encoded, rows_encoded, decoded_encoded}

module _ (A : Automaton) (F : Formed A) where
  headed_encoded : headed (encoded A) ≡ true
  unfolding encoded
  headed_encoded = and_from (leb 16 (length (encoded A))) _ (let l = length_encoded A in le-leb 16 (length (encoded A)) (omega arith)) refl

  record_encoded : record_fault (encoded A) ≡ None
  unfolding record_fault
  record_encoded =
      let p = encoded A in
      let n = states_encoded A F in
      let N = rows_encoded A F in
      let l = length_encoded A in
      let e = eq-eqb (length p) (16 + 2 * states_in p + 6 * rows_in p) (omega arith) in
      ap (λ (b : Bool). first (unless b (record-fault.Record Heading)) (unless (eqb (length p) (16 + 2 * states_in p + 6 * rows_in p)) (record-fault.Record Length))) headed_encoded
      ∙ ap (λ (b : Bool). unless b (record-fault.Record Length)) e

  -- a file whose payload is the pattern's
  module _ (file : List ℕ) (has : Readable file (encoded A)) (short : length file ≤ max_file) where
    blocks_right : blocks.file_fault file max_file ≡ None
    blocks_right = none_from (blocks.file_fault file max_file) (has.0 max_file short)

    no_fault : file_fault file ≡ None
    unfolding file_fault
    no_fault =
        ap (λ (o : Option BlockFault). first (option_map record-fault.Block o) (record_fault (payload file))) blocks_right
        ∙ ap record_fault has.1 ∙ record_encoded

    same_pattern : decoded (payload file) ≡ A
    same_pattern = ap decoded has.1 ∙ decoded_encoded A F

    read_again : (n N : ℕ) → states A ≤ n → length A.rows ≤ N → read_fault file n N ≡ None
    unfolding read_fault
    read_again n N h k =
        let p = payload file in
        let rest : Option Fault → Option _ = λ o. first (option_map (λ f. Table (Pattern f)) o) (unless (leb (states_in p) n && leb (rows_in p) N) (Table Room)) in
        let s = ap states_in has.1 ∙ states_encoded A F in
        let t = ap rows_in has.1 ∙ rows_encoded A F in
        let b = and_from (leb (states_in p) n) (leb (rows_in p) N) (le-leb (states_in p) n (omega arith)) (le-leb (rows_in p) N (omega arith)) in
        ap (λ (o : Option RecordFault). first (option_map Record o) (rest (judged (decoded p)))) no_fault
        ∙ ap rest (ap judged same_pattern ∙ meets A F)
        ∙ ap (λ (c : Bool). unless c (Table Room)) b

    pub reads_back : ReadsBack file A
    reads_back = (blocks_right, no_fault, same_pattern, read_again)
