-- Whether a pattern's file can be written: the answers of the questions, of the block layer and of the call agree.
use Rattle.std.proofs.Common.{◌≡◌, ℕ, ◌*◌, ◌≤◌, Bool, true, false, cond, ltb, leb, List, ◌++◌, length, take, drop, Some, None, Ok, Err, Option, Result, sym, refl, ap, ◌∙◌, subst, arith, MatchResult}
use Rattle.std.proofs.lemmas.List.{take_at}
use Rattle.std.proofs.lemmas.Bool.Decides.{nat_tests}
use Rattle.std.specs.Option.{option_map}
use Rattle.blocks.specs.declared.writer.WriteRefusal.{WriteRefusal}
use Rattle.blocks.specs.declared.writer.WriteRefusal.TheVariants as refusal
use Rattle.blocks.specs.Laws.{Readable}
use Rattle.blocks.specs.Layout.{block_count, blocks_of}
use Rattle.blocks.specs.Writing.{file_len_of, fitted, writes}
use Rattle.blocks.proofs.Files.{length_blocks_of}
use Rattle.patterns.specs.declared.fault.Fault.{Fault}
use Rattle.patterns.specs.declared.parts.Parts.{Parts}
use Rattle.patterns.specs.declared.pattern.Pattern as pattern
use Rattle.patterns.specs.Automaton.{Automaton, read}
use Rattle.patterns.specs.Formed.{Formed}
use Rattle.patterns.specs.Questions.{judged}
use Rattle.patterns.specs.View.{automaton}
use Rattle.patterns.proofs.Made.{is_formed}
use Rattle.files.specs.declared.fault.RecordCause.TheVariants.{Buffer}
use Rattle.files.specs.declared.fault.RecordFault.TheVariants as record-fault
use Rattle.files.specs.declared.fault.TableCause.TheVariants.{Pattern}
use Rattle.files.specs.declared.fault.TableFault.{TableFault}
use Rattle.files.specs.declared.fault.TableFault.TheVariants.{Record, Table}
use Rattle.files.specs.Layout.{encoded, file_of}
use Rattle.files.specs.Questions.{max_file, first, unless, write_fault}
use Rattle.files.specs.RoundTrips.{ReadsBack}
use Rattle.files.proofs.Rereading.{reads_back}
use Rattle.files.proofs.RoundTrip.{length_encoded}

-- what a pattern lends is a pattern
pub lent_formed : (p : pattern.Pattern) (parts : Parts) → read parts ≡ automaton p → Formed (read parts)
lent_formed p parts e = subst Formed (sym e) (is_formed p)

module _ (A : Automaton) (F : Formed A) where
  pub length_range : (16 ≤ length (encoded A)) × (length (encoded A) ≤ 6288)
  length_range =
      let l = length_encoded A in
      let n = F.few_states in
      let N = F.few_rows in
      (omega arith, omega arith)

  pub file_short : length (file_of A) ≤ max_file
  file_short =
      let l = length_blocks_of (encoded A) in
      let r = length_range in
      omega arith

  has_length : (n : ℕ) → 16 ≤ n → n ≤ 6288 → file_len_of n ≡ Some (512 * block_count n)
  has_length n h k = grind (arith, nat_tests)

  -- the block layer refuses only a buffer that is too short
  writes_encoded : (room : ℕ) → writes (length (encoded A)) room ≡ cond (ltb room (length (file_of A))) (Err refusal.Buffer) (Ok (length (file_of A)))
  writes_encoded room =
      let r = length_range in
      ap (λ (o : Option ℕ). fitted o room) (has_length (length (encoded A)) r.0 r.1)
      ∙ ap (λ (n : ℕ). fitted (Some n) room) (sym (length_blocks_of (encoded A)))

answered_ok : (n long room : ℕ) → Ok n ≡ cond (ltb room long) (Err refusal.Buffer) (Ok long) → (n ≡ long) × (leb long room ≡ true)
answered_ok n long room e = (grind (arith, nat_tests), grind (arith, nat_tests))

answered_err : (f : WriteRefusal) (long room : ℕ) → Err f ≡ cond (ltb room long) (Err refusal.Buffer) (Ok long) → leb long room ≡ false
answered_err f long room e = grind (arith, nat_tests)

abbrev too_short : TableFault
too_short = Record (record-fault.Record Buffer)

pub pattern_refused : (A : Automaton) (room : ℕ) (f : Fault) → judged A ≡ Some f → write_fault A room ≡ Some (Table (Pattern f))
unfolding write_fault
pattern_refused A room f e =
    ap (λ (o : Option Fault). first (option_map (λ g. Table (Pattern g)) o) (unless (leb (length (file_of A)) room) too_short)) e

by_room : (b : Bool) (n : ℕ) (o : Option TableFault) → o ≡ unless b too_short
    → MatchResult (cond b (Ok n) (Err too_short)) (λ k. (o ≡ None) × (k ≡ n)) (λ f. o ≡ Some f)
by_room true n o e = (e, refl)
by_room false n o e = e

-- of a pattern only the buffer is asked
pub room_asked : (A : Automaton) (room : ℕ) (r : Result ℕ TableFault) → judged A ≡ None
    → r ≡ cond (leb (length (file_of A)) room) (Ok (length (file_of A))) (Err too_short)
    → MatchResult r (λ n. (write_fault A room ≡ None) × (n ≡ length (file_of A))) (λ f. write_fault A room ≡ Some f)
unfolding write_fault
room_asked A room r e v =
    let long = length (file_of A) in
    let o : write_fault A room ≡ unless (leb long room) too_short =
    ap (λ (p : Option Fault). first (option_map (λ g. Table (Pattern g)) p) (unless (leb long room) too_short)) e in
    subst (λ (s : Result ℕ TableFault). MatchResult s (λ n. (write_fault A room ≡ None) × (n ≡ long)) (λ f. write_fault A room ≡ Some f)) (sym v)
    (by_room (leb long room) long (write_fault A room) o)

-- the block layer's answer for a pattern's payload, as the call gives it on
module _ (A : Automaton) (F : Formed A) (part old new : List ℕ) (is : part ≡ encoded A) where
  as_told : (r : Result ℕ WriteRefusal) → r ≡ writes (length part) (length old)
      → r ≡ cond (ltb (length old) (length (file_of A))) (Err refusal.Buffer) (Ok (length (file_of A)))
  as_told r e = e ∙ ap (λ (xs : List ℕ). writes (length xs) (length old)) is ∙ writes_encoded A F (length old)

  pub refused_value : (f : WriteRefusal) → Err f ≡ writes (length part) (length old)
      → Err too_short ≡ cond (leb (length (file_of A)) (length old)) (Ok (length (file_of A))) (Err too_short)
  refused_value f e =
      ap (λ (b : Bool). cond b (Ok (length (file_of A))) (Err too_short)) (sym (answered_err f (length (file_of A)) (length old) (as_told (Err f) e)))

  module _ (n : ℕ) (e : Ok n ≡ writes (length part) (length old)) where
    holds : (n ≡ length (file_of A)) × (leb (length (file_of A)) (length old) ≡ true)
    holds = answered_ok n (length (file_of A)) (length old) (as_told (Ok n) e)

    pub written_value : Ok n ≡ cond (leb (length (file_of A)) (length old)) (Ok (length (file_of A))) (Err too_short)
    written_value =
        ap (λ (k : ℕ). Ok k) holds.0
        ∙ ap (λ (b : Bool). cond b (Ok (length (file_of A))) (Err too_short)) (sym holds.1)

    module _ (laid : new ≡ blocks_of part ++ drop (length (blocks_of part)) old) where
      pub written_after : new ≡ file_of A ++ drop (length (file_of A)) old
      written_after = laid ∙ ap (λ (xs : List ℕ). blocks_of xs ++ drop (length (blocks_of xs)) old) is

      pub written_again : Readable (take n new) part → ReadsBack (take n new) A
      written_again has =
          let front : take n new ≡ file_of A =
          ap (take n) written_after ∙ take_at (file_of A) (drop (length (file_of A)) old) n (sym holds.0) in
          let l = ap length front in
          let s = file_short A F in
          reads_back A F (take n new) (subst (Readable (take n new)) is has) (omega arith)
