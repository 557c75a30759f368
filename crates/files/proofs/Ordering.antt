-- The questions on a file in their order, and what no fault among them tells.
use Rattle.std.proofs.Common.{◌≡◌, ℕ, ◌+◌, ◌*◌, ◌<◌, ◌≤◌, Bool, true, false, ◌&&◌, eqb, leb, List, length, drop, is_some, Some, None, Option, sym, refl, ap, ◌∙◌, arith}
use Rattle.std.proofs.lemmas.Bool.{and_parts, leb-true}
use Rattle.std.specs.Option.{option_map}
use Rattle.blocks.specs.declared.fault.BlockFault.{BlockFault}
use Rattle.blocks.specs.Faults as blocks
use Rattle.blocks.specs.Layout.{payload}
use Rattle.patterns.specs.declared.fault.Fault.{Fault}
use Rattle.patterns.specs.declared.row.Row.{Row}
use Rattle.patterns.specs.Automaton.{Automaton, row, blank}
use Rattle.patterns.specs.Formed.{Proper, constant_0, constant_1, state, signal, conjunction, disjunction, negation}
use Rattle.patterns.specs.Questions.{judged, known}
use Rattle.patterns.proofs.Forming.{formed}
use Rattle.files.specs.declared.fault.RecordCause.TheVariants.{Heading, Length}
use Rattle.files.specs.declared.fault.RecordFault.{RecordFault}
use Rattle.files.specs.declared.fault.RecordFault.TheVariants as record-fault
use Rattle.files.specs.declared.fault.TableCause.TheVariants.{Pattern, Room}
use Rattle.files.specs.declared.fault.TableFault.{TableFault}
use Rattle.files.specs.declared.fault.TableFault.TheVariants.{Record, Table}
use Rattle.files.specs.Layout.{states_in, rows_in, row_of, decoded}
use Rattle.files.specs.Questions.{max_file, first, unless, headed, record_fault, file_fault, read_fault}
use Rattle.files.proofs.Portions.{get_d_each}
use Rattle.files.proofs.Fields.{length_each}

-- whether the payload is as long as its heading says
abbrev pub measured : List ℕ → Bool
measured p = eqb (length p) (16 + 2 * states_in p + 6 * rows_in p)

module _ (file : List ℕ) where
  blocks_then : Option BlockFault → Bool → Bool → Option RecordFault
  blocks_then b h l =
      first (option_map record-fault.Block b) (first (unless h (record-fault.Record Heading)) (unless l (record-fault.Record Length)))

  pub file_as : (b : Option BlockFault) (h l : Bool) → blocks.file_fault file max_file ≡ b → headed (payload file) ≡ h
      → measured (payload file) ≡ l
      → file_fault file ≡ first (option_map record-fault.Block b) (first (unless h (record-fault.Record Heading)) (unless l (record-fault.Record Length)))
  unfolding file_fault record_fault blocks_then
  file_as b h l e f g =
      ap (λ (x : Option BlockFault). blocks_then x (headed (payload file)) (measured (payload file))) e
      ∙ ap (λ (x : Bool). blocks_then b x (measured (payload file))) f
      ∙ ap (blocks_then b h) g

  holds_it : ℕ → ℕ → Bool
  holds_it n N = leb (states_in (payload file)) n && leb (rows_in (payload file)) N

  record_then : Option RecordFault → Option Fault → Bool → Option TableFault
  record_then o j b = first (option_map Record o) (first (option_map (λ f. Table (Pattern f)) j) (unless b (Table Room)))

  pub read_as : (n N : ℕ) (o : Option RecordFault) (j : Option Fault) (b : Bool) → file_fault file ≡ o
      → judged (decoded (payload file)) ≡ j → (leb (states_in (payload file)) n && leb (rows_in (payload file)) N) ≡ b
      → read_fault file n N ≡ first (option_map Record o) (first (option_map (λ f. Table (Pattern f)) j) (unless b (Table Room)))
  unfolding read_fault holds_it record_then
  read_as n N o j b e f g =
      ap (λ (x : Option RecordFault). record_then x (judged (decoded (payload file))) (holds_it n N)) e
      ∙ ap (λ (x : Option Fault). record_then o x (holds_it n N)) f
      ∙ ap (record_then o j) g

-- what a file with no fault tells
pub first_none : {F : Type 0} (o p : Option F) → first o p ≡ None → (o ≡ None) × (p ≡ None)
first_none None p e = (refl, e)
first_none (Some f) p e = (cc, cc)

pub unless_none : {F : Type 0} (b : Bool) (f : F) → unless b f ≡ None → b ≡ true
unless_none true f e = refl
unless_none false f e = cc

mapped_none : {X Y : Type 0} (g : X → Y) (o : Option X) → option_map g o ≡ None → o ≡ None
mapped_none g None e = refl
mapped_none g (Some x) e = cc

pub record Sound (file : List ℕ) (n N : ℕ) : Type 0 where
  pub no_fault : file_fault file ≡ None
  pub right : blocks.file_fault file max_file ≡ None
  pub headed_right : headed (payload file) ≡ true
  pub measured_right : measured (payload file) ≡ true
  pub is_pattern : judged (decoded (payload file)) ≡ None
  pub roots_fit : states_in (payload file) ≤ n
  pub rows_fit : rows_in (payload file) ≤ N

pub sound : (file : List ℕ) (n N : ℕ) → read_fault file n N ≡ None → Sound file n N
unfolding read_fault file_fault record_fault
sound file n N e =
    let p = payload file in
    let a = first_none (option_map Record (file_fault file)) _ e in
    let b = first_none (option_map (λ (f : Fault). Table (Pattern f)) (judged (decoded p))) _ a.1 in
    let c = first_none (option_map record-fault.Block (blocks.file_fault file max_file)) (record_fault p) (mapped_none Record (file_fault file) a.0) in
    let d = first_none (unless (headed p) (record-fault.Record Heading)) _ c.1 in
    let f = and_parts (leb (states_in p) n) (leb (rows_in p) N) (unless_none _ (Table Room) b.1) in
    record {
      no_fault = mapped_none Record (file_fault file) a.0;
      right = mapped_none record-fault.Block (blocks.file_fault file max_file) c.0;
      headed_right = unless_none (headed p) (record-fault.Record Heading) d.0;
      measured_right = unless_none (measured p) (record-fault.Record Length) d.1;
      is_pattern = mapped_none (λ (f : Fault). Table (Pattern f)) (judged (decoded p)) b.0;
      roots_fit = leb-true (states_in p) n f.0;
      rows_fit = leb-true (rows_in p) N f.1;
    }

proper_known : (A : Automaton) (i : ℕ) (r : Row) → Proper A i r → known r ≡ true
proper_known A i r constant_0 = refl
proper_known A i r constant_1 = refl
proper_known A i r (state l) = refl
proper_known A i r (signal l) = refl
proper_known A i r (conjunction l m) = refl
proper_known A i r (disjunction l m) = refl
proper_known A i r (negation l f) = refl

-- the rows of a pattern in a payload have operations that a pattern has
pub rows_known : (p : List ℕ) → judged (decoded p) ≡ None → (i : ℕ) → i < rows_in p
    → known (row_of (drop (6 * i) (drop (16 + 2 * states_in p) p))) ≡ true
unfolding decoded
rows_known p e i h =
    let A = decoded p in
    let q = drop (16 + 2 * states_in p) p in
    let F = formed A (ap is_some e) in
    let l = length_each 6 row_of (rows_in p) q in
    ap known (sym (get_d_each 6 row_of (rows_in p) i q blank h))
    ∙ proper_known A i (row A i) (F.proper i (omega arith))
