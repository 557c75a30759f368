-- What a call that has put B without A into tables promises.
use Rattle.std.proofs.Common.{◌≡◌, ℕ, ◌+◌, ◌≤◌, Bool, true, false, ◌&&◌, leb, List, length, take, drop, Some, None, Ok, Err, Option, refl, ap, ◌∙◌}
use Rattle.std.proofs.lemmas.List.{take_at}
use Rattle.std.proofs.lemmas.Bool.{leb-true, and_parts}
use Rattle.patterns.specs.declared.row.Row.{Row}
use Rattle.patterns.specs.Automaton.{Automaton}
use Rattle.patterns.specs.Formed.{Formed}
use Rattle.patterns.proofs.Meeting.{meets}
use Rattle.files.specs.declared.heading.Heading.{Heading}
use Rattle.files.specs.Fronts.{fronts_of}
use Rattle.files.specs.Layout.{fronted}
use Rattle.files.specs.Questions.{first, unless}
use Rattle.duals.specs.Complement.{Fits}
use Rattle.duals.specs.Without.{without, row_count_of, state_count_of}
use Rattle.duals.proofs.Pairing.{length_rows, length_roots, pair_formed}
use Rattle.duals.proofs.Separating.{separates}
use Rattle.pairs.specs.declared.fault.PairFault.TheVariants.{States, Rows, Room}
use Rattle.pairs.specs.Paired.{Paired, pair_heading_of}
use Rattle.pairs.specs.Questions.{pair_fault}

first_none : {X : Type 0} (o p : Option X) → first o p ≡ None → (o ≡ None) × (p ≡ None)
first_none None p e = (refl, e)
first_none (Some f) p e = (cc, cc)

unless_none : {X : Type 0} (b : Bool) (f : X) → unless b f ≡ None → b ≡ true
unless_none true f e = refl
unless_none false f e = cc

-- what the questions tell once all are answered yes
pub record Sized (B A : Automaton) (n N : ℕ) : Type 0 where
  pub fits : Fits B A
  pub roots_fit : state_count_of B A + 1 ≤ n
  pub rows_fit : row_count_of B A + 1 ≤ N

pub sized_from : (B A : Automaton) (n N : ℕ) → pair_fault B A n N ≡ None → Sized B A n N
sized_from B A n N e =
    let s = state_count_of B A + 1 in
    let r = row_count_of B A + 1 in
    let a = first_none (unless (leb s 64) States) _ e in
    let b = first_none (unless (leb r 1024) Rows) _ a.1 in
    let m = and_parts (leb s n) (leb r N) (unless_none (leb s n && leb r N) Room b.1) in
    record {
      fits = (leb-true s 64 (unless_none (leb s 64) States a.0), leb-true r 1024 (unless_none (leb r 1024) Rows b.0));
      roots_fit = leb-true s n m.0;
      rows_fit = leb-true r N m.1;
    }

fronts_are : (C : Automaton) (n N : ℕ) (roots : List ℕ) (rows : List Row) → length C.roots ≡ n → length C.rows ≡ N
    → fronts_of (record { states = n; signals = C.signals; start = C.start; rows = N; finals = C.finals })
    (fronted C.roots roots) (fronted C.rows rows) ≡ C
fronts_are C n N roots rows e f =
    ap (λ (xs : List ℕ). record { signals = C.signals; start = C.start; finals = C.finals; roots = xs; rows = take N (fronted C.rows rows) })
    (take_at C.roots (drop (length C.roots) roots) n e)
    ∙ ap (λ (xs : List Row). record { signals = C.signals; start = C.start; finals = C.finals; roots = C.roots; rows = xs })
    (take_at C.rows (drop (length C.rows) rows) N f)

pub paired_ok : {X : Type 0} (B A : Automaton) (fault : Option X) (h : Heading) (roots roots' : List ℕ) (rows rows' : List Row)
    → Formed B → Formed A → fault ≡ None → Fits B A → h ≡ pair_heading_of B A
    → roots' ≡ fronted (without B A).roots roots → rows' ≡ fronted (without B A).rows rows
    → Paired B A fault (Ok h) roots roots' rows rows'
paired_ok B A fault h roots roots' rows rows' G F none fits is e f = record {
  cases = (none, is);
  roots_after = e;
  rows_after = f;
  tables =
      ap (λ (g : Heading). fronts_of g roots' rows') is
      ∙ ap (λ (t : List ℕ). fronts_of (pair_heading_of B A) t rows') e
      ∙ ap (fronts_of (pair_heading_of B A) (fronted (without B A).roots roots)) f
      ∙ fronts_are (without B A) (state_count_of B A + 1) (row_count_of B A + 1) roots rows (length_roots B A) (length_rows B A);
  pattern = meets (without B A) (pair_formed B A G F fits);
  separated = separates B A G F fits;
}

pub paired_err : {X : Type 0} (B A : Automaton) (fault : Option X) (x : X) (roots roots' : List ℕ) (rows rows' : List Row)
    → fault ≡ Some x → roots' ≡ roots → rows' ≡ rows → Paired B A fault (Err x) roots roots' rows rows'
paired_err B A fault x roots roots' rows rows' some e f = record {
  cases = some;
  roots_after = e;
  rows_after = f;
  tables = tt;
  pattern = tt;
  separated = tt;
}
