-- From two patterns in tables to two patterns in files.
use Rattle.std.proofs.Common.{◌≡◌, ℕ, true, cond, List, is_ok, is_some, Some, None, Ok, Err, Option, Result, MatchResult, sym, ap, ◌∙◌, subst}
use Rattle.std.specs.Option.{option_map}
use Rattle.blocks.specs.Layout.{payload}
use Rattle.patterns.specs.declared.row.Row.{Row}
use Rattle.patterns.specs.Automaton.{Automaton}
use Rattle.patterns.specs.Formed.{Formed}
use Rattle.patterns.proofs.Forming.{formed}
use Rattle.files.specs.declared.fault.TableFault.{TableFault}
use Rattle.files.specs.declared.heading.Heading.{Heading}
use Rattle.files.specs.Fronts.{fronts_of}
use Rattle.files.specs.Heading.{heading_of}
use Rattle.files.specs.Layout.{decoded, fronted}
use Rattle.files.specs.Questions.{first, read_fault}
use Rattle.files.proofs.Ordering.{sound}
use Rattle.files.proofs.Portions.{fronts_decoded}
use Rattle.pairs.specs.declared.fault.FilesFault.{FilesFault}
use Rattle.pairs.specs.declared.fault.FilesFault.TheVariants.{Earlier, Later, Pair}
use Rattle.pairs.specs.declared.fault.PairFault.{PairFault}
use Rattle.pairs.specs.Paired.{Paired}
use Rattle.pairs.specs.Questions.{pair_fault, files_fault}

-- what a file was read into, where its fault was put under another name: the file is not at fault, and the pattern in the
-- tables is the file's
pub reread : (D : Type 0) (A : Automaton) (r : Result Heading TableFault) (h : Heading) (file old new : List ℕ) (old-rows new-rows : List Row)
    (Q : TableFault → Type 0)
    → A ≡ fronts_of h new new-rows
    → MatchResult r (λ x. (read_fault file 64 1024 ≡ None) × (x ≡ heading_of (payload file))) (λ f. read_fault file 64 1024 ≡ Some f)
    → new ≡ cond (is_ok r) (fronted (decoded (payload file)).roots old) old
    → new-rows ≡ cond (is_ok r) (fronted (decoded (payload file)).rows old-rows) old-rows
    → MatchResult r (λ x. ◌≡◌ {A = Result Heading D} (Ok h) (Ok x)) Q
    → true ≡ is_ok r
    → (read_fault file 64 1024 ≡ None) × (A ≡ decoded (payload file))
reread D A (Ok x) h file old new old-rows new-rows Q is c e f m t =
    let p = payload file in
    let q : h ≡ x = cc in (
      c.0,
      is ∙ ap (λ (u : List ℕ). fronts_of h u new-rows) e ∙ ap (fronts_of h (fronted (decoded p).roots old)) f
          ∙ fronts_decoded p old old-rows h (q ∙ c.1),
    )
reread D A (Err g) h file old new old-rows new-rows Q is c e f m t = absurd (cc)

-- a file that was read holds a pattern
pub read_formed : (A : Automaton) (file : List ℕ) → read_fault file 64 1024 ≡ None → A ≡ decoded (payload file) → Formed A
read_formed A file none e =
    let P : Automaton → Type 0 = λ B. Formed B in
    subst P (sym e) (formed (decoded (payload file)) (ap is_some (sound file 64 1024 none).is_pattern))

module _ (a b : List ℕ) (n N : ℕ) (ea : read_fault a 64 1024 ≡ None) (eb : read_fault b 64 1024 ≡ None)
    (B A : Automaton) (is_b : B ≡ decoded (payload b)) (is_a : A ≡ decoded (payload a)) where
  -- once both files were read, the questions on the two patterns are left
  files_as : files_fault a b n N ≡ option_map Pair (pair_fault B A n N)
  files_as =
      let rest : Option FilesFault = option_map Pair (pair_fault (decoded (payload b)) (decoded (payload a)) n N) in
      ap (λ (o : Option TableFault). first (option_map Earlier o) (first (option_map Later (read_fault b 64 1024)) rest)) ea
      ∙ ap (λ (o : Option TableFault). first (option_map Later o) rest) eb
      ∙ sym (ap (λ (C : Automaton). option_map Pair (pair_fault C A n N)) is_b
      ∙ ap (λ (C : Automaton). option_map Pair (pair_fault (decoded (payload b)) C n N)) is_a)

  module _ (roots roots' : List ℕ) (rows rows' : List Row) where
    pub files_ok : (h : Heading) → Paired B A (pair_fault B A n N) (Ok h) roots roots' rows rows'
        → Paired (decoded (payload b)) (decoded (payload a)) (files_fault a b n N) (Ok h) roots roots' rows rows'
    files_ok h p =
        let P : Automaton → Type 0 = λ C. Paired C A (files_fault a b n N) (Ok h) roots roots' rows rows' in
        let Q : Automaton → Type 0 = λ C. Paired (decoded (payload b)) C (files_fault a b n N) (Ok h) roots roots' rows rows' in
        subst Q is_a (subst P is_b (record {
          cases = (files_as ∙ ap (option_map Pair) p.cases.0, p.cases.1);
          roots_after = p.roots_after;
          rows_after = p.rows_after;
          tables = p.tables;
          pattern = p.pattern;
          separated = p.separated;
        }))

    pub files_err : (x : PairFault) → Paired B A (pair_fault B A n N) (Err x) roots roots' rows rows'
        → Paired (decoded (payload b)) (decoded (payload a)) (files_fault a b n N) (Err (Pair x)) roots roots' rows rows'
    files_err x p = record {
      cases = files_as ∙ ap (option_map Pair) p.cases;
      roots_after = p.roots_after;
      rows_after = p.rows_after;
      tables = tt;
      pattern = tt;
      separated = tt;
    }
