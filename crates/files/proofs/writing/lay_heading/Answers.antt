use Rattle.std.proofs.Common.{rules, ◌≡◌, ℕ, ◌/◌, ◌%◌, List, [], ◌∷◌, ◌++◌, length, drop, refl, ap, ◌∙◌, arith, length-append}
use borrow.Rule.Slice.PartMut.{put_mid}
use native.Mathlib.Nat.{div-div-eq-div-mul}
use Rattle.blocks.specs.Bytes.{bytes_of}
use Rattle.patterns.specs.Automaton.{Automaton}
use Rattle.files.specs.Laying.{laid}
use Rattle.files.specs.Layout.{heading_bytes}
use Rattle.files.proofs.Laying.{put_laid, laid_behind}
use Rattle.files.proofs.Fitting.{lent_formed}
use Rattle.files.proofs.writing.lay_heading.Goals as goal

eight_bytes : (x : ℕ)
    → x % 256 ∷ x / 256 % 256 ∷ x / 65536 % 256 ∷ x / 16777216 % 256 ∷ x / 4294967296 % 256 ∷ x / 1099511627776 % 256
    ∷ x / 281474976710656 % 256 ∷ x / 72057594037927936 % 256 ∷ [] ≡ bytes_of 8 x
eight_bytes x =
    let a = div-div-eq-div-mul x 256 256 in
    let b = div-div-eq-div-mul x 65536 256 in
    let c = div-div-eq-div-mul x 16777216 256 in
    let d = div-div-eq-div-mul x 4294967296 256 in
    let e = div-div-eq-div-mul x 1099511627776 256 in
    let f = div-div-eq-div-mul x 281474976710656 256 in
    cc

-- four parts laid down one after the other
module _ (old one two three four first second third last : List ℕ)
    (first-laid : one ≡ laid 0 first old) (second-laid : two ≡ laid 4 second one) (third-laid : three ≡ laid 6 third two) (last-laid : four ≡ laid 14 last three)
    (first-long : length first ≡ 4) (second-long : length second ≡ 2) (third-long : length third ≡ 8) where
  all_laid : four ≡ laid 0 (((first ++ second) ++ third) ++ last) old
  all_laid =
      let a = length-append first second in
      let b = length-append (first ++ second) third in
      last-laid ∙ ap (laid 14 last)
      (third-laid ∙ ap (laid 6 third)
      (second-laid ∙ ap (laid 4 second) first-laid ∙ laid_behind old first second 0 4 (omega arith) (omega arith))
      ∙ laid_behind old (first ++ second) third 0 6 (omega arith) (omega arith))
      ∙ laid_behind old ((first ++ second) ++ third) last 0 14 (omega arith) (omega arith)

pub overflow_cast-states : goal.overflow_cast-states
overflow_cast-states c =
    let n = (lent_formed c.args.pattern.now c.parts-parts.result c.parts-parts.ensures).few_states in
    search rules

pub overflow_cast-rows : goal.overflow_cast-rows
overflow_cast-rows c =
    let N = (lent_formed c.args.pattern.now c.parts-parts.result c.parts-parts.ensures).few_rows in
    search rules

pub returns : goal.returns
returns c =
    let parts = c.parts-parts.result in
    let e = c.parts-parts.ensures in
    let F = lent_formed c.args.pattern.now parts e in
    let old = c.args.payload.now in
    let n = F.few_states in
    let m = F.few_signals in
    let s = F.starts in
    let small = length parts.roots.now in
    let first : 1 ∷ small ∷ parts.signals ∷ parts.start ∷ [] ≡ bytes_of 1 1 ++ (bytes_of 1 small ++ (bytes_of 1 parts.signals ++ bytes_of 1 parts.start)) =
    let p : small ≡ small % 256 = omega arith in
    let q : parts.signals ≡ parts.signals % 256 = omega arith in
    let r : parts.start ≡ parts.start % 256 = omega arith in
    ap (λ (x : ℕ). 1 ∷ x ∷ parts.signals ∷ parts.start ∷ []) p
    ∙ ap (λ (x : ℕ). 1 ∷ small % 256 ∷ x ∷ parts.start ∷ []) q
    ∙ ap (λ (x : ℕ). 1 ∷ small % 256 ∷ parts.signals % 256 ∷ x ∷ []) r in
    let one = c.copy_from_slice.new.self ++ drop 4 old in
    let two = put_mid 4 2 one c.copy_from_slice-2.new.self in
    let three = put_mid 6 8 two c.copy_from_slice-3.new.self in
    all_laid old one two three (put_mid 14 2 three c.copy_from_slice-4.new.self)
    (bytes_of 1 1 ++ (bytes_of 1 small ++ (bytes_of 1 parts.signals ++ bytes_of 1 parts.start)))
    (bytes_of 2 (length parts.rows.now)) (bytes_of 8 parts.finals) (bytes_of 2 0)
    (ap (λ (xs : List ℕ). xs ++ drop 4 old) (c.copy_from_slice.ensures.after ∙ first))
    (ap (put_mid 4 2 one) (c.copy_from_slice-2.ensures.after ∙ c.to_le_bytes.ensures) ∙ put_laid 4 2 one (bytes_of 2 (length parts.rows.now)) refl)
    (ap (put_mid 6 8 two) (c.copy_from_slice-3.ensures.after ∙ c.to_le_bytes-2.ensures ∙ eight_bytes parts.finals)
    ∙ put_laid 6 8 two (bytes_of 8 parts.finals) refl)
    (ap (put_mid 14 2 three) c.copy_from_slice-4.ensures.after ∙ put_laid 14 2 three (bytes_of 2 0) refl)
    refl refl refl
    ∙ ap (λ (A : Automaton). laid 0 (heading_bytes A) old) e
