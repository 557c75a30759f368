use Rattle.std.proofs.Common.{◌≡◌, ℕ, ◌+◌, ◌*◌, ◌<◌, Bool, List, [], ◌∷◌, ◌++◌, length, get_or, take, set, Ok, sym, refl, ap, ◌∙◌, arith, length-set}
use Rattle.std.proofs.lemmas.List.{take_more_set, take_all, length-take-le, length_push}
use Rattle.std.proofs.lemmas.List.Sums.{fold_more}
use Rattle.patterns.specs.declared.row.Row.{Row}
use Rattle.patterns.specs.Automaton.{read, blank}
use Rattle.patterns.specs.Questions.{free, free_step}
use Rattle.files.specs.Layout.{fronted}
use Rattle.duals.specs.Dual.{dual_rows, row_copy, row_dual}
use Rattle.duals.proofs.Marked.{length_dual_rows}
use Rattle.pairs.proofs.Fronts.{front_push}
use Rattle.pairs.proofs.Pairs.{free_answered, pairs_more, operands_small}
use Rattle.pairs.proofs.dual.Shift.dualise.Goals as goal

pub unwrap-free-requires : goal.unwrap-free-requires
unwrap-free-requires c =
    let i = c.loop-i.i in
    let t = c.loop-i.frees in
    rw (free_answered (read c.args.earlier) c.requires.formed i (take i t) c.check_row.result c.loop-i-test.true
    c.loop-i.invariant.1 c.check_row.ensures) refl

pub copy_of-requires : goal.copy_of-requires
copy_of-requires c = operands_small (read c.args.earlier) c.requires.formed c.loop-i.i c.loop-i-test.true

pub dual_of-requires : goal.dual_of-requires
dual_of-requires c =
    let s = operands_small (read c.args.earlier) c.requires.formed c.loop-i.i c.loop-i-test.true in
    let n = c.requires.formed.few_rows in
    let h = c.loop-i-test.true in
    (s.0, s.1, omega arith)

pub loop-i-preserved : goal.loop-i-preserved
loop-i-preserved c =
    let rs = (read c.args.earlier).rows in
    let b = c.args.self.base in
    let n = c.args.self.states in
    let i = c.loop-i.i in
    let t = c.loop-i.frees in
    let old = c.args.rows.now in
    let h : i < length rs = c.loop-i-test.true in
    let k = c.requires.formed.few_rows in
    let room = c.requires.room in
    let m : length t ≡ 1024 = c.loop-i.invariant.0 in
    let l : i < length t = omega arith in
    let r = get_or rs i blank in
    let f = c.unwrap-free.result in
    let answered : c.check_row.result ≡ Ok (free (take i t) r) =
    free_answered (read c.args.earlier) c.requires.formed i (take i t) c.check_row.result h
    c.loop-i.invariant.1 c.check_row.ensures in
    let ef : f ≡ free (take i t) r = cc in
    let xs = dual_rows b n [] (take i rs) in
    let x = row_copy b (free (take i t) r) r in
    let y = row_dual b n i (free (take i t) r) r in
    let ex : c.copy_of.result ≡ x = c.copy_of.ensures ∙ ap (λ (g : Bool). row_copy b g r) ef in
    let ey : c.dual_of.result ≡ y = c.dual_of.ensures ∙ ap (λ (g : Bool). row_dual b n i g r) ef in
    let lx : length xs ≡ 2 * i = length_dual_rows b n [] (take i rs) ∙ ap (λ (j : ℕ). 2 * j) (length-take-le i rs (omega arith)) in
    let ly : length (xs ++ x ∷ []) ≡ 2 * i + 1 = length_push xs x ∙ ap (λ (j : ℕ). j + 1) lx in (
      length-set t i f ∙ m,
      take_more_set t i f l
          ∙ ap (λ (g : Bool). take i t ++ g ∷ []) ef
          ∙ ap (λ (vs : List Bool). free_step vs r) c.loop-i.invariant.1
          ∙ sym (fold_more free_step [] rs i blank h),
      ap (λ (v : Row). set (set c.loop-i.rows (2 * i) v) (2 * i + 1) c.dual_of.result) ex
          ∙ ap (λ (v : Row). set (set c.loop-i.rows (2 * i) x) (2 * i + 1) v) ey
          ∙ ap (λ (t' : List Row). set (set t' (2 * i) x) (2 * i + 1) y) c.loop-i.invariant.2
          ∙ ap (λ (t' : List Row). set t' (2 * i + 1) y) (front_push xs old x (2 * i) lx (omega arith))
          ∙ front_push (xs ++ x ∷ []) old y (2 * i + 1) ly (omega arith)
          ∙ ap (λ (ys : List Row). fronted ys old) (sym (pairs_more b n rs i (take i t) h c.loop-i.invariant.1 (length-take-le i t (omega arith)))),
    )

pub returns : goal.returns
returns c =
    let rs = (read c.args.earlier).rows in
    c.loop-i.invariant.2
    ∙ ap (λ (qs : List Row). fronted (dual_rows c.args.self.base c.args.self.states [] qs) c.args.rows.now)
    (take_all c.loop-i.i rs c.loop-i-test.false)
