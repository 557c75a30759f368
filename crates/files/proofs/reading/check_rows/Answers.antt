use Rattle.std.proofs.Common.{◌≡◌, ℕ, ◌+◌, ◌-◌, ◌<◌, Bool, List, [], ◌∷◌, ◌++◌, length, take, Some, None, sym, ap, ◌∙◌, arith, length-set}
use Rattle.std.proofs.lemmas.List.{length-drop, length-take-le, take_more_set}
use Rattle.std.proofs.lemmas.Result.{err_from_is_err_and}
use Rattle.blocks.specs.Reading.{rest}
use Rattle.patterns.specs.declared.row.Row.{Row}
use Rattle.patterns.specs.declared.fault.Fault.TheVariants.{Operation}
use Rattle.patterns.specs.Questions.{rows_fault, row_fault, free}
use Rattle.files.specs.Layout.{each, row_of}
use Rattle.files.proofs.Asking.{rows_more, rows_stop, rows_unknown}
use Rattle.files.proofs.Portions.{read_some, read_none, large_unknown}
use Rattle.files.proofs.reading.check_rows.Goals as goal

pub returns-in_default : goal.returns-in_default
returns-in_default c =
    let i = c.loop-i.i in
    let t = c.loop-i.frees in
    let l : length (take i t) ≡ i = length-take-le i t (omega arith) in
    sym c.loop-i.invariant.2
    ∙ rows_unknown c.args.states c.args.signals c.args.count i (rest c.loop-i.reader) c.loop-i-test.true (take i t)
    (large_unknown (row_of (rest c.loop-i.reader)) (read_none _ _ c.in_default.ensures.value))
    ∙ ap (λ (n : ℕ). Some (Operation n)) l

pub returns-in_err-free : goal.returns-in_err-free
returns-in_err-free c =
    let p = err_from_is_err_and c.from_residual.result c.from_residual.ensures.1 in
    let i = c.loop-i.i in
    let t = c.loop-i.frees in
    let n = c.args.states in
    let m = c.args.signals in
    rw (p.1, p.2) (sym c.loop-i.invariant.2
    ∙ rows_stop n m c.args.count i (rest c.loop-i.reader) c.loop-i-test.true (take i t) _
    (sym (ap (λ (r : Row). row_fault n m (take i t) r) (read_some _ _ _ c.in-Some.ensures.value).1) ∙ c.in_err-free.ensures))

pub loop-i-preserved : goal.loop-i-preserved
loop-i-preserved c =
    let i = c.loop-i.i in
    let t = c.loop-i.frees in
    let n = c.args.states in
    let m = c.args.signals in
    let N = c.args.count in
    let p = rest c.loop-i.reader in
    let b = c.in_ok-free.free in
    let h : i < length t = omega arith in
    let row = (read_some _ _ _ c.in-Some.ensures.value).1 in
    let after = c.in-Some.ensures.after in
    let l = length-drop 6 p in
    let la = ap length after in
    let e : row_fault n m (take i t) (row_of p) ≡ None =
    sym (ap (λ (r : Row). row_fault n m (take i t) r) row) ∙ c.in_ok-free.ensures.0 in
    let f : b ≡ free (take i t) (row_of p) =
    c.in_ok-free.ensures.1 ∙ ap (free (take i t)) row in (
      length-set t i b ∙ c.loop-i.invariant.0,
      (let k = c.loop-i.invariant.1 in let g = c.loop-i-test.true in omega arith),
      ap (λ (fs : List Bool). rows_fault n m fs (each 6 row_of (N - (i + 1)) (rest c.next.new.reader))) (take_more_set t i b h)
          ∙ ap (λ (r : List ℕ). rows_fault n m (take i t ++ b ∷ []) (each 6 row_of (N - (i + 1)) r)) after
          ∙ rows_more n m N i p c.loop-i-test.true (take i t) b e f
          ∙ c.loop-i.invariant.2,
    )
