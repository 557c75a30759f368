use Rattle.std.proofs.Common.{◌<◌, length, take, sym, ◌∙◌, arith, length-set}
use Rattle.std.proofs.lemmas.List.{at_drop_all, take_more_set}
use Rattle.std.proofs.lemmas.Result.{err_from_is_err_and}
use Rattle.patterns.specs.Automaton.{blank}
use Rattle.patterns.specs.Questions.{rows_fault}
use Rattle.patterns.proofs.Asking.{rows_more, rows_stop}
use Rattle.patterns.proofs.questions.check_rows.Goals as goal

pub returns-in_err-free : goal.returns-in_err-free
returns-in_err-free c =
    let p = err_from_is_err_and c.from_residual.result c.from_residual.ensures.1 in
    let i = c.loop-i.i in
    let t = c.loop-i.frees in
    rw (p.1, p.2) (sym c.loop-i.invariant.1
    ∙ rows_stop c.args.states c.args.signals c.args.rows.now i blank c.loop-i-test.true (take i t) _
    c.in_err-free.ensures)

pub loop-i-preserved : goal.loop-i-preserved
loop-i-preserved c =
    let i = c.loop-i.i in
    let t = c.loop-i.frees in
    let b = c.in_ok-free.free in
    let h : i < length t = omega arith in
    let e = c.in_ok-free.ensures in (
      length-set t i b ∙ c.loop-i.invariant.0,
      rw (take_more_set t i b h)
          (rows_more c.args.states c.args.signals c.args.rows.now i blank c.loop-i-test.true (take i t) b e.0 e.1
          ∙ c.loop-i.invariant.1),
    )

pub returns : goal.returns
returns c =
    sym c.loop-i.invariant.1
    ∙ at_drop_all (rows_fault c.args.states c.args.signals (take c.loop-i.i c.loop-i.frees)) c.args.rows.now c.loop-i.i (omega arith)
