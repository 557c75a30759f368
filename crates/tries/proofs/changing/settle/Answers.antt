use Rattle.std.proofs.Common.{◌≡◌, ℕ, ◌-◌, true, ◌||◌, ltb, List, length, take, drop, ap, ◌∙◌, arith, length-drop, rules}
use Rattle.std.proofs.lemmas.Bool.{or_left, or_right, lt-ltb, not-false}
use Rattle.std.proofs.lemmas.List.{take-set, take_all}
use Rattle.tries.specs.declared.row.Row.{Row}
use Rattle.tries.specs.Rows.{run, linked}
use Rattle.tries.proofs.Paths.{run_le}
use Rattle.tries.proofs.Settling.{written}
use Rattle.tries.proofs.changing.settle.Goals as goal
use Rattle.tries.proofs.changing.settle.Goals.{else-not-row-via-then-not-row+else-below-eq0, else-not-row-via-else-not-row}

all_behind : (start : ℕ) (rows : List Row) → take (length rows - start) (drop start rows) ≡ drop start rows
all_behind start rows = take_all (length rows - start) (drop start rows) (omega (arith, length-drop start rows))

pub measure-below-requires : goal.measure-below-requires
measure-below-requires c = ap linked (all_behind c.args.start c.args.rows.now) ∙ c.requires.part.linked

pub over-requires : goal.over-requires
over-requires c =
    let h = run_le c.args.row.depth (drop c.args.start c.args.rows.now) in
    let k = length-drop c.args.start c.args.rows.now in
    let e = c.measure-below.ensures ∙ ap (run c.args.row.depth) (all_behind c.args.start c.args.rows.now) in
    let p = c.requires.place in
    let w = c.requires.part.within in
    search rules

pub returns : goal.returns
returns c =
    let rows = c.args.rows.now in
    let start = c.args.start in
    let row = c.args.row in
    let below = run row.depth (drop start rows) in
    let p = c.requires.place in
    let w = c.requires.part.within in
    let m : c.measure-below.result ≡ below = c.measure-below.ensures ∙ ap (run row.depth) (all_behind start rows) in
    let bears : (row.ends || ltb 0 below) ≡ true = elim c.else-not-row.branch [
      | else-not-row-via-then-not-row+else-below-eq0 x ↦ or_right row.ends (ltb 0 below) (lt-ltb 0 below (omega (arith, m, x.if-below-eq0.false)))
      | else-not-row-via-else-not-row x ↦ or_left row.ends (ltb 0 below) (not-false row.ends x.if-not-row.false)
    ] in
    record {
      items = written rows start row p w bears c.measure-below.result m c.over.result c.over.ensures;
      same = take-set rows (start - 1) _;
      near = omega arith;
      place = omega arith;
    }
