use Rattle.std.proofs.Common.{◌+◌, ◌-◌, length, take, drop, ap, ◌∙◌, arith, length-drop}
use Rattle.std.proofs.lemmas.List.{take_all, take_at}
use Rattle.tries.proofs.exchanging.move_down.Goals as goal

pub returns : goal.returns
returns c =
    let rows = c.args.rows.now in
    let start = c.args.start in
    let n = length rows - start in
    let l = length-drop start rows in
    let whole = take_all n (drop start rows) (omega arith) in
    ap (take n) c.copy_within.ensures.after ∙ take_at (take n (drop start rows)) (drop (0 + n) rows) n (ap length whole ∙ l) ∙ whole
