use Rattle.std.proofs.Common.{take, Ok}
use Rattle.std.proofs.Output.{displays_on_IsOk_append}
use Rattle.std.proofs.lemmas.List.{take_all}
use Rattle.reports.specs.Shown.{line_of, lines_of}
use Rattle.reports.proofs.Adding.{lines_of_more}
use Rattle.reports.proofs.LinesDisplay.fmt.Goals as goal

pub loop-item-preserved : goal.loop-item-preserved
loop-item-preserved g c =
    let print = g.T.Display.output in
    let word = c.args.self.now.0.now in
    let items = c.args.self.now.1.now in
    let i = c.loop-item.item-index in
    let item = c.item-item.result in
    rw (← lines_of_more print word items i item c.item-item.is c.loop-item-test.true)
    (displays_on_IsOk_append g.W.Write.write_str_gives c.args.f.now c.loop-item.f c.write.new.self (Ok tt) (Ok tt)
    (lines_of print word (take i items)) (line_of print word item) (λ ok. ok) c.loop-item.invariant c.in_ok-write.ensures.writes)

pub returns-clause-writes : goal.returns-clause-writes
returns-clause-writes g c = rw (take_all c.loop-item.item-index c.args.self.now.1.now c.loop-item-test.false) at c.loop-item.invariant
