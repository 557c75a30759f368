use Rattle.std.proofs.Common.{take, Ok}
use Rattle.std.specs.Fmt.{DisplaysOnOk}
use Rattle.reports.specs.Shown.{lines_of}
use Rattle.reports.proofs.LinesDisplay.fmt.Given as goal

-- the lines so far are written
abbrev pub invariant-loop-item : goal.invariant-loop-item
invariant-loop-item g l =
    DisplaysOnOk g.W.Write.write_str_gives l.initial.f (Ok tt) (lines_of g.T.Display.output l.self.0.now (take l.item-index l.self.1.now)) l.f
