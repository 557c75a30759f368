use Rattle.finds.proofs.Walking.{Walking}
use Rattle.finds.proofs.sequences.write_events.Given as goal

-- the events before this one are written, and the next row is as long as events are left
abbrev pub invariant-loop-event : goal.invariant-loop-event
invariant-loop-event g l = Walking (g.K.Kind.shape l.kind) l.finds l.count l.initial.event-items l.event-items l.event-index l.row
