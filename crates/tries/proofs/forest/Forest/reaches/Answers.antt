use Rattle.std.proofs.Common.{sym, ◌∙◌}
use Rattle.std.proofs.lemmas.Bool.{both_ways, not-true, not-false}
use Rattle.keys.specs.Numbers.{among, contained}
use Rattle.keys.specs.Listed.{numbers}
use Rattle.tries.specs.Rows.{way}
use Rattle.tries.specs.Forests.{in_use}
use Rattle.tries.proofs.Walks.{walk_skip, walk_next, walk_here, contained_way}
use Rattle.tries.proofs.forest.Forest.reaches.Goals as goal

pub loop-next-preserved-then-leads_away : goal.loop-next-preserved-then-leads_away
loop-next-preserved-then-leads_away c =
    let v = numbers c.args.key.now in
    let rows = in_use c.args.self.now in
    let row = c.in-Some.next.now in
    let rest = c.in-Some.rest.now in
    let w = c.loop-next.invariant in
    (w.0, walk_skip (λ z. contained z v) v (λ z h. h) rows c.loop-next.ahead.now w.0 row rest w.1 c.in-Some.ensures.cases.0 (not-true (among row.number v) (sym c.if-leads_away.ensures)) c.past-ahead.result.now c.past-ahead.ensures)

pub returns-then-next : goal.returns-then-next
returns-then-next c =
    let v = numbers c.args.key.now in
    let rows = in_use c.args.self.now in
    let row = c.in-Some.next.now in
    let rest = c.in-Some.rest.now in
    let w = c.loop-next.invariant in
    sym (walk_here (λ z. contained z v) v (λ z h. h) rows c.loop-next.ahead.now w.0 row rest w.1 c.in-Some.ensures.cases.0 c.if-next.true
    (contained_way w.0 v row w.1.own (not-false (among row.number v) (sym c.leads_away.ensures ∙ c.if-leads_away.false))))

pub loop-next-preserved : goal.loop-next-preserved
loop-next-preserved c =
    let v = numbers c.args.key.now in
    let rows = in_use c.args.self.now in
    let row = c.in-Some.next.now in
    let rest = c.in-Some.rest.now in
    let w = c.loop-next.invariant in (
      way w.0 row,
      walk_next (λ z. contained z v) v (λ z h. h) rows c.loop-next.ahead.now w.0 row rest w.1 c.in-Some.ensures.cases.0
          (not-false (among row.number v) (sym c.leads_away.ensures ∙ c.if-leads_away.false)) (λ t. absurd (both_ways row.ends c.if-next.false t)),
    )
