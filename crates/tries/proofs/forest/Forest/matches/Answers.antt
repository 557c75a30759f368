use Rattle.std.proofs.Common.{◌≡◌, ℕ, Bool, true, false, ◌&&◌, List, sym, ap, ◌∙◌, subst}
use Rattle.std.proofs.lemmas.Bool.{both_ways, not-true, not-false, and_parts, and_from, and_right}
use Rattle.keys.specs.Numbers.{among, contained, none}
use Rattle.keys.specs.Listed.{numbers}
use Rattle.keys.proofs.Numbers.{rest_none}
use Rattle.tries.specs.Rows.{way}
use Rattle.tries.specs.Forests.{in_use}
use Rattle.tries.proofs.Walks.{walk_skip, walk_next, walk_here, walk_deep, contained_way}
use Rattle.tries.proofs.Trails.{Trail, trail_left, trail_more}
use Rattle.tries.proofs.forest.Forest.matches.Goals as goal
use Rattle.tries.proofs.forest.Forest.matches.Goals.{else-is_empty-via-then-is_empty+else-row, else-is_empty-via-else-is_empty}

abbrev same : List ℕ → List ℕ → Bool
same v w = contained w v && contained v w

only : (v w : List ℕ) → same v w ≡ true → contained w v ≡ true
only v w h = (and_parts (contained w v) (contained v w) h).0

pub loop-row-preserved-then-leads_away : goal.loop-row-preserved-then-leads_away
loop-row-preserved-then-leads_away c =
    let v = numbers c.args.key in
    let rows = in_use c.args.self.now in
    let row = c.in-Some.row.now in
    let rest = c.in-Some.rest.now in
    let w = c.loop-row.invariant in
    (w.0, walk_skip (same v) v (only v) rows c.loop-row.ahead.now w.0 row rest w.1 c.in-Some.ensures.cases.0 (not-true (among row.number v) (sym c.if-leads_away.ensures)) c.past-ahead.result.now c.past-ahead.ensures, w.2)

pub follow-requires : goal.follow-requires
follow-requires c =
    let v = numbers c.args.key in
    let rows = in_use c.args.self.now in
    let row = c.in-Some.row.now in
    let rest = c.in-Some.rest.now in
    let w = c.loop-row.invariant in
    (walk_deep (same v) v (only v) rows c.loop-row.ahead.now w.0 row rest w.1 c.in-Some.ensures.cases.0).1

pub returns-then-row : goal.returns-then-row
returns-then-row c =
    let v = numbers c.args.key in
    let rows = in_use c.args.self.now in
    let row = c.in-Some.row.now in
    let rest = c.in-Some.rest.now in
    let w = c.loop-row.invariant in
    let e = c.in-Some.ensures.cases.0 in
    let deep = walk_deep (same v) v (only v) rows c.loop-row.ahead.now w.0 row rest w.1 e in
    let left = trail_left c.args.key c.loop-row.left w.0 w.2 row c.follow.result deep.0 deep.1 c.follow.ensures.value in
    sym (walk_here (same v) v (only v) rows c.loop-row.ahead.now w.0 row rest w.1 e c.if-row.true
    (and_from (contained (way w.0 row) v) (contained v (way w.0 row))
    (contained_way w.0 v row w.1.own (not-false (among row.number v) (sym c.leads_away.ensures ∙ c.if-leads_away.false)))
    (sym (rest_none v (way w.0 row)) ∙ sym (ap none left) ∙ sym c.if-is_empty.ensures)))

pub loop-row-preserved : goal.loop-row-preserved
loop-row-preserved c =
    let v = numbers c.args.key in
    let rows = in_use c.args.self.now in
    let row = c.in-Some.row.now in
    let rest = c.in-Some.rest.now in
    let w = c.loop-row.invariant in
    let e = c.in-Some.ensures.cases.0 in
    let key = c.args.key in
    let to = way w.0 row in
    let deep = walk_deep (same v) v (only v) rows c.loop-row.ahead.now w.0 row rest w.1 e in
    let left = trail_left key c.loop-row.left w.0 w.2 row c.follow.result deep.0 deep.1 c.follow.ensures.value in
    let other : row.ends ≡ true → same v to ≡ false = λ t. elim c.else-is_empty.branch [
      | else-is_empty-via-then-is_empty+else-row x ↦ absurd (both_ways row.ends x.if-row.false t)
      | else-is_empty-via-else-is_empty x ↦ and_right (contained to v) (contained v to) (sym (rest_none v to) ∙ sym (ap none left) ∙ sym c.is_empty.ensures ∙ x.if-is_empty.false)
    ] in (
      to,
      walk_next (same v) v (only v) rows c.loop-row.ahead.now w.0 row rest w.1 e (not-false (among row.number v) (sym c.leads_away.ensures ∙ c.if-leads_away.false)) other,
      subst (λ z. Trail key z to) (sym c.follow.ensures.left) (trail_more key c.loop-row.left w.0 w.2 row c.follow.result deep.0 deep.1 c.follow.ensures.value),
    )
