use Rattle.std.proofs.Common.{◌≡◌, ◌+◌, ◌<◌, ◌≤◌, cond, not, ◌&&◌, [], ◌++◌, length, get_or, take, set, sym, refl, ap, ◌∙◌, subst, arith}
use lib.ListN.{length-replicate}
use Rattle.std.proofs.lemmas.List.{take_all, drop_all, append-nil}
use Rattle.keys.specs.Numbers.{contained, none}
use Rattle.keys.specs.Listed.{numbers}
use Rattle.keys.proofs.Numbers.{rest_none}
use Rattle.tries.specs.Rows.{way, after, paths}
use Rattle.tries.specs.Changes.{released}
use Rattle.tries.proofs.Walks.{blank}
use Rattle.tries.proofs.Trails.{Trail, trail_start, trail_left, trail_more}
use Rattle.tries.proofs.Releasing.{parts_at, released_row, released_more, after_more, count_more}
use Rattle.tries.proofs.changing.release.Goals as goal
use Rattle.tries.proofs.changing.release.Goals.{then-row, else-row}

pub loop-row-init : goal.loop-row-init
loop-row-init c = (refl, refl, omega arith, trail_start c.args.key _ (length-replicate 65 c.args.key))

pub follow-rest-requires : goal.follow-rest-requires
follow-rest-requires c =
    let old = c.args.rows.now in
    let i = c.loop-row.row-index in
    let l : i < length old = c.loop-row-test.true in
    subst (λ r. r.depth < 65) (sym (released_row (numbers c.args.key) old c.loop-row.rows i l c.loop-row.invariant.0)) (parts_at old i c.requires l).few

pub loop-row-preserved : goal.loop-row-preserved
loop-row-preserved c =
    let old = c.args.rows.now in
    let rows = c.loop-row.rows in
    let key = c.args.key in
    let v = numbers key in
    let i = c.loop-row.row-index in
    let inv = c.loop-row.invariant in
    let l : i < length old = c.loop-row-test.true in
    let p = after [] (take i old) in
    let row = get_or old i blank in
    let same : get_or rows i blank ≡ row = released_row v old rows i l inv.0 in
    let parts = parts_at old i c.requires l in
    let read = get_or rows i blank in
    let deep : read.depth ≤ length p = subst (λ r. r.depth ≤ length p) (sym same) parts.deep in
    let few : read.depth < 65 = subst (λ r. r.depth < 65) (sym same) parts.few in
    let rest = c.follow-rest.result in
    let left = trail_left key c.loop-row.left p inv.3 read rest deep few c.follow-rest.ensures.value in
    let to : way p read ≡ way p row = ap (way p) same in
    let ends : c.keeps-row.result ≡ (row.ends && not (contained v (way p row))) =
    c.keeps-row.ensures ∙ ap (λ k. read.ends && not k) (ap none left ∙ rest_none v (way p read)) ∙ ap (λ r. r.ends && not (contained v (way p r))) same in
    let more = count_more v old rows i l inv.0 c.keeps-row.result ends in
    let step : (c.if-row.count ≡ c.loop-row.count + cond c.keeps-row.result 1 0) × (c.if-row.count ≤ i + 1) = elim c.if-row.branch [
      | then-row w ↦ (w.count-is ∙ ap (λ b. c.loop-row.count + cond b 1 0) (sym w.if-row.true), omega (arith, w.count-is, inv.2))
      | else-row w ↦ (w.count-is ∙ (omega arith) ∙ ap (λ b. c.loop-row.count + cond b 1 0) (sym w.if-row.false), omega (arith, w.count-is, inv.2))
    ] in
    let trail : Trail key (set c.loop-row.left read.depth rest) (way p read) = trail_more key c.loop-row.left p inv.3 read rest deep few c.follow-rest.ensures.value in (
      released_more v old rows i l inv.0 _
          (ap (λ r. record { number = r.number; depth = r.depth; ends = c.keeps-row.result; skip = r.skip }) same
          ∙ ap (λ b. record { number = row.number; depth = row.depth; ends = b; skip = row.skip }) ends),
      omega (arith, step.0, more, inv.1),
      step.1,
      subst (λ z. Trail key z (after [] (take (i + 1) old))) (sym c.follow-rest.ensures.left) (subst (λ q. Trail key (set c.loop-row.left read.depth rest) q) (to ∙ sym (after_more v old rows i l inv.0)) trail),
    )

pub returns : goal.returns
returns c =
    let old = c.args.rows.now in
    let v = numbers c.args.key in
    let i = c.loop-row.row-index in
    let inv = c.loop-row.invariant in
    let whole : take i old ≡ old = take_all i old c.loop-row-test.false in
    record {
      rows = inv.0 ∙ ap (λ z. released v [] (take i old) ++ z) (drop_all i old c.loop-row-test.false) ∙ append-nil (released v [] (take i old)) ∙ ap (released v []) whole;
      count = inv.1 ∙ ap (λ z. length (paths [] (released v [] z))) whole;
    }
