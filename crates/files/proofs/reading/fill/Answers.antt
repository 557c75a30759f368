use Rattle.std.proofs.Common.{◌≡◌, ℕ, ◌*◌, ◌<◌, true, List, ◌++◌, length, drop, sym, refl, ap, ◌∙◌, mul-zero, arith}
use Rattle.std.proofs.lemmas.List.{append-nil, drop_all, drop-drop, length-drop}
use Rattle.std.proofs.lemmas.Bool.{both_ways}
use Rattle.blocks.specs.Reading.{rest}
use Rattle.files.specs.Layout.{each}
use Rattle.files.proofs.Portions.{fits_more, parts_more, read_some, read_none, filled_more}
use Rattle.files.proofs.reading.fill.Goals as goal
use Rattle.files.proofs.reading.fill.Goals.{in-Some, in_default}

pub loop-slot-init : goal.loop-slot-init
loop-slot-init g c = (ap (λ (n : ℕ). drop n (rest c.args.reader.now)) (sym (mul-zero g.row.N)), refl)

pub next-requires : goal.next-requires
next-requires g c =
    let i = c.loop-slot.slot-index in
    let p = rest c.args.reader.now in
    let l = length-drop (g.row.N * i) p in
    let e = ap length c.loop-slot.invariant.0 in
    let f = fits_more g.row.N i (length c.args.table.now) (length p) (let h = c.loop-slot-test.true in omega arith) c.requires.long in
    omega arith

pub loop-slot-preserved : goal.loop-slot-preserved
loop-slot-preserved g c =
    let N = g.row.N in
    let front = g.T.Entry.front in
    let i = c.loop-slot.slot-index in
    let p = rest c.args.reader.now in
    let here = c.loop-slot.invariant.0 in
    let h : i < length c.args.table.now = let t = c.loop-slot-test.true in omega arith in
    let stands : g.T.Entry.stands (rest c.loop-slot.reader) ≡ true = ap g.T.Entry.stands here ∙ c.requires.stand i h in (
      c.next.ensures.after ∙ ap (drop N) here ∙ drop-drop N (N * i) p ∙ ap (λ (n : ℕ). drop n p) (parts_more N i),
      elim c.match-next.branch [
        | in-Some w ↦
            w.table-is ∙ filled_more N front i p c.args.table.now c.loop-slot.table w.in-Some.entry h c.loop-slot.invariant.1
            ((read_some _ _ _ w.in-Some.ensures.value).1 ∙ ap front here)
        | in_default w ↦ absurd (both_ways _ (read_none _ _ w.in_default.ensures.value) stands)
      ],
    )

pub returns : goal.returns
returns g c =
    let N = g.row.N in
    let i = c.loop-slot.slot-index in
    let p = rest c.args.reader.now in
    let old = c.args.table.now in
    let e : i ≡ length old = let t = c.loop-slot-test.false in omega arith in
    record {
      items = c.loop-slot.invariant.1
          ∙ ap (λ (xs : List _). each N g.T.Entry.front i p ++ xs) (drop_all i old c.loop-slot-test.false)
          ∙ append-nil (each N g.T.Entry.front i p)
          ∙ ap (λ (n : ℕ). each N g.T.Entry.front n p) e;
      after = c.loop-slot.invariant.0 ∙ ap (λ (n : ℕ). drop (N * n) p) e;
    }
