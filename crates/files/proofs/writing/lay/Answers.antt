use Rattle.std.proofs.Common.{◌≡◌, ◌+◌, ◌-◌, ◌*◌, take, sym, ap, ◌∙◌, arith}
use borrow.Rule.Slice.PartMut.{put_mid}
use Rattle.std.specs.List.{flat_map}
use Rattle.files.specs.Laying.{laid}
use Rattle.files.proofs.Laying.{put_laid, laid_more}
use Rattle.files.proofs.writing.lay.Goals as goal

pub loop-i-preserved : goal.loop-i-preserved
loop-i-preserved g c =
    let N = g.row.N in
    let bytes = g.T.Entry.bytes in
    let entries = c.args.entries.now in
    let at = c.args.at in
    let i = c.loop-i.i in
    let x = c.index-entries-i.result in
    let place = at + N * i in
    let k : place + N - place ≡ N = omega arith in
    let e = c.copy_from_slice.ensures.after ∙ c.to_bytes.ensures in
    ap (put_mid place (place + N - place) c.loop-i.payload) e
    ∙ put_laid place (place + N - place) c.loop-i.payload (bytes x) (g.met.T.Entry.long x ∙ sym k)
    ∙ ap (laid place (bytes x)) c.loop-i.invariant
    ∙ ap (λ y. laid place (bytes y) (laid at (flat_map bytes (take i entries)) c.args.payload.now)) c.index-entries-i.is
    ∙ laid_more N bytes g.met.T.Entry.long entries i x c.args.payload.now at c.loop-i-test.true (omega arith)
