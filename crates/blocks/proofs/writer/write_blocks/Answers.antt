use Rattle.std.proofs.Common.{◌≡◌, ℕ, ◌+◌, ◌-◌, ◌*◌, min, length, sym, ap, ◌∙◌, subst, arith}
use Rattle.std.specs.Iterator.Adapters.{enumerate_source, enumerate_count}
use Rattle.std.specs.Slice.Iter.{chunks_rest, chunks_size}
use borrow.Rule.Slice.PartMut.{put_mid}
use Rattle.blocks.proofs.Laying.{Laid, laid_none, laid_more, laid_all}
use Rattle.blocks.proofs.writer.write_blocks.Goals as goal

pub loop-b-init : goal.loop-b-init
loop-b-init c =
    let i = c.into_iter-b-iterator.ensures.into_iter_gives in
    let e = ap enumerate_source i ∙ c.enumerate-b-items.ensures.source in (
      ap chunks_size e ∙ c.chunks.ensures.size,
      laid_none c.args.payload.now c.args.buffer.now _ _ (ap chunks_rest e ∙ c.chunks.ensures.rest)
          (ap enumerate_count i ∙ c.enumerate-b-items.ensures.count),
    )

pub loop-b-preserved : goal.loop-b-preserved
loop-b-preserved c =
    let e = c.in-Some.ensures.steps in
    let p = c.args.payload.now in
    let old = c.args.buffer.now in
    let rest = chunks_rest (enumerate_source c.loop-b.b-iterator) in
    let rest' = chunks_rest (enumerate_source c.next.new.self) in
    let part = c.in-Some.part.now in
    let b = c.in-Some.b in
    let k : b + 1 ≡ enumerate_count c.next.new.self = ap (λ (i : ℕ). i + 1) e.1 ∙ sym e.2 in
    let s = c.loop-b.invariant.0 in
    let cut : length part ≡ min 504 (length rest) = e.0.1.1 ∙ ap (λ (i : ℕ). min i (length rest)) s in
    let l = laid_more p old c.loop-b.buffer rest part rest' c.copy_from_slice.new.self b
    (subst (Laid p old c.loop-b.buffer rest) (sym e.1) c.loop-b.invariant.1)
    (let r = c.requires.room in omega arith) e.0.1.0 cut e.0.1.2 (c.copy_from_slice.ensures.after ∙ c.make_block.ensures) in
    (e.0.0 ∙ s, subst (Laid p old (put_mid (512 * b) (512 * b + 512 - 512 * b) c.loop-b.buffer c.copy_from_slice.new.self) rest') k l)

pub returns : goal.returns
returns c =
    let e = c.in-None.ensures.steps in
    laid_all c.args.payload.now c.args.buffer.now c.loop-b.buffer _ _ c.loop-b.invariant.1 e.0.1.0
