use Rattle.std.proofs.Common.{◌≡◌, ℕ, ◌-◌, ◌*◌, ◌/◌, length, drop, sym, ap, ◌∙◌, arith}
use Rattle.std.proofs.lemmas.Result.{err_from_is_err_and}
use Rattle.std.proofs.lemmas.Bool.Decides.{nat_tests}
use Rattle.blocks.specs.Faults.{file_fault, blocks_fault}
use Rattle.blocks.proofs.OneBlock.{bytes_from_typed}
use Rattle.blocks.proofs.Files.{chunk_at, blocks_pass, blocks_stop, rewritten}
use Rattle.blocks.proofs.check.check_file.Goals as goal

pub returns-then-not-may_have-clause-cases : goal.returns-then-not-may_have-clause-cases
unfolding file_fault
returns-then-not-may_have-clause-cases c = grind (arith, nat_tests)

pub returns-in_err-check_block-clause-cases : goal.returns-in_err-check_block-clause-cases
unfolding file_fault
returns-in_err-check_block-clause-cases c =
    let p = err_from_is_err_and c.from_residual.result c.from_residual.ensures.1 in
    let file = c.args.file.now in
    let n = c.as_chunks.ensures.front_len in
    let h = c.loop-place-test.true in
    let is = chunk_at 512 (length file / 512) c.loop-place.place file _ c.as_chunks.result.0.now c.as_chunks.ensures.front (omega arith) in
    let s = sym c.loop-place.invariant ∙ blocks_stop file _ c.loop-place.place (length c.as_chunks.result.0.now) h is _ c.in_err-check_block.ensures in
    rw (p.1, p.2) (grind (arith, nat_tests))

pub loop-place-preserved : goal.loop-place-preserved
loop-place-preserved c =
    let file = c.args.file.now in
    let n = c.as_chunks.ensures.front_len in
    let h = c.loop-place-test.true in
    let is = chunk_at 512 (length file / 512) c.loop-place.place file _ c.as_chunks.result.0.now c.as_chunks.ensures.front (omega arith) in
    blocks_pass file _ c.loop-place.place (length c.as_chunks.result.0.now) h is c.in_ok-check_block.ensures ∙ c.loop-place.invariant

pub returns-clause-cases : goal.returns-clause-cases
unfolding file_fault
returns-clause-cases c =
    let file = c.args.file.now in
    let n = length c.as_chunks.result.0.now in
    let l = c.as_chunks.ensures.front_len in
    let e : n - c.loop-place.place ≡ 0 = omega arith in
    let s = sym c.loop-place.invariant ∙ ap (λ (n : ℕ). blocks_fault n c.loop-place.place (drop (512 * c.loop-place.place) file)) e in
    grind (arith, nat_tests)

pub returns-clause-items : goal.returns-clause-items
returns-clause-items c =
    rewritten c.args.file.now c.args.limit (bytes_from_typed c.args.file.now c.type_inv.file) (returns-clause-cases c)
