use Rattle.std.proofs.Common.{◌≡◌, ℕ, ◌-◌, ◌*◌, ◌/◌, [], ◌∷◌, ◌++◌, length, take, drop, sym, refl, ap, ◌∙◌, arith}
use Rattle.std.proofs.lemmas.List.{get_or_push}
use Rattle.std.proofs.lemmas.Bool.Decides.{nat_tests}
use Rattle.blocks.specs.Layout.{used_in}
use Rattle.blocks.specs.Reading.{payload_len_of}
use Rattle.blocks.proofs.OneBlock.{bytes_from_typed}
use Rattle.blocks.proofs.Files.{chunk_at, counted, used_in_block}
use Rattle.blocks.proofs.reader.payload_len.Goals as goal

pub returns-in-None-clause-len : goal.returns-in-None-clause-len
returns-in-None-clause-len c = λ limit h.
    let file = c.args.file.now in
    let l = c.as_chunks.ensures.front_len in
    let z = c.in-None.ensures.cases in
    let e : payload_len_of file ≡ 0 = grind (arith, nat_tests) in
    counted file (bytes_from_typed file c.type_inv.file) limit h ∙ e

pub returns-in-Some-clause-value : goal.returns-in-Some-clause-value
returns-in-Some-clause-value c =
    let file = c.args.file.now in
    let s = c.in-Some.ensures.cases in
    let l = c.as_chunks.ensures.front_len in
    let before = c.in-Some.before.now in
    let last = c.in-Some.last.now in
    let k = length before in
    let n : k ≡ length file / 512 - 1 = omega arith in
    let is : last ≡ take 512 (drop (512 * k) file) =
    sym (get_or_push before last [] k refl)
    ∙ chunk_at 512 (length file / 512) k file [] (before ++ last ∷ []) (sym s.0 ∙ c.as_chunks.ensures.front) (omega arith) in
    let u : c.from.result ≡ used_in (drop (512 * (length file / 512 - 1)) file) =
    c.from.ensures ∙ c.read_used.ensures ∙ ap used_in is ∙ used_in_block (drop (512 * k) file)
    ∙ ap (λ (m : ℕ). used_in (drop (512 * m) file)) n in
    grind (arith, nat_tests)

pub returns-in-Some-clause-len : goal.returns-in-Some-clause-len
returns-in-Some-clause-len c = λ limit h.
    let file = c.args.file.now in
    counted file (bytes_from_typed file c.type_inv.file) limit h ∙ sym (returns-in-Some-clause-value c)
