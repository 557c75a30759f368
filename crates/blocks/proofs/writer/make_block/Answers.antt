use Rattle.std.proofs.Common.{◌≡◌, ℕ, ◌/◌, ◌%◌, [], ◌∷◌, refl, ap, ◌∙◌, arith}
use Rattle.blocks.specs.Bytes.{bytes_of}
use Rattle.blocks.proofs.Laying.{block_made}
use Rattle.blocks.proofs.writer.make_block.Goals as goal

four_bytes : (x : ℕ) → x % 256 ∷ x / 256 % 256 ∷ x / 65536 % 256 ∷ x / 16777216 % 256 ∷ [] ≡ bytes_of 4 x
four_bytes x =
    let p : x / 65536 ≡ x / 256 / 256 = omega arith in
    let q : x / 16777216 ≡ x / 256 / 256 / 256 = omega arith in
    ap (λ (y : ℕ). x % 256 ∷ x / 256 % 256 ∷ y % 256 ∷ x / 16777216 % 256 ∷ []) p
    ∙ ap (λ (y : ℕ). x % 256 ∷ x / 256 % 256 ∷ x / 256 / 256 % 256 ∷ y % 256 ∷ []) q

pub returns : goal.returns
returns c =
    block_made c.args.number c.weigh-sum.result c.args.part.now _ _ _ _ _ refl
    (c.copy_from_slice.ensures.after ∙ c.to_le_bytes.ensures)
    (c.copy_from_slice-2.ensures.after ∙ c.to_le_bytes-2.ensures)
    c.copy_from_slice-3.ensures.after
    (c.copy_from_slice-4.ensures.after ∙ c.to_le_bytes-3.ensures ∙ four_bytes c.weigh-sum.result)
    c.requires c.weigh-sum.ensures
