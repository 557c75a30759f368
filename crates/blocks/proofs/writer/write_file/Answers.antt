use Rattle.std.proofs.Common.{◌≡◌, ℕ, ◌*◌, ◌<◌, ◌≤◌, List, ◌++◌, length, take, drop, Some, sym, ap, ◌∙◌, subst, arith}
use Rattle.std.proofs.lemmas.List.{take_at}
use Rattle.std.proofs.lemmas.Bool.Decides.{nat_tests}
use Rattle.blocks.specs.Layout.{block_count, blocks_of}
use Rattle.blocks.specs.Laws.{Readable}
use Rattle.blocks.specs.Writing.{file_len_of}
use Rattle.blocks.proofs.OneBlock.{bytes_from_typed}
use Rattle.blocks.proofs.Files.{length_blocks_of, readable}
use Rattle.blocks.proofs.writer.write_file.Goals as goal

-- what is known of a payload that has a file
has_file : (n m : ℕ) → Some m ≡ file_len_of n → (0 < n) × (block_count n ≤ 65536) × (m ≡ 512 * block_count n)
has_file n m e = (grind (arith, nat_tests), grind (arith, nat_tests), grind (arith, nat_tests))

pub returns : goal.returns
returns c =
    let p = c.args.payload.now in
    let old = c.args.buffer.now in
    let needed = c.in-Some.needed in
    let f = has_file (length p) needed c.in-Some.ensures in
    let l : length (blocks_of p) ≡ needed = length_blocks_of p ∙ sym f.2 in
    let after : c.write_blocks.new.buffer ≡ blocks_of p ++ drop (length (blocks_of p)) old =
    c.write_blocks.ensures ∙ ap (λ (n : ℕ). blocks_of p ++ drop n old) (sym (length_blocks_of p)) in
    let front : take needed c.write_blocks.new.buffer ≡ blocks_of p =
    ap (take needed) after ∙ take_at (blocks_of p) (drop (length (blocks_of p)) old) needed l in
    record {
      value = grind (arith, nat_tests);
      after = after;
      items = subst (λ (file : List ℕ). Readable file p) (sym front) (readable p f.0 f.1 (bytes_from_typed p c.type_inv.payload));
    }
