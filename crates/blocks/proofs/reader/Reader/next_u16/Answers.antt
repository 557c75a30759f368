use Rattle.std.proofs.Common.{ℕ, Some, refl, ap, ◌∙◌, arith}
use Rattle.blocks.proofs.Walk.{passed_over, next_number_is}
use Rattle.blocks.proofs.reader.Reader.next_u16.Goals as goal

pub returns : goal.returns
returns c =
    let r = c.args.self.now in
    record {
      value = ap (λ (n : ℕ). Some n) c.read_u16-number.ensures ∙ next_number_is r 2 (omega arith) (omega arith);
      after = passed_over r 2 (omega arith) (omega arith);
      same = refl;
    }
