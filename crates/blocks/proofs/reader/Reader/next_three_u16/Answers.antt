use Rattle.std.proofs.Common.{◌≡◌, ℕ, ◌+◌, ◌≤◌, leb, length, take, drop, Some, None, sym, refl, ap, ◌∙◌, arith}
use Rattle.std.proofs.lemmas.Bool.{cond-true, le-leb}
use Rattle.blocks.specs.Bytes.{number, next_three_of}
use Rattle.blocks.specs.declared.reader.Reader.{Reader}
use Rattle.blocks.specs.Reading.{rest}
use Rattle.blocks.proofs.Walk.{long_rest, passed_over, part_next}
use Rattle.blocks.proofs.reader.Reader.next_three_u16.Goals as goal

three : (r : Reader) (a b d : ℕ) → r.place + 6 ≤ r.end → r.place + 6 ≤ length r.file.now
    → a ≡ number (take 2 (drop r.place r.file.now)) → b ≡ number (take 2 (drop (r.place + 2) r.file.now))
    → d ≡ number (take 2 (drop (r.place + 4) r.file.now)) → Some (a, b, d) ≡ next_three_of (rest r)
three r a b d h k e f g =
    let z : r.place + 0 ≡ r.place = omega arith in
    let p = part_next r 6 h k in
    let x : a ≡ number (take 2 (rest r)) =
    e ∙ ap (λ (i : ℕ). number (take 2 (drop i r.file.now))) (sym z) ∙ sym (ap number (p 0 2 (omega arith))) in
    let y : b ≡ number (take 2 (drop 2 (rest r))) = f ∙ sym (ap number (p 2 2 (omega arith))) in
    let w : d ≡ number (take 2 (drop 4 (rest r))) = g ∙ sym (ap number (p 4 2 (omega arith))) in
    ap (λ (n : ℕ). Some (n, b, d)) x
    ∙ ap (λ (n : ℕ). Some (number (take 2 (rest r)), n, d)) y
    ∙ ap (λ (n : ℕ). Some (number (take 2 (rest r)), number (take 2 (drop 2 (rest r))), n)) w
    ∙ sym (cond-true (leb 6 (length (rest r))) _ None (le-leb 6 (length (rest r)) (long_rest r 6 h k)))

pub returns : goal.returns
returns c =
    let r = c.args.self.now in
    record {
      value = three r _ _ _ (omega arith) (omega arith) c.read_u16-first.ensures c.read_u16-second.ensures c.read_u16-third.ensures;
      after = passed_over r 6 (omega arith) (omega arith);
      same = refl;
    }
