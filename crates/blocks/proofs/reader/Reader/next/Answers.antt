use Rattle.std.proofs.Common.{◌≡◌, ◌+◌, ◌<◌, length, get_or, drop, Some, sym, ap, ◌∙◌, arith}
use Rattle.blocks.specs.declared.reader.Reader.{Reader}
use Rattle.blocks.specs.Bytes.{head}
use Rattle.blocks.specs.Reading.{rest}
use Rattle.blocks.proofs.Walk.{rest_more, marked_none}
use Rattle.blocks.proofs.reader.Reader.next.Goals as goal
use Rattle.blocks.proofs.reader.Reader.next.Goals.{else-self-end-via-then-self-end+else-not-enter_block, else-self-end-via-else-self-end}

pub enter_block-requires : goal.enter_block-requires
enter_block-requires c =
    let r = c.args.self.now in
    marked_none r.file.now r.place r.end (omega arith)

-- the reader s stands before the first byte that r has to hand out
module _ (r s : Reader) (same : rest s ≡ rest r) (before : s.place < s.end) (within : s.place < length s.file.now) where
  handed : Some (get_or s.file.now s.place 0) ≡ head (rest r)
  handed = ap head (sym (rest_more s before within) ∙ same)

  left : rest (record { file = s.file; block = s.block; place = s.place + 1; end = s.end }) ≡ drop 1 (rest r)
  left = ap (drop 1) (sym (rest_more s before within) ∙ same)

pub returns : goal.returns
returns c =
    let r = c.args.self.now in
    let s = c.else-self-end.self in
    elim c.else-self-end.branch [
      | else-self-end-via-then-self-end+else-not-enter_block w ↦
          let f = w.self-is in
          let t = w.enter_block.ensures.test w.if-not-enter_block.false in
          let e : rest s ≡ rest r = ap rest f ∙ w.enter_block.ensures.after in
          let p = ap (λ (q : Reader). q.place) f in
          let q = ap (λ (q : Reader). q.end) f in
          let l = ap (λ (q : Reader). length q.file.now) f in
          record {
            value = handed r s e (omega arith) (omega arith);
            after = left r s e (omega arith) (omega arith);
            same = ap (λ (q : Reader). q.file.now) f ∙ w.enter_block.ensures.same;
          }
      | else-self-end-via-else-self-end w ↦
          let f = w.self-is in
          let p = ap (λ (q : Reader). q.place) f in
          let q = ap (λ (q : Reader). q.end) f in
          let l = ap (λ (q : Reader). length q.file.now) f in
          record {
            value = handed r s (ap rest f) (omega arith) (omega arith);
            after = left r s (ap rest f) (omega arith) (omega arith);
            same = ap (λ (q : Reader). q.file.now) f;
          }
    ]
