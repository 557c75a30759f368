use Rattle.std.proofs.Common.{◌≡◌, ℕ, ◌+◌, Bool, true, false, List, is_some, sym, ap, ◌∙◌, arith}
use Rattle.blocks.specs.Bytes.{head}
use Rattle.blocks.proofs.Walk.{entering, rest_more, rest_none, marked_none}
use Rattle.blocks.proofs.reader.Reader.enter_block.Goals as goal

pub loop-start-preserved : goal.loop-start-preserved
loop-start-preserved c =
    let r = c.loop-start.self in (
      marked_none r.file.now (r.block + 4) (r.block + 4 + c.min-used.result) (omega arith),
      entering r c.from.result c.min-used.result (c.from.ensures ∙ c.read_u16.ensures) c.min-used.ensures (omega arith) c.loop-start.invariant.0 ∙ c.loop-start.invariant.1,
      c.loop-start.invariant.2,
    )

pub returns-then-used-gt0 : goal.returns-then-used-gt0
returns-then-used-gt0 c =
    let r = c.loop-start.self in
    let m = c.min-used.result in
    let e = entering r c.from.result m (c.from.ensures ∙ c.read_u16.ensures) c.min-used.ensures (omega arith) c.loop-start.invariant.0 ∙ c.loop-start.invariant.1 in
    let more = rest_more (record { file = r.file; block = r.block + 512; place = r.block + 4; end = r.block + 4 + m }) (omega arith) (omega arith) in
    record {
      value = ap (λ (xs : List ℕ). is_some (head xs)) (sym more ∙ e);
      after = e;
      same = c.loop-start.invariant.2;
      test = λ _. (omega arith, omega arith);
    }

pub returns : goal.returns
returns c =
    let r = c.loop-start.self in
    record {
      value = ap (λ (xs : List ℕ). is_some (head xs)) (sym (rest_none r (omega arith) c.loop-start.invariant.0) ∙ c.loop-start.invariant.1);
      after = c.loop-start.invariant.1;
      same = c.loop-start.invariant.2;
      test = λ (e : ◌≡◌ {A = Bool} false true). let z : ◌≡◌ {A = ℕ} 0 1 = cc in (omega arith, omega arith);
    }
