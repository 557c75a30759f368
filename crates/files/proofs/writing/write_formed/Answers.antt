use Rattle.std.proofs.Common.{◌≡◌, ℕ, List, length, take, ap, ◌∙◌}
use Rattle.patterns.specs.View.{automaton}
use Rattle.patterns.proofs.Made.{is_formed}
use Rattle.files.specs.Laying.{laid}
use Rattle.files.specs.Layout.{encoded}
use Rattle.files.proofs.Fitting.{refused_value, written_value, written_after, written_again}
use Rattle.files.proofs.Laying.{take_laid}
use Rattle.files.proofs.writing.write_formed.Goals as goal

-- the payload is the front
part : (payload old bytes : List ℕ) (n : ℕ) → n ≡ length bytes → payload ≡ laid 0 bytes old → take n payload ≡ bytes
part payload old bytes n e l = ap (take n) l ∙ take_laid bytes old n e

pub returns-in-Ok : goal.returns-in-Ok
returns-in-Ok c =
    let A = automaton c.args.pattern.now in
    let old = c.args.buffer.now in
    let new = c.write_file.new.buffer in
    let payload = c.lay_out-len.new.payload in
    let is = part payload _ (encoded A) c.lay_out-len.result c.lay_out-len.ensures.value c.lay_out-len.ensures.after in
    let n = c.in-Ok.file_len in
    let e = c.in-Ok.ensures in
    record {
      value = written_value A (is_formed c.args.pattern.now) _ old new is n e.value;
      after = written_after A (is_formed c.args.pattern.now) _ old new is n e.value e.after;
      again = written_again A (is_formed c.args.pattern.now) _ old new is n e.value e.after e.items;
    }

pub returns-in-Err : goal.returns-in-Err
returns-in-Err c =
    let A = automaton c.args.pattern.now in
    let old = c.args.buffer.now in
    let payload = c.lay_out-len.new.payload in
    let is = part payload _ (encoded A) c.lay_out-len.result c.lay_out-len.ensures.value c.lay_out-len.ensures.after in
    let e = c.in-Err.ensures in
    record {
      value = refused_value A (is_formed c.args.pattern.now) _ old c.write_file.new.buffer is c.in-Err.field-0 e.value;
      after = e.after;
      again = tt;
    }
