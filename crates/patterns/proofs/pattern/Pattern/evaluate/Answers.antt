use Rattle.std.proofs.Common.{◌≡◌, ℕ, ◌<◌, ◌≤◌, Bool, List, [], ◌∷◌, ◌++◌, length, get_or, take, sym, ap, ◌∙◌, arith, length-set}
use Rattle.std.proofs.lemmas.List.{take_more_set, length-take-le}
use Rattle.std.proofs.lemmas.List.Sums.{fold_more}
use Rattle.patterns.specs.Automaton.{row, blank}
use Rattle.patterns.specs.Questions.{ordered}
use Rattle.patterns.specs.Values.{values, value_step, row_value_of}
use Rattle.patterns.specs.View.{automaton}
use Rattle.patterns.proofs.Made.{is_formed}
use Rattle.patterns.proofs.Meeting.{known_proper, operands_before}
use Rattle.patterns.proofs.pattern.Pattern.evaluate.Goals as goal

pub invariant_of-row : goal.invariant_of-row
invariant_of-row c =
    let A = automaton c.args.self.now in
    let i = c.loop-i.i in
    let p = (is_formed c.args.self.now).proper i (omega arith) in
    let n = (is_formed c.args.self.now).few_rows in
    let l : i ≤ length c.loop-i.table = omega arith in
    record {
      is_known = known_proper A i (row A i) p;
      is_ordered = ap (λ (k : ℕ). ordered k (row A i)) (length-take-le i c.loop-i.table l) ∙ operands_before A i (row A i) p;
    }

pub loop-i-preserved : goal.loop-i-preserved
loop-i-preserved c =
    let i = c.loop-i.i in
    let t = c.loop-i.table in
    let a = c.args.event in
    let d = c.args.states in
    let rows = c.args.self.now.parts.rows.now in
    let v = c.value-value.result in
    let n = (is_formed c.args.self.now).few_rows in
    let h : i < length t = omega arith in
    let r = get_or rows i blank in
    let f : v ≡ row_value_of a d (values (take i rows) a d) r =
    c.value-value.ensures ∙ ap (λ (vs : List Bool). row_value_of a d vs r) c.loop-i.invariant.1 in (
      length-set t i v ∙ c.loop-i.invariant.0,
      take_more_set t i v h
          ∙ ap (λ (vs : List Bool). vs ++ v ∷ []) c.loop-i.invariant.1
          ∙ ap (λ (x : Bool). values (take i rows) a d ++ x ∷ []) f
          ∙ sym (fold_more (value_step a d) [] rows i blank c.loop-i-test.true),
    )
