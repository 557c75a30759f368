use Rattle.std.proofs.Common.{◌≡◌, ℕ, List, IfOk, string_bytes, ap, ◌∙◌, subst}
use Rattle.blocks.specs.Layout.{payload}
use Rattle.files.specs.Layout.{decoded}
use Rattle.files.proofs.Ordering.{sound}
use Rattle.kinds.proofs.Values.{none_some}
use Rattle.patterns.specs.Automaton.{read}
use Rattle.patterns.specs.Questions.{judged}
use Rattle.pattern_kinds.specs.PatternKind.{single_pattern}
use Rattle.judging.proofs.Texts.{read_tables, judged_text}
use Rattle.judging.proofs.tables.judge_file.Goals as goal

pub unreachable-requires : goal.unreachable-requires
unreachable-requires c =
    let p = payload c.args.file.now in
    let h = c.in-Ok.ensures in
    let e : read c.parts.result ≡ decoded p = c.parts.ensures
    ∙ read_tables p _ c.read_pattern.new.roots _ c.read_pattern.new.rows c.in-Ok.heading h.roots h.rows h.cases.1 in
    let s = sound c.args.file.now 64 1024 h.cases.0 in
    none_some (ap judged e ∙ s.is_pattern) c.in-Err-checked.ensures

pub returns-in-Ok-checked : goal.returns-in-Ok-checked
returns-in-Ok-checked c =
    let file = c.args.file.now in
    let p = payload file in
    let h = c.in-Ok.ensures in
    let e : read c.parts.result ≡ decoded p = c.parts.ensures
    ∙ read_tables p _ c.read_pattern.new.roots _ c.read_pattern.new.rows c.in-Ok.heading h.roots h.rows h.cases.1 in
    let k = c.in-Ok-checked.ensures in
    let q : single_pattern c.new.result ≡ decoded p = c.new.ensures.value ∙ c.seal.ensures ∙ k.0 ∙ e in
    subst (λ (text : List ℕ). IfOk c.judge_pattern.result (λ s. string_bytes s ≡ text))
    (judged_text file h.cases.0 (single_pattern c.new.result) q)
    c.judge_pattern.ensures
