use Rattle.std.proofs.Common.{◌≡◌, ℕ, List, IfOk, string_bytes, subst}
use Rattle.pattern_kinds.specs.PatternKind.{single_pattern}
use Rattle.judging.specs.Judgement.{ended}
use Rattle.judging.proofs.Texts.{text_like}
use Rattle.judging.proofs.tables.judge_pattern.Goals as goal

pub returns : goal.returns
unfolding ended
returns c =
    let A = single_pattern c.args.pattern.now in
    subst (λ (text : List ℕ). IfOk c.end_text.result (λ s. string_bytes s ≡ text)) (text_like A _ (ended A) c.in-Ok.ensures.cases.1.ran.stands.like) c.end_text.ensures
