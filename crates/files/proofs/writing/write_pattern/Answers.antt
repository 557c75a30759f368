use Rattle.std.proofs.Common.{◌≡◌, length, Some, None, MatchResult, ap, ◌∙◌, subst}
use Rattle.std.proofs.lemmas.Result.{err_from_is_err_and}
use Rattle.patterns.specs.Automaton.{Automaton, read}
use Rattle.patterns.specs.Questions.{judged}
use Rattle.patterns.specs.View.{automaton}
use Rattle.files.specs.Layout.{file_of}
use Rattle.files.specs.Questions.{write_fault}
use Rattle.files.proofs.Fitting.{pattern_refused, room_asked}
use Rattle.files.proofs.writing.write_pattern.Goals as goal

pub returns-in_err-checked-clause-cases : goal.returns-in_err-checked-clause-cases
returns-in_err-checked-clause-cases c =
    let p = err_from_is_err_and c.from_residual.result c.from_residual.ensures.1 in
    rw (p.1, p.2) (pattern_refused (read c.args.parts) (length c.args.buffer.now) _ c.in_err-checked.ensures)

pub returns-clause-cases : goal.returns-clause-cases
returns-clause-cases c =
    let room = length c.args.buffer.now in
    let r = c.write_formed.result in
    let A = automaton c.seal-pattern.result in
    let checked = c.in_ok-checked.ensures in
    let none : judged A ≡ None = ap (λ (B : Automaton). judged B) c.seal-pattern.ensures ∙ checked.1 in
    subst (λ (B : Automaton). MatchResult r (λ n. (write_fault B room ≡ None) × (n ≡ length (file_of B))) (λ f. write_fault B room ≡ Some f))
    (c.seal-pattern.ensures ∙ checked.0)
    (room_asked A room r none c.write_formed.ensures.value)
