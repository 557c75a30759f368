use Rattle.std.proofs.Common.{◌≡◌, ℕ, Bool, true, false, cond, is_some, refl, ap, ◌∙◌}
use Rattle.models.specs.Machine.{Machine, read}
use Rattle.models.specs.Questions.{judged}
use Rattle.patterns.specs.Automaton.{Automaton}
use Rattle.patterns.specs.View.{automaton}
use Rattle.joint_kinds.specs.Sound.{silent, sound_model}
use Rattle.joint_kinds.proofs.joint.kind.join.Goals as goal

-- the model that sends nothing meets every question, for any number of signals
silent_meets : (m : ℕ) → is_some (judged m silent) ≡ false
unfolding judged
silent_meets m = refl

either_meets : (m : ℕ) (M : Machine) (b : Bool) → is_some (judged m M) ≡ b → is_some (judged m (cond b silent M)) ≡ false
either_meets m M true e = silent_meets m
either_meets m M false e = e

pub invariant_of-result : goal.invariant_of-result
invariant_of-result c =
    let m = (automaton c.args.pattern).signals in
    let M = read c.args.model in
    let model : read c.sound_or_silent-model.result ≡ sound_model m M =
    c.sound_or_silent-model.ensures ∙ ap (λ (k : ℕ). sound_model k M) (ap (λ (A : Automaton). A.signals) c.parts.ensures) in
    record { formed = ap (λ (N : Machine). is_some (judged m N)) model ∙ either_meets m M (is_some (judged m M)) refl }
