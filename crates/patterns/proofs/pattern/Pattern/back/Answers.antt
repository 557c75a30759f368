use Rattle.std.proofs.Common.{◌≡◌, ℕ, Bool, false, List, length, get_or, sym, ap, ◌∙◌, subst}
use Rattle.std.proofs.lemmas.List.{get_or-take}
use Rattle.sets.specs.Sets.{Within}
use Rattle.sets.proofs.Members.{set_of_same}
use Rattle.patterns.specs.Automaton.{states, root}
use Rattle.patterns.specs.Values.{value, back}
use Rattle.patterns.specs.View.{automaton}
use Rattle.patterns.proofs.Accepting.{step_back, back_step, back_grows, back_lowered}
use Rattle.patterns.proofs.Depending.{value_free}
use Rattle.patterns.proofs.Made.{is_formed}
use Rattle.patterns.proofs.pattern.Pattern.back.Goals as goal

pub returns : goal.returns
returns c =
    let A = automaton c.args.self.now in
    let F = is_formed c.args.self.now in
    let a = c.args.event in
    let d = c.args.states in
    let t = c.evaluate.new.table in
    let e : c.collect.result ≡ back A a d =
    c.collect.ensures ∙ set_of_same (λ (q : ℕ). get_or t (root A q) false) (λ (q : ℕ). value A a d (root A q)) (states A)
    (λ q h.
    sym (get_or-take (length A.rows) t (root A q) false (F.rooted q h))
    ∙ ap (λ (vs : List Bool). get_or vs (root A q) false) c.evaluate.ensures) in
    record {
      value = e;
      steps = λ c'. (
        (λ s. let P : ℕ → Type 0 = λ r. Within c' r in subst P (sym e) (step_back A a c' d s)),
        λ w. let P : ℕ → Type 0 = λ r. Within c' r in back_step A a c' d (subst P e w),
      );
      grows = λ d' w. let P : ℕ → Type 0 = λ r. Within r (back A a d') in subst P (sym e) (back_grows A F a d d' w);
      free = λ i d' f. value_free A F a d d' f;
      signals = e ∙ back_lowered A F a d;
    }
