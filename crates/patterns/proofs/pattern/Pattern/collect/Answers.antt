use Rattle.std.proofs.Common.{◌≡◌, ℕ, suc, ◌<◌, Bool, false, get_or, sym, refl, ap, ◌∙◌, add-one, arith}
use Rattle.sets.specs.Sets.{set_of, union, one}
use Rattle.sets.proofs.Members.{set_of_more, set_of_skip}
use Rattle.patterns.specs.Automaton.{root}
use Rattle.patterns.specs.View.{automaton}
use Rattle.patterns.proofs.Made.{is_formed}
use Rattle.patterns.proofs.pattern.Pattern.collect.Goals as goal
use Rattle.patterns.proofs.pattern.Pattern.collect.Goals.{then-table-root, else-table-root}

pub loop-q-init : goal.loop-q-init
unfolding set_of
loop-q-init c = refl

pub bounds-table-root : goal.bounds-table-root
bounds-table-root c =
    let F = is_formed c.args.self.now in
    let l = F.rooted c.loop-q.q (omega arith) in
    let m = F.few_rows in
    omega arith

pub loop-q-preserved : goal.loop-q-preserved
loop-q-preserved c =
    let A = automaton c.args.self.now in
    let q = c.loop-q.q in
    let f : ℕ → Bool = λ j. get_or c.args.table.now (root A j) false in
    let n = (is_formed c.args.self.now).few_states in
    let l : q < 64 = omega arith in
    let g : c.if-table-root.found ≡ set_of f (suc q) =
    elim c.if-table-root.branch [
      | then-table-root w ↦
          w.found-is ∙ w.add-found.ensures
          ∙ ap (λ (s : ℕ). union s (one q)) c.loop-q.invariant
          ∙ set_of_more f q w.if-table-root.true l
      | else-table-root w ↦ w.found-is ∙ c.loop-q.invariant ∙ set_of_skip f q w.if-table-root.false
    ] in
    g ∙ ap (set_of f) (sym (add-one q))
