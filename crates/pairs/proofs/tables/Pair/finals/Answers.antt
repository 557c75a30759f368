use Rattle.std.proofs.Common.{◌≡◌, ℕ, suc, ◌+◌, ◌<◌, Bool, sym, refl, ap, ◌∙◌, add-one, arith}
use Rattle.sets.specs.Sets.{set_of, union, one}
use Rattle.sets.proofs.Members.{set_of_more, set_of_skip}
use Rattle.patterns.specs.Automaton.{read}
use Rattle.duals.specs.Without.{without, final_in, state_count_of}
use Rattle.pairs.proofs.tables.Pair.finals.Goals as goal
use Rattle.pairs.proofs.tables.Pair.finals.Goals.{then-is_final, else-is_final}

pub loop-q-init : goal.loop-q-init
unfolding set_of
loop-q-init c = refl

pub loop-q-preserved : goal.loop-q-preserved
loop-q-preserved c =
    let B = read c.args.self.later in
    let A = read c.args.self.earlier in
    let q = c.loop-q.q in
    let f : ℕ → Bool = final_in B A in
    let l : q < state_count_of B A + 1 = c.loop-q-test.true in
    let g : c.if-is_final.finals ≡ set_of f (suc q) =
    elim c.if-is_final.branch [
      | then-is_final w ↦
          w.finals-is ∙ w.add-finals.ensures
          ∙ ap (λ (s : ℕ). union s (one q)) c.loop-q.invariant
          ∙ set_of_more f q (sym c.is_final.ensures ∙ w.if-is_final.true) (omega arith)
      | else-is_final w ↦ w.finals-is ∙ c.loop-q.invariant ∙ set_of_skip f q (sym c.is_final.ensures ∙ w.if-is_final.false)
    ] in
    g ∙ ap (set_of f) (sym (add-one q))

pub returns : goal.returns
unfolding without
returns c =
    let B = read c.args.self.later in
    let A = read c.args.self.earlier in
    let e : c.loop-q.q ≡ state_count_of B A + 1 = omega arith in
    c.loop-q.invariant ∙ ap (set_of (final_in B A)) e
