use Rattle.std.proofs.Common.{ℕ, get_or, take, sym, refl, ap, ap₂, ◌∙◌}
use Rattle.std.proofs.lemmas.Bool.{and_from, and_left, and_right}
use Rattle.sets.specs.Sets.{has, set_of, union, one}
use Rattle.sets.proofs.Members.{union_one}
use Rattle.models.specs.Machine.{idle}
use Rattle.models.specs.Sent.{admits}
use Rattle.models.specs.Sources.{sources}
use Rattle.models.proofs.Stepping.{sources_more, sources_skip}
use Rattle.models.proofs.sources.sources.Goals as goal
use Rattle.models.proofs.sources.sources.Goals.{then-admits+then-holds, else-admits, else-admits-via-then-admits+else-holds, else-admits-via-else-admits}

pub loop-arrow-init : goal.loop-arrow-init
unfolding set_of
loop-arrow-init c = refl

pub loop-arrow-preserved : goal.loop-arrow-preserved
loop-arrow-preserved c =
    let i = c.loop-arrow.arrow-index in
    let ts = c.args.arrows.now in
    let t = get_or ts i idle in
    let a = c.args.event in
    let d = c.args.states in
    let h = c.loop-arrow-test.true in
    elim c.if-admits.branch [
      | then-admits+then-holds w ↦
          w.found-is ∙ w.add-found.ensures
          ∙ ap₂ (λ (s q : ℕ). union s (one q)) c.loop-arrow.invariant w.from-then-holds.ensures
          ∙ union_one (sources (take i ts) a d) t.from
          ∙ sources_more a d ts i idle h
          (and_from (admits t a) (has d t.to) (sym c.admits.ensures.value ∙ w.if-admits.true)
          (sym (w.holds.ensures ∙ ap (has d) w.from.ensures) ∙ w.if-holds.true))
      | else-admits w ↦
          w.found-is ∙ c.loop-arrow.invariant
          ∙ sources_skip a d ts i idle h
          (elim w.else-admits.branch [
            | else-admits-via-then-admits+else-holds v ↦
                and_right (admits t a) (has d t.to) (sym (v.holds.ensures ∙ ap (has d) v.from.ensures) ∙ v.if-holds.false)
            | else-admits-via-else-admits v ↦
                and_left (admits t a) (has d t.to) (sym c.admits.ensures.value ∙ v.if-admits.false)
          ])
    ]
