use Rattle.std.proofs.Common.{◌<◌, ◌≤◌, length, sym, refl, ◌∙◌, subst, arith}
use Rattle.search.specs.Promise.{Admits}
use Rattle.checks.proofs.Refusing.{open_admits, open_room}
use Rattle.scripts.proofs.Scripting.{under_none, under_ready, under_more, under_done}
use Rattle.scripts.proofs.run.Goals as goal

pub loop-step-init : goal.loop-step-init
loop-step-init g c =
    let s = g.K.Kind.shape c.args.kind.now in
    let h₀ = g.S.Store.held c.args.store.now in
    let l₀ = g.S.Store.limit c.args.store.now in
    let t₋ = c.args.table.now in
    let e = c.in_ok-progress.ensures in
    let room : length c.open.new.table ≤ g.S.Store.limit c.open.new.store = omega (arith, open_room s (length t₋) h₀ l₀ e.cases.0, e.limit, c.open.auto.table) in
    (λ admits. under_none s (g.K.Kind.laws c.args.kind.now) _ c.open.new.table admits c.args.script.now _ _ t₋ e.cases.1 c.open.auto.table room, refl)

pub act-next-requires : goal.act-next-requires
act-next-requires g c =
    let s = g.K.Kind.shape c.args.kind.now in
    let t₋ = c.args.table.now in
    let e = c.in_ok-progress.ensures in
    let admits : Admits s (length c.open.new.table) = subst (Admits s) (sym c.open.auto.table) (open_admits s (length t₋) _ _ e.cases.0) in
    under_ready s (g.K.Kind.laws c.args.kind.now) _ c.open.new.table admits c.args.script.now c.loop-step.step-index _ _ _ _ _ (c.loop-step.invariant.0 admits)

pub loop-step-preserved : goal.loop-step-preserved
loop-step-preserved g c =
    let s = g.K.Kind.shape c.args.kind.now in
    let lt : c.loop-step.step-index < length c.loop-step.script = omega (arith, c.loop-step-test.true, c.loop-step.auto.script) in (
      λ admits. under_more s (g.K.Kind.laws c.args.kind.now) _ c.open.new.table admits c.args.script.now c.loop-step.step-index _ _ _ _ _ (c.loop-step.invariant.0 admits)
          lt c.step-item.result _ _ _ _ c.act-next.ensures.acted _ c.act-next.ensures.limit c.act-next.auto.table,
      c.act-next.ensures.limit ∙ c.loop-step.invariant.1,
    )

pub returns : goal.returns
returns g c =
    let s = g.K.Kind.shape c.args.kind.now in
    let t₋ = c.args.table.now in
    let e = c.in_ok-progress.ensures in
    let admits : Admits s (length c.open.new.table) = subst (Admits s) (sym c.open.auto.table) (open_admits s (length t₋) _ _ e.cases.0) in
    let le : length c.loop-step.script ≤ c.loop-step.step-index = omega (arith, c.loop-step-test.false, c.loop-step.auto.script) in
    record {
      cases = (
        e.cases.0,
        under_done s (g.K.Kind.laws c.args.kind.now) _ c.open.new.table admits c.args.script.now c.loop-step.step-index _ _ _ _ _ (c.loop-step.invariant.0 admits)
            le t₋ _ _ e.cases.1 c.open.auto.table,
      );
      limit = c.loop-step.invariant.1 ∙ e.limit;
    }
