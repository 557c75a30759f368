use Rattle.std.proofs.Common.{◌≡◌, ℕ, ◌+◌, ◌≤◌, length, None, sym, refl, ◌∙◌, subst, arith}
use Rattle.search.specs.Search.{queried}
use Rattle.search.specs.Like.{Like}
use Rattle.checks.specs.declared.states.Progress.TheVariants as progress
use Rattle.checks.specs.View.{stood, view}
use Rattle.checks.proofs.Turning.{advanced, has_ended, kept_same, kept_trans, same_refl, same_trans, none_made, one_made, rest_made}
use Rattle.checks.proofs.states.Running.turns.Goals as goal

pub loop-init : goal.loop-init
loop-init g c =
    let s = g.K.Kind.shape c.args.kind.now in
    let t = c.args.lent.now.table.now in
    (c.requires, same_refl _ _, kept_same c.args.self.counts t (progress.Running c.args.self) refl, none_made s (length t) _)

pub make_query-requires : goal.make_query-requires
make_query-requires g c = c.loop.invariant.0

pub loop-preserved : goal.loop-preserved
loop-preserved g c =
    let s = g.K.Kind.shape c.args.kind.now in
    let r = length c.args.lent.now.table.now in
    let e = c.in-Running.ensures in
    let v = c.loop.invariant in (
      e.ready,
      same_trans _ _ _ _ v.1 e.same,
      kept_trans _ _ (progress.Running c.loop.running) c.loop.lent.table.now v.2 (progress.Running c.in-Running.next) _ e.kept,
      one_made s r (length c.loop.lent.table.now) (v.0.long ∙ v.2.rows ∙ sym c.requires.long) c.loop.counter _ (stood c.loop.running.counts None c.loop.lent.table.now (g.S.Store.held c.loop.lent.store.now)) _ e.like v.3,
    )

pub returns-in_default : goal.returns-in_default
returns-in_default g c =
    let s = g.K.Kind.shape c.args.kind.now in
    let t = c.args.lent.now.table.now in
    let p = c.make_query.result in
    let e = c.make_query.ensures in
    let v = c.loop.invariant in
    let le : c.loop.counter + 1 ≤ c.args.grant = omega arith in
    let like = rest_made s (length t) (c.loop.counter + 1) c.args.grant _ _ le (has_ended p c.in_default.not-Running)
    (one_made s (length t) (length c.loop.lent.table.now) (v.0.long ∙ v.2.rows ∙ sym c.requires.long) c.loop.counter _ (stood c.loop.running.counts None c.loop.lent.table.now (g.S.Store.held c.loop.lent.store.now)) _ e.like v.3) in
    record {
      advanced = advanced s (g.K.Kind.laws c.args.kind.now) c.args.self.counts t _ c.args.grant p _ _ _ like
          (kept_trans _ _ (progress.Running c.loop.running) c.loop.lent.table.now v.2 p _ e.kept) e.ready;
      same = same_trans _ _ _ _ v.1 e.same;
    }

pub returns : goal.returns
returns g c =
    let s = g.K.Kind.shape c.args.kind.now in
    let t = c.args.lent.now.table.now in
    let u = stood c.args.self.counts None t (g.S.Store.held c.args.lent.now.store.now) in
    let p = progress.Running c.loop.running in
    let v = c.loop.invariant in
    let e : c.loop.counter ≡ c.args.grant = omega arith in
    let like = subst (λ (m : ℕ). Like (view p c.loop.lent.table.now (g.S.Store.held c.loop.lent.store.now)) (queried s (length t) m u)) e v.3 in
    record {
      advanced = advanced s (g.K.Kind.laws c.args.kind.now) c.args.self.counts t _ c.args.grant p _ _ _ like v.2 v.0;
      same = v.1;
    }
