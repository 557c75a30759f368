use Rattle.std.proofs.Common.{◌≡◌, ℕ, ◌+◌, ◌<◌, ◌≤◌, length, drop, Some, sym, refl, ap, ◌∙◌, subst, arith}
use Rattle.kinds.proofs.Values.{none_some}
use Rattle.kinds.proofs.Searches.{entry_at}
use Rattle.search.specs.declared.Verdict.TheVariants.{Matches}
use Rattle.search.specs.Search.{opened}
use Rattle.search.specs.Like.{Like}
use Rattle.checks.specs.declared.counts.Counts.{Counts}
use Rattle.checks.specs.declared.lending.Lent.{Lent}
use Rattle.checks.specs.Lending.{Same}
use Rattle.checks.specs.View.{verdict_of, stood}
use Rattle.checks.specs.Calls.{begun_with}
use Rattle.checks.proofs.Refusing.{open_admits, open_empty, open_room}
use Rattle.checks.proofs.Starting.{Taken, taken_none, taken_covered, taken_more, met_like, met_behind, done_like, done_ready, opened_stands}
use Rattle.checks.proofs.Turning.{same_refl, same_trans}
use Rattle.checks.proofs.Stepping.{stands_as, ready_as}
use Rattle.checks.proofs.opening.take_firsts.Goals as goal
use Rattle.checks.proofs.opening.take_firsts.Goals.{in-Some+then-not-covers+else-goal, in-Some+else-not-covers, in_default}

pub loop-i-init : goal.loop-i-init
loop-i-init g c =
    let s = g.K.Kind.shape c.args.kind.now in
    let h = g.S.Store.held c.args.lent.now.store.now in
    let l = g.S.Store.limit c.args.lent.now.store.now in
    let t = c.args.lent.now.table.now in
    (taken_none s t h (open_empty s (length t) h l c.requires), same_refl _ _)

pub returns-then-goal : goal.returns-then-goal
returns-then-goal g c =
    let s = g.K.Kind.shape c.args.kind.now in
    let laws = g.K.Kind.laws c.args.kind.now in
    let h₀ = g.S.Store.held c.args.lent.now.store.now in
    let l₀ = g.S.Store.limit c.args.lent.now.store.now in
    let t₀ = c.args.lent.now.table.now in
    let t = c.loop-i.lent.table.now in
    let h = g.S.Store.held c.loop-i.lent.store.now in
    let n = c.loop-i.finds in
    let x = c.in-Some.x in
    let t' = c.put_first.new.lent.table.now in
    let h' = g.S.Store.held c.put_first.new.lent.store.now in
    let admits = open_admits s (length t₀) h₀ l₀ c.requires in
    let taken = c.loop-i.invariant.0 in
    let room : n < length t = omega (arith, taken.few, taken.long, admits.firsts_fit, c.loop-i-test.true, c.first_count-i-end.ensures) in
    let like = met_like s t₀ c.loop-i.i n t h taken x (sym c.in-Some.ensures) (sym c.if-not-covers.ensures) room t' c.put_first.ensures.rows h' c.put_first.ensures.items (sym c.goal.ensures ∙ c.if-goal.true) in
    let like' = subst (λ (m : Counts). Like (stood m (Some Matches) t' h') (opened s)) (sym c.begun.ensures) like in
    record {
      opened = record {
        stands = opened_stands s laws (length t₀) admits _ like';
        rows = ap (λ (m : Counts). m.rows) c.begun.ensures;
        behind = subst (λ (m : Counts). drop m.finds t' ≡ drop m.finds t₀) (sym c.begun.ensures)
            (met_behind s t₀ c.loop-i.i n t h taken x (sym c.in-Some.ensures) (sym c.if-not-covers.ensures) room t' c.put_first.ensures.rows h' c.put_first.ensures.items);
        ready = tt;
      };
      same = same_trans _ _ _ _ c.loop-i.invariant.1 c.put_first.ensures.same;
    }

pub loop-i-preserved : goal.loop-i-preserved
loop-i-preserved g c =
    let s = g.K.Kind.shape c.args.kind.now in
    let h₀ = g.S.Store.held c.args.lent.now.store.now in
    let l₀ = g.S.Store.limit c.args.lent.now.store.now in
    let t₀ = c.args.lent.now.table.now in
    let t = c.loop-i.lent.table.now in
    let h = g.S.Store.held c.loop-i.lent.store.now in
    let n = c.loop-i.finds in
    let admits = open_admits s (length t₀) h₀ l₀ c.requires in
    let taken = c.loop-i.invariant.0 in
    let room : n < length t = omega (arith, taken.few, taken.long, admits.firsts_fit, c.loop-i-test.true, c.first_count-i-end.ensures) in
    let T : ℕ → Lent _ _ → Type 0 = λ m k. Taken s t₀ (c.loop-i.i + 1) m k.table.now (g.S.Store.held k.store.now) × Same g.S.Store.limit c.args.lent.now k in
    elim c.match-first.branch [
      | in-Some+then-not-covers+else-goal w ↦
          let e = w.put_first.ensures in
          subst (λ m. T m c.match-first.lent) (sym w.finds-is)
          (subst (λ k. T (n + 1) k) (sym w.lent-is) (
            taken_more s t₀ c.loop-i.i n t h taken w.in-Some.x (sym w.in-Some.ensures) (sym w.if-not-covers.ensures) room _ e.rows _ e.items (sym w.if-goal.ensures),
            same_trans _ _ _ _ c.loop-i.invariant.1 e.same,
          ))
      | in-Some+else-not-covers w ↦
          subst (λ m. T m c.match-first.lent) (sym w.finds-is)
          (subst (λ k. T n k) (sym w.lent-is)
          (taken_covered s t₀ c.loop-i.i n t h taken w.in-Some.x (sym w.in-Some.ensures) (sym w.if-not-covers.ensures), c.loop-i.invariant.1))
      | in_default w ↦
          let y = entry_at s.firsts c.loop-i.i (omega (arith, c.loop-i-test.true, c.first_count-i-end.ensures)) in
          none_some (sym w.in_default.ensures) y.1
    ]

pub returns : goal.returns
returns g c =
    let s = g.K.Kind.shape c.args.kind.now in
    let laws = g.K.Kind.laws c.args.kind.now in
    let h₀ = g.S.Store.held c.args.lent.now.store.now in
    let l₀ = g.S.Store.limit c.args.lent.now.store.now in
    let t₀ = c.args.lent.now.table.now in
    let t = c.loop-i.lent.table.now in
    let h = g.S.Store.held c.loop-i.lent.store.now in
    let l = g.S.Store.limit c.loop-i.lent.store.now in
    let n = c.loop-i.finds in
    let p = c.start.result in
    let admits = open_admits s (length t₀) h₀ l₀ c.requires in
    let taken = c.loop-i.invariant.0 in
    let all : length s.firsts ≤ c.loop-i.i = omega (arith, c.loop-i-test.false, c.first_count-i-end.ensures) in
    let fits : n ≤ length t = omega (arith, taken.few, taken.long, admits.firsts_fit, c.loop-i.auto.i-end, c.first_count-i-end.ensures) in
    let roomy : length t ≤ l = omega (arith, taken.long, open_room s (length t₀) h₀ l₀ c.requires, c.loop-i.invariant.1.limit) in
    let e = c.start.ensures.counts in
    let like = stands_as p (begun_with (length t₀) n) t e _ refl h _ (done_like s t₀ c.loop-i.i n t h taken all fits (verdict_of p) c.start.ensures.verdict) in
    record {
      opened = record {
        stands = opened_stands s laws (length t₀) admits _ like;
        rows = ap (λ (m : Counts). m.rows) e;
        behind = subst (λ (m : Counts). drop m.finds t ≡ drop m.finds t₀) (sym e) taken.behind;
        ready = ready_as p (begun_with (length t₀) n) t e s h l (done_ready s t₀ c.loop-i.i n t h taken all fits l roomy);
      };
      same = c.loop-i.invariant.1;
    }
