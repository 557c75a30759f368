use Rattle.std.proofs.Common.{◌≡◌, ◌<◌, false, sym, arith}
use Rattle.kinds.specs.Certificate.{covered}
use Rattle.search.proofs.Moves.{finds_nothing, finds_move}
use Rattle.finds.proofs.finder.least_move.Goals as goal

pub returns-then-not-covers : goal.returns-then-not-covers
returns-then-not-covers g c =
    let s = g.K.Kind.shape c.args.kind.now in
    let h = g.S.Store.held c.args.store.now in
    let l : c.loop-k.k < s.moves = omega arith in
    let u : covered s h c.in-Some.x ≡ false = cc in
    sym (finds_move s h c.args.y c.loop-k.k c.in-Some.x l (sym c.in-Some.ensures) u c.loop-k.invariant)

pub returns : goal.returns
returns g c =
    let s = g.K.Kind.shape c.args.kind.now in
    let h = g.S.Store.held c.args.store.now in
    sym (finds_nothing s h c.args.y (λ k l. c.loop-k.invariant k (omega arith)))
