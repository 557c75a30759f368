use Rattle.std.proofs.Common.{not}
use Rattle.std.proofs.lemmas.List.Filters.{FiltersInPlace}
use Rattle.stores.proofs.list.ListStore.exchange.Given as goal

-- the rows before this one that x does not cover stand in front
abbrev pub invariant-loop-i : goal.invariant-loop-i
invariant-loop-i g l = FiltersInPlace (λ y. not ((g.K.Kind.shape l.kind).within y l.x)) l.initial.rows l.rows l.count l.i
