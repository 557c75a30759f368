use Rattle.std.proofs.Common.{◌≡◌, take}
use Rattle.models.specs.Sources.{sources}
use Rattle.models.proofs.sources.sources.Given as goal

-- the states found by the arrows so far
abbrev pub invariant-loop-arrow : goal.invariant-loop-arrow
invariant-loop-arrow l = l.found ≡ sources (take l.arrow-index l.arrows) l.event l.states
