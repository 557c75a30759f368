-- The state of the search that a check stands for, with the table and the store that it is lent.
--
-- stood n v t h   counts n, verdict v, table t and held configurations h: the first rows of the table are the finds, as many as n counts
-- verdict_of p    the verdict of the check p, if it has one
-- counts_of p     its counts
-- view p t h      the state that the check p stands for over the table t and a store that holds h
use Rattle.std.specs.Prelude.{List, take, Some, None, Option}
use Rattle.search.specs.declared.Find.{Find}
use Rattle.search.specs.declared.Verdict.{Verdict}
use Rattle.search.specs.declared.Verdict.TheVariants as verdict
use Rattle.search.specs.Search.{State}
use Rattle.checks.specs.declared.counts.Counts.{Counts}
use Rattle.checks.specs.declared.states.Progress.{Progress}
use Rattle.checks.specs.declared.states.Progress.TheVariants.{Running, Matched, Never, Full}

abbrev pub verdict_of : Progress → Option Verdict
verdict_of (Running p) = None
verdict_of (Matched p) = Some verdict.Matches
verdict_of (Never p) = Some verdict.Never
verdict_of (Full p) = Some verdict.Full

abbrev pub counts_of : Progress → Counts
counts_of (Running p) = p.counts
counts_of (Matched p) = p.counts
counts_of (Never p) = p.counts
counts_of (Full p) = p.counts

module _ {C : Type 0} where
  abbrev pub stood : Counts → Option Verdict → List (Find C) → List C → State C
  stood n v t h = record { finds = take n.finds t; held = h; row = n.row; starts = n.starts; queries = n.queries; verdict = v }

  abbrev pub view : Progress → List (Find C) → List C → State C
  view p t h = stood (counts_of p) (verdict_of p) t h
