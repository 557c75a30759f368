-- What the calls answer that only read.
--
-- tallied s p t                   the tally of the check p over the table t, or its refusal
-- looked s p t i                  row i, or why it is refused
-- sequence_asked s n t m          why a check with counts n does not write its sequence into a list of m entries
-- certificate_asked s n t h l m   why a check with counts n, over a store that holds h and may hold l, does not write its certificate into a list of m entries
--
-- A tally and a row do not depend on what is held, so they are read of a state that holds nothing.
use Rattle.std.specs.Prelude.{ℕ, cond, ◌&&◌, List, [], length, take, Some, Ok, Err, Option, Result, ◌==◌}
use Rattle.std.specs.List.{slice_get}
use Rattle.kinds.specs.Shape.{Shape}
use Rattle.inspector.specs.Inspected.{if_found}
use Rattle.search.specs.declared.Find.{Find}
use Rattle.search.specs.declared.Tally.{Tally}
use Rattle.search.specs.Search.{tally}
use Rattle.finds.specs.declared.refusals.Refused.{Refused}
use Rattle.finds.specs.declared.refusals.Refused.TheVariants.{Altered, NoRow}
use Rattle.finds.specs.Results.{sequence_refusal, certificate_refusal}
use Rattle.checks.specs.declared.counts.Counts.{Counts}
use Rattle.checks.specs.declared.states.Progress.{Progress}
use Rattle.checks.specs.View.{counts_of, view}
use Rattle.checks.specs.Questions.{unaltered, store_kept}

module _ {C : Type 0} (s : Shape C) where
  abbrev pub tallied : Progress → List (Find C) → Result Tally Refused
  tallied p t = cond (unaltered s (counts_of p) t) (Ok (tally (view p t []))) (Err Altered)

  abbrev pub looked : Progress → List (Find C) → ℕ → Result (Find C) Refused
  looked p t i = cond (unaltered s (counts_of p) t) (if_found (slice_get (view p t []).finds i) Ok (Err NoRow)) (Err Altered)

  abbrev pub sequence_asked : Counts → List (Find C) → ℕ → Option Refused
  sequence_asked n t m = cond (length t == n.rows) (sequence_refusal s n.starts (take n.finds t) m) (Some Altered)

  abbrev pub certificate_asked : Counts → List (Find C) → List C → ℕ → ℕ → Option Refused
  certificate_asked n t h l m = cond (unaltered s n t && store_kept n h l) (certificate_refusal s h (take n.finds t) m) (Some Altered)
