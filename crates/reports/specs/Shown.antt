-- How the values that are printed stand for those of Reports, and lines of items whose type says how it prints.
--
-- outcome_of o      the outcome that o says
-- line_of p w x     the word w, a space, what p says is printed of x, and a newline; nothing is said if p says nothing
-- lines_of p w xs   such a line for each item of xs, in order
use Rattle.std.specs.Prelude.{ℕ, List, [], ◌∷◌, Some, Option, codes}
use Rattle.std.specs.Fmt.{◌++?◌}
use Rattle.reports.specs.declared.Outcome.{Outcome}
use Rattle.reports.specs.declared.Outcome.TheVariants.{Matches, Never, Full}
use Rattle.reports.specs.Reports as text
use Rattle.reports.specs.Reports.{matches, never, full}

abbrev pub outcome_of : Outcome → text.Outcome
outcome_of (Matches events) = matches events.now
outcome_of (Never sets) = never sets.now
outcome_of (Full cleared) = full cleared

module _ {T : Type 0} (print : T → Option (List ℕ)) (word : List ℕ) where
  abbrev pub line_of : T → Option (List ℕ)
  line_of x = Some word ++? (Some (codes " ") ++? (print x ++? Some (codes "\n")))

  abbrev pub lines_of : List T → Option (List ℕ)
  lines_of [] = Some []
  lines_of (x ∷ xs) = line_of x ++? lines_of xs
