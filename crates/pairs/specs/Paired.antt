-- What a call leaves and answers that puts B without A into the caller's tables.
--
-- pair_heading_of B A   all of B without A but its tables, and how long these are
-- Paired B A ..         the whole promise of such a call
use Rattle.std.specs.Prelude.{◌≡◌, ℕ, ◌+◌, cond, List, is_ok, IfOk, Some, None, Option, Result, MatchResult}
use Rattle.patterns.specs.declared.row.Row.{Row}
use Rattle.patterns.specs.Automaton.{Automaton}
use Rattle.patterns.specs.Questions.{judged}
use Rattle.files.specs.declared.heading.Heading.{Heading}
use Rattle.files.specs.Fronts.{fronts_of}
use Rattle.files.specs.Layout.{fronted}
use Rattle.duals.specs.Complement.{Separates}
use Rattle.duals.specs.Without.{without, row_count_of, state_count_of}

abbrev pub pair_heading_of : Automaton → Automaton → Heading
pair_heading_of B A = record {
  states = state_count_of B A + 1;
  signals = (without B A).signals;
  start = (without B A).start;
  rows = row_count_of B A + 1;
  finals = (without B A).finals;
}

-- fault is the first question answered no, r the answer, roots and rows the caller's tables before the call, and roots' and
-- rows' the same after it
pub record Paired {X : Type 0} (B A : Automaton) (fault : Option X) (r : Result Heading X)
    (roots roots' : List ℕ) (rows rows' : List Row) : Type 0 where
  -- the answer is the heading, or the fault
  pub cases : MatchResult r (λ h. (fault ≡ None) × (h ≡ pair_heading_of B A)) (λ f. fault ≡ Some f)
  -- the tables have B without A in front and are as they were behind it; a refusal leaves them as they were
  pub roots_after : roots' ≡ cond (is_ok r) (fronted (without B A).roots roots) roots
  pub rows_after : rows' ≡ cond (is_ok r) (fronted (without B A).rows rows) rows
  -- so heading and tables together are B without A, which is a pattern
  pub tables : IfOk r (λ h. fronts_of h roots' rows' ≡ without B A)
  pub pattern : IfOk r (λ _. judged (without B A) ≡ None)
  -- it accepts the sequences that B accepts and A does not, and no others
  pub separated : IfOk r (λ _. Separates B A)
