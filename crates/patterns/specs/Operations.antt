-- The numbers that stand for the operations of rows in a table.
--
-- code o        the number of operation o
-- Decodes n r   r is the operation whose number is n, or the error that holds n, which is the number of none
use Rattle.std.specs.Prelude.{◌≡◌, ℕ, ◌<◌, Result, MatchResult}
use Rattle.patterns.specs.declared.row.Operation.{Operation}
use Rattle.patterns.specs.declared.row.Operation.TheVariants.{False, True, State, Signal, And, Or, Not}
use Rattle.patterns.specs.declared.row.UnknownOperation.{UnknownOperation}

abbrev pub code : Operation → ℕ
code False = 0
code True = 1
code State = 2
code Signal = 3
code And = 4
code Or = 5
code Not = 6

abbrev pub Decodes : ℕ → Result Operation UnknownOperation → Type 0
Decodes n r = MatchResult r (λ o. code o ≡ n) (λ e. (e.0 ≡ n) × (6 < n))
