-- What an automaton accepts: runs of configurations, each a set of states.
--
-- Step A a c d     under event a every state of c has its condition met by d
-- Leads A es c d   steps under the events es lead from c to d
-- Accepted A es    they lead from the start state alone to a subset of the final states
use Rattle.std.specs.Prelude.{◌≡◌, ℕ, ◌^◌, ◌<◌, true, List, [], ◌∷◌}
use Rattle.sets.specs.Sets.{has, Within}
use Rattle.patterns.specs.Automaton.{Automaton, states, root}
use Rattle.patterns.specs.Values.{value}

abbrev pub Step : Automaton → ℕ → ℕ → ℕ → Type 0
Step A a c d = (q : ℕ) → has c q ≡ true → (q < states A) × (value A a d (root A q) ≡ true)

pub data Leads (A : Automaton) : List ℕ → ℕ → ℕ → Type 0 where
  done : {c : ℕ} → Leads A [] c c
  step : {a : ℕ} {es : List ℕ} {c d e : ℕ} → Step A a c d → Leads A es d e → Leads A (a ∷ es) c e

abbrev pub Accepted : Automaton → List ℕ → Type 0
Accepted A es = (d : ℕ) × Leads A es (2 ^ A.start) d × Within d A.finals
