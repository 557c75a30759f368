-- What a machine sends: walks along its arrows, one arrow for each event.
--
-- admits t a       arrow t admits event a: a AND the mask equals the value
-- Agrees t a       the value is inside the mask, and every signal of the mask is on in a exactly if the value has it
-- Walks M es s t   arrows lead from state s to state t, one for each of the events es and admitting it
-- Sends M es       they lead from the start to an end state
use Rattle.std.specs.Prelude.{◌≡◌, ℕ, ◌<◌, Bool, true, List, [], ◌∷◌, length, ◌==◌, bit_and}
use Rattle.sets.specs.Sets.{has, Within}
use Rattle.models.specs.declared.arrow.Arrow.{Arrow}
use Rattle.models.specs.Machine.{Machine, arrow}

abbrev pub admits : Arrow → ℕ → Bool
admits t a = bit_and a t.mask == t.value

abbrev pub Agrees : Arrow → ℕ → Type 0
Agrees t a = Within t.value t.mask × ((q : ℕ) → has t.mask q ≡ true → has a q ≡ has t.value q)

pub data Walks (M : Machine) : List ℕ → ℕ → ℕ → Type 0 where
  done : {s : ℕ} → Walks M [] s s
  step : {a s t : ℕ} {es : List ℕ} (i : ℕ) → i < length M.arrows → (arrow M i).from ≡ s → admits (arrow M i) a ≡ true
      → Walks M es (arrow M i).to t → Walks M (a ∷ es) s t

abbrev pub Sends : Machine → List ℕ → Type 0
Sends M es = (t : ℕ) × Walks M es M.start t × (has M.ends t ≡ true)
