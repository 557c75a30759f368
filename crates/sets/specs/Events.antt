-- Events: sets of signals, each event one number.
--
-- lowered m es   the events with their bits from m up cleared
use Rattle.std.specs.Prelude.{ℕ, ◌%◌, ◌^◌, List, map}

abbrev pub lowered : ℕ → List ℕ → List ℕ
lowered m es = map (λ a. a % 2 ^ m) es
