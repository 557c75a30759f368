-- One step of a machine backwards.
--
-- leads a d q t        arrow t admits event a, and leads from state q into the set d
-- any_leads a d q ts   some arrow of ts does
-- sources ts a d       the states from which an arrow of ts that admits a leads into d, of the 64 that a set has room for
use Rattle.std.specs.Prelude.{ℕ, Bool, false, ◌&&◌, ◌||◌, List, [], ◌∷◌, ◌==◌}
use Rattle.sets.specs.Sets.{has, set_of}
use Rattle.models.specs.declared.arrow.Arrow.{Arrow}
use Rattle.models.specs.Sent.{admits}

abbrev pub leads : ℕ → ℕ → ℕ → Arrow → Bool
leads a d q t = (admits t a && has d t.to) && q == t.from

abbrev pub any_leads : ℕ → ℕ → ℕ → List Arrow → Bool
any_leads a d q [] = false
any_leads a d q (t ∷ ts) = leads a d q t || any_leads a d q ts

abbrev pub sources : List Arrow → ℕ → ℕ → ℕ
sources ts a d = set_of (λ q. any_leads a d q ts) 64
