-- The tests that the inspector asks decide what they are named after. Assumes nothing.
use Rattle.std.proofs.Common.{◌≡◌, ℕ, ◌<◌, Bool, true, false, not, List, is_some, Some, None, Decides, Option, sym, refl, ap, ◌∙◌, inl, inr}
use Rattle.std.specs.List.{slice_get}
use Rattle.std.proofs.lemmas.Bool.{false≢true, cases_lt, not-true, not_from_false}
use Rattle.kinds.specs.Shape.{Shape}
use Rattle.kinds.specs.Laws.{Laws}
use Rattle.kinds.specs.Certificate.{covered}
use Rattle.kinds.proofs.Values.{none_some, none_or_some}
use Rattle.inspector.specs.Inspected.{has_such, uncovered, leads_out, escaping_move}
use Rattle.inspector.specs.Meaning.{Entry, UnfitEntry, UncoveredFirst, GoalEntry, LeadsOut, Escape, Escapable}
use Rattle.inspector.proofs.Leasts.{nowhere, least_place}

the_one : {A : Type 0} (p : A → Bool) (o : Option A) → has_such p o ≡ true → (a : A) × (o ≡ Some a) × (p a ≡ true)
the_one p None h = absurd (false≢true h)
the_one p (Some a) h = (a, refl, h)

decides_not : (b : Bool) → Decides (not b) (b ≡ false)
decides_not b = (not-true b, not_from_false b)

module _ {C : Type 0} (xs : List C) (p : C → Bool) (P : C → Type 0) (decides : (y : C) → Decides (p y) (P y)) where
  -- a test of what stands at a place
  pub entry_decides : (i : ℕ) → Decides (has_such p (slice_get xs i)) (Entry xs P i)
  entry_decides i = (
    (λ h. let r = the_one p (slice_get xs i) h in record { entry = r.0; there = r.1; has = (decides r.0).0 r.2 }),
    (λ e. ap (has_such p) e.there ∙ (decides e.entry).1 e.has),
  )

module _ {C : Type 0} (s : Shape C) (xs : List C) where
  pub unfit_decides : (i : ℕ) → Decides (has_such (λ y. not (s.fits y)) (slice_get xs i)) (UnfitEntry s xs i)
  unfit_decides = entry_decides xs (λ y. not (s.fits y)) (λ y. s.fits y ≡ false) (λ y. decides_not (s.fits y))

  pub uncovered_decides : (i : ℕ) → Decides (has_such (uncovered s xs) (slice_get s.firsts i)) (UncoveredFirst s xs i)
  uncovered_decides = entry_decides s.firsts (uncovered s xs) (λ c. covered s xs c ≡ false) (λ c. decides_not (covered s xs c))

  pub goal_decides : (i : ℕ) → Decides (has_such s.goal (slice_get xs i)) (GoalEntry s xs i)
  goal_decides = entry_decides xs s.goal (λ y. s.goal y ≡ true) (λ y. (λ h. h, λ h. h))

  leads_decides : (k : ℕ) (y : C) → Decides (leads_out s xs k y) (LeadsOut s xs k y)
  leads_decides k y = (
    (λ h. let r = the_one (uncovered s xs) (s.back k y) h in record { to = r.0; leads = r.1; uncovered = not-true (covered s xs r.0) r.2 }),
    (λ e. ap (has_such (uncovered s xs)) e.leads ∙ not_from_false (covered s xs e.to) e.uncovered),
  )

  pub escape_decides : (i k : ℕ) → Decides (has_such (leads_out s xs k) (slice_get xs i)) (Escape s xs i k)
  escape_decides i k = entry_decides xs (leads_out s xs k) (LeadsOut s xs k) (leads_decides k) i

module _ {C : Type 0} (s : Shape C) (laws : Laws s) (xs : List C) where
  -- only moves lead out
  pub escape_below : (i k : ℕ) → Escape s xs i k → k < s.moves
  escape_below i k e = elim (cases_lt k s.moves) [
    | inl l ↦ l
    | inr l ↦ none_some (laws.no_move k e.entry l) e.has.leads
  ]

  pub escapable_decides : (i : ℕ) → Decides (is_some (escaping_move s xs i)) (Escapable s xs i)
  escapable_decides i = elim (none_or_some (escaping_move s xs i)) [
    | inl e ↦ (
      (λ h. absurd (false≢true (ap is_some (sym e) ∙ h))),
      (λ x. absurd (nowhere (λ k. has_such (leads_out s xs k) (slice_get xs i)) (Escape s xs i) (escape_decides s xs i) s.moves (escape_below i) e x.0 x.1)),
    )
    | inr e ↦ (
      (λ h. (e.0, (least_place (λ k. has_such (leads_out s xs k) (slice_get xs i)) (Escape s xs i) (escape_decides s xs i) s.moves (escape_below i) e.0 e.1).here)),
      (λ x. ap is_some e.1),
    )
  ]
