-- A row's length counts its origins, and the moves along them lead back to its configuration from a first one. Assumes nothing.
use Rattle.std.proofs.Common.{◌≡◌, ℕ, zero, suc, ◌<◌, ◌≤◌, List, [], ◌∷◌, length, Some, sym, refl, ap, ◌∙◌, subst, inl, inr, not-suc-le-zero, arith}
use Rattle.std.specs.List.{slice_get}
use Rattle.std.proofs.lemmas.Bool.{cases_lt}
use Rattle.kinds.specs.Shape.{Shape}
use Rattle.kinds.specs.Accepted.{and_then, worked_back, Accepted}
use Rattle.inspector.specs.Inspected.{if_found}
use Rattle.search.specs.declared.Find.{Find}
use Rattle.search.specs.Search.{State, along, last_row_of, moves_back}
use Rattle.search.proofs.Invariant.{Origins, Met, Sound}

module _ {C : Type 0} (s : Shape C) where
  -- no row is longer than there are rows before it
  pub length_within : (fs : List (Find C)) (f : ℕ) → Origins s fs f → (i : ℕ) (y : Find C) → slice_get fs i ≡ Some y → y.length ≤ i
  length_within fs f o i y e = below (suc i) i y e (omega arith)
    where
      below : (n i : ℕ) (y : Find C) → slice_get fs i ≡ Some y → i < n → y.length ≤ i
      below zero i y e l = absurd (not-suc-le-zero l)
      below (suc n) i y e l = elim (cases_lt i f) [
        | inl m ↦ let b = (o.starts i y e m).none in omega arith
        | inr m ↦
            let b = o.came i y e m in
            let c = b.earlier in
            let d = b.longer in
            let g = below n y.origin b.from b.there (omega arith) in
            omega arith
      ]

  -- n moves that lead back to g from a first configuration
  record Leads (ms : List ℕ) (g : C) (n : ℕ) : Type 0 where
    place : ℕ
    first : C
    is_first : slice_get s.firsts place ≡ Some first
    leads : worked_back s ms first ≡ Some g
    long : length ms ≡ n

  along_leads : (fs : List (Find C)) (f : ℕ) → Origins s fs f → (n i : ℕ) (y : Find C) → slice_get fs i ≡ Some y → y.length ≡ n → Leads (along fs n i) y.configuration n
  along_leads fs f o zero i y e l = elim (cases_lt i f) [
    | inl m ↦ let b = o.starts i y e m in record { place = b.place; first = y.configuration; is_first = b.first; leads = refl; long = refl }
    | inr m ↦ let b = (o.came i y e m).longer in absurd (omega arith)
  ]
  along_leads fs f o (suc n) i y e l = elim (cases_lt i f) [
    | inl m ↦ let b = (o.starts i y e m).none in absurd (omega arith)
    | inr m ↦
        let b = o.came i y e m in
        let q = b.longer in
        let w = along_leads fs f o n y.origin b.from b.there (omega arith) in
        subst (λ (ms : List ℕ). Leads ms y.configuration (suc n)) (sym (ap (λ o. if_found o (λ (z : Find C). z.via ∷ along fs n z.origin) []) e)) record {
          place = w.place;
          first = w.first;
          is_first = w.is_first;
          leads = ap (λ o. and_then o (s.back y.via)) w.leads ∙ b.back;
          long = ap suc w.long;
        }
  ]

  -- so where a search ended in MATCHES, its moves are accepted, and they are as many as the goal's length says
  pub met_accepted : (r : ℕ) (t : State C) → Sound s r t → (m : Met s t) → Accepted s (moves_back t) × (length (moves_back t) ≡ m.entry.length)
  met_accepted r t sound m =
      let w = subst (λ o. Leads (along t.finds (if_found o (λ (y : Find C). y.length) 0) (last_row_of t)) m.entry.configuration m.entry.length) (sym m.there)
      (along_leads t.finds t.starts sound.origins m.entry.length (last_row_of t) m.entry m.there refl) in
      (record { place = w.place; first = w.first; end = m.entry.configuration; is_first = w.is_first; leads = w.leads; is_goal = m.goal }, w.long)
