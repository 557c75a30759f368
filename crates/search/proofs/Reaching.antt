-- What few moves lead back to is covered by a short row, so an accepted list of moves is longer than row e. Assumes nothing.
use Rattle.std.proofs.Common.{◌≡◌, ℕ, ◌<◌, ◌≤◌, List, [], ◌∷◌, length, Some, subst, inl, inr, arith}
use Rattle.std.specs.List.{slice_get}
use Rattle.std.proofs.lemmas.Bool.{cases_lt, both_ways}
use Rattle.kinds.specs.Shape.{Shape}
use Rattle.kinds.specs.Laws.{Laws}
use Rattle.kinds.specs.Accepted.{worked_back, Accepted}
use Rattle.kinds.proofs.Values.{from_value}
use Rattle.kinds.proofs.Certificates.{worked_fits}
use Rattle.search.specs.declared.Find.{Find}
use Rattle.search.proofs.Invariant.{ByRow, Rows, Clear}

module _ {C : Type 0} (s : Shape C) (laws : Laws s) (fs : List (Find C)) (h : List C) (rows : Rows s fs h) (e : ℕ) (clear : Clear s fs e) (o : Find C) (there : slice_get fs e ≡ Some o) where
  -- a row shorter than row e stands before it
  before : (i : ℕ) (y : Find C) → slice_get fs i ≡ Some y → y.length < o.length → i < e
  before i y q l = elim (cases_lt i e) [
    | inl m ↦ m
    | inr m ↦ let a = rows.ascends e i o y m there q in absurd (omega arith)
  ]

  reached : (ms : List ℕ) (i : ℕ) (c g : C) → slice_get s.firsts i ≡ Some c → worked_back s ms c ≡ Some g → length ms ≤ o.length → ByRow s fs (length ms) g
  reached [] i c g q w l = let p : c ≡ g = cc in subst (ByRow s fs 0) p (clear.firsts i c q)
  reached (k ∷ ms) i c g q w l =
      let y = from_value (worked_back s ms c) (s.back k) g w in
      let fy = worked_fits s laws ms i c y.0 q y.1 in
      let z = reached ms i c y.0 q y.1 (omega arith) in
      let fz = rows.fits z.place z.entry z.there in
      let x = laws.back_covered k y.0 z.entry.configuration g fy fz z.covers y.2 in
      let m = clear.closed z.place z.entry z.there (before z.place z.entry z.there (omega (arith, z.short))) k x.0 x.1 in
      record {
        place = m.place;
        entry = m.entry;
        there = m.there;
        short = omega (arith, m.short, z.short);
        covers = laws.transitive g x.0 m.entry.configuration
            (laws.back_fits k y.0 g fy y.2) (laws.back_fits k z.entry.configuration x.0 fz x.1) (rows.fits m.place m.entry m.there)
            x.2 m.covers;
      }

  pub accepted_longer : (ms : List ℕ) → Accepted s ms → o.length < length ms
  accepted_longer ms a = elim (cases_lt o.length (length ms)) [
    | inl l ↦ l
    | inr l ↦
        let z = reached ms a.place a.first a.end a.is_first a.leads l in
        let fg = worked_fits s laws ms a.place a.first a.end a.is_first a.leads in
        absurd (both_ways (s.goal z.entry.configuration) (clear.goalless z.place z.entry z.there)
        (laws.goal_covered a.end z.entry.configuration fg (rows.fits z.place z.entry z.there) z.covers a.is_goal))
  ]
