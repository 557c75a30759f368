-- Where a list certifies, nothing is accepted: what a list of moves leads back to from a first configuration is covered, and no goal is. Assumes nothing.
use Rattle.std.proofs.Common.{◌≡◌, ℕ, true, List, [], ◌∷◌, Some, subst}
use Rattle.std.specs.List.{slice_get}
use Rattle.std.proofs.lemmas.Bool.{both_ways}
use Rattle.kinds.specs.Shape.{Shape}
use Rattle.kinds.specs.Laws.{Laws}
use Rattle.kinds.specs.Accepted.{worked_back, Accepted}
use Rattle.kinds.specs.Certificate.{covered, Certifies, CertificatesSound}
use Rattle.kinds.proofs.Values.{from_value}
use Rattle.kinds.proofs.Covering.{covering_entry, covered_within}

module _ {C : Type 0} (s : Shape C) (laws : Laws s) where
  -- what a list of moves leads back to from a first configuration fits
  pub worked_fits : (ms : List ℕ) (i : ℕ) (c g : C) → slice_get s.firsts i ≡ Some c → worked_back s ms c ≡ Some g → s.fits g ≡ true
  worked_fits [] i c g e w = let q : c ≡ g = cc in subst (λ (v : C). s.fits v ≡ true) q (laws.first_fits i c e)
  worked_fits (k ∷ ms) i c g e w =
      let y = from_value (worked_back s ms c) (s.back k) g w in
      laws.back_fits k y.0 g (worked_fits ms i c y.0 e y.1) y.2

  -- and a list that certifies covers it
  pub worked_covered : (xs : List C) → Certifies s xs → (ms : List ℕ) (i : ℕ) (c g : C) → slice_get s.firsts i ≡ Some c → worked_back s ms c ≡ Some g → covered s xs g ≡ true
  worked_covered xs cert [] i c g e w = let q : c ≡ g = cc in subst (λ (v : C). covered s xs v ≡ true) q (cert.firsts i c e)
  worked_covered xs cert (k ∷ ms) i c g e w =
      let y = from_value (worked_back s ms c) (s.back k) g w in
      let fy = worked_fits ms i c y.0 e y.1 in
      let z = covering_entry s xs y.0 (worked_covered xs cert ms i c y.0 e y.1) in
      let fz = cert.fitting z.place z.entry z.there in
      let x = laws.back_covered k y.0 z.entry g fy fz z.covers y.2 in
      covered_within s laws xs cert.fitting g x.0
      (laws.back_fits k y.0 g fy y.2) (laws.back_fits k z.entry x.0 fz x.1) x.2
      (cert.backs z.place z.entry k x.0 z.there x.1)

  none_accepted : (xs : List C) → Certifies s xs → (ms : List ℕ) → Accepted s ms → ⊥
  none_accepted xs cert ms a =
      let fg = worked_fits ms a.place a.first a.end a.is_first a.leads in
      let z = covering_entry s xs a.end (worked_covered xs cert ms a.place a.first a.end a.is_first a.leads) in
      both_ways (s.goal z.entry) (cert.goals z.place z.entry z.there)
      (laws.goal_covered a.end z.entry fg (cert.fitting z.place z.entry z.there) z.covers a.is_goal)

  pub certificates_sound : CertificatesSound s
  certificates_sound xs cert = record {
    no_moves = none_accepted xs cert;
    no_events = λ es a. none_accepted xs cert a.moves a.accepted;
  }
