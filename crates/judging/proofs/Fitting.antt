-- Lists of as many entries as there may be rows hold the sequence and the certificate. Assumes nothing.
use Rattle.std.proofs.Common.{◌≡◌, ℕ, suc, ◌≤◌, Bool, true, false, cond, List, [], ◌∷◌, map, length, take, drop, None, filter, Option, sym, ap, ◌∙◌, inl, inr, arith, length-take}
use lib.ListN.{length-map}
use Rattle.std.specs.List.{slice_get}
use Rattle.std.proofs.lemmas.Option.{slice_get_within}
use Rattle.std.proofs.lemmas.List.{take_at}
use Rattle.std.proofs.lemmas.Bool.{cond-true, cond-false, and_from, eq-eqb, le-ltb}
use Rattle.kinds.specs.Shape.{Shape}
use Rattle.kinds.proofs.Values.{none_or_some}
use Rattle.inspector.specs.Inspected.{if_found}
use Rattle.stores.specs.Holding.{alike}
use Rattle.search.specs.declared.Find.{Find}
use Rattle.search.specs.Search.{length_at}
use Rattle.finds.specs.declared.refusals.Refused.{Refused}
use Rattle.finds.specs.Results.{last_of, sequence_of, certificate_of, Written}
use Rattle.finds.proofs.Intacts.{intact_decides, intact_lengths}
use Rattle.finds.proofs.Walking.{intact_chained, sequence_length}
use Rattle.checks.specs.declared.counts.Counts.{Counts}
use Rattle.checks.specs.Answers.{sequence_asked, certificate_asked}
use Rattle.checks.specs.Calls.{Ready}
use Rattle.checks.proofs.Refusing.{ready_unaltered, ready_kept}

length_kept : {A : Type 0} (p : A → Bool) (xs : List A) → length (filter p xs) ≤ length xs
length_kept p [] = omega arith
length_kept p (x ∷ xs) = let h = length_kept p xs in elim (p x) as (λ b. length (cond b (x ∷ filter p xs) (filter p xs)) ≤ suc (length xs)) [ true ↦ omega arith | false ↦ omega arith ]

-- what was written stands in front
pub front_written : {X : Type 0} (xs : List X) (o : Option Refused) (before after : List X) (n : ℕ) → Written xs o before after n → take n after ≡ xs
front_written xs o before after n w = ap (take n) w.items ∙ take_at xs (drop n before) n (sym w.count)

module _ {C : Type 0} (s : Shape C) (n : Counts) (t : List (Find C)) (h : List C) (l : ℕ) (ready : Ready s n t h l) (m : ℕ) (room : n.finds ≤ m) where
  recorded : length (take n.finds t) ≤ m
  recorded = let a = length-take n.finds t in omega arith

  last_length : length_at (take n.finds t) (last_of (take n.finds t)) ≤ m
  last_length = elim (none_or_some (slice_get (take n.finds t) (last_of (take n.finds t)))) [
    | inl e ↦ let a = ap (λ o. if_found o (λ (z : Find C). z.length) 0) e in omega arith
    | inr y ↦
        let a = ap (λ o. if_found o (λ (z : Find C). z.length) 0) y.1 in
        let b = intact_lengths ready.intact (last_of (take n.finds t)) y.0 y.1 in
        let c = slice_get_within (take n.finds t) (last_of (take n.finds t)) y.0 y.1 in
        omega (arith, recorded)
  ]

  pub sequence_fits : sequence_asked s n t m ≡ None
  sequence_fits =
      let fits : length (sequence_of s (take n.finds t)) ≤ m = omega (arith, sequence_length s (take n.finds t) (intact_chained ready.intact), last_length) in
      cond-true _ _ _ (eq-eqb (length t) n.rows ready.long)
      ∙ cond-true _ _ _ ((intact_decides s n.starts (take n.finds t)).1 ready.intact)
      ∙ cond-false _ _ _ (le-ltb m (length (sequence_of s (take n.finds t))) fits)

  pub certificate_fits : certificate_asked s n t h l m ≡ None
  certificate_fits =
      let fs = take n.finds t in
      let fits : length (certificate_of s h fs) ≤ m = omega (arith, length_kept (alike s h) (map (λ y. y.configuration) fs), length-map fs (λ (y : Find C). y.configuration), recorded) in
      cond-true _ _ _ (and_from _ _ (ready_unaltered s n t h l 0 ready) (ready_kept s n t h l 0 ready))
      ∙ cond-false _ _ _ (le-ltb m (length (certificate_of s h fs)) fits)
