-- Where every row is closed, what is kept of the rows is a certificate, and the inspector passes it. Assumes nothing.
use Rattle.std.proofs.Common.{◌≡◌, ℕ, suc, ◌≤◌, true, false, not, List, map, length, Some, Ok, filter, refl, ap, ◌∙◌, subst, arith}
use lib.ListN.{length-map}
use Rattle.std.specs.List.{slice_get}
use Rattle.std.specs.Option.{option_map}
use Rattle.std.proofs.lemmas.Option.{slice_get_within, slice_get-map}
use Rattle.std.proofs.lemmas.List.Filters.{length-filter_both}
use Rattle.std.proofs.lemmas.Bool.{and_from}
use Rattle.kinds.specs.Shape.{Shape}
use Rattle.kinds.specs.Laws.{Laws}
use Rattle.kinds.specs.Certificate.{covered, Certifies}
use Rattle.kinds.proofs.Covering.{covering_entry, entry_covers}
use Rattle.inspector.specs.declared.answers.Inspection.TheVariants.{Passed}
use Rattle.inspector.specs.Inspected.{max_entries, inspected}
use Rattle.inspector.proofs.Account.{account}
use Rattle.stores.specs.Holding.{alike}
use Rattle.stores.proofs.Equivalents.{entry_alike}
use Rattle.search.specs.declared.Find.{Find}
use Rattle.search.proofs.Entries.{kept_from, kept_in, map_from}
use Rattle.search.proofs.Invariant.{ByRow, Rows, Clear}
use Rattle.search.proofs.Growing.{held_fits}

module _ {C : Type 0} (s : Shape C) (laws : Laws s) (fs : List (Find C)) (h : List C) (rows : Rows s fs h) where
  -- the configurations that are recorded, and those of them that the store still holds
  abbrev recorded : List C
  recorded = map (λ y. y.configuration) fs

  abbrev kept : List C
  kept = filter (alike s h) recorded

  -- each is a row's
  kept_row : (i : ℕ) (x : C) → slice_get kept i ≡ Some x → (j : ℕ) × (y : Find C) × (slice_get fs j ≡ Some y) × (y.configuration ≡ x)
  kept_row i x e =
      let m = kept_from (alike s h) recorded i x e in
      let y = map_from (λ (y : Find C). y.configuration) fs m.0 x m.1 in
      (m.0, y.0, y.1, y.2)

  -- what is held is kept
  held_kept : (i : ℕ) (x : C) → slice_get h i ≡ Some x → (j : ℕ) × (slice_get kept j ≡ Some x)
  held_kept i x e =
      let y = rows.recorded i x e in
      let w = laws.reflexive x (held_fits s fs h rows i x e) in
      kept_in (alike s h) recorded y.0 x
      (slice_get-map (λ (y : Find C). y.configuration) fs y.0 ∙ ap (option_map (λ (y : Find C). y.configuration)) y.2 ∙ ap Some y.3)
      (entry_alike s x h i x e (and_from (s.within x x) (s.within x x) w w))

  -- so what a row covers is covered by what is kept
  row_covered : (n : ℕ) (x : C) → s.fits x ≡ true → ByRow s fs n x → covered s kept x ≡ true
  row_covered n x fx b =
      let m = covering_entry s h b.entry.configuration (rows.covers b.place b.entry b.there) in
      let k = held_kept m.place m.entry m.there in
      entry_covers s kept k.0 x m.entry k.1
      (laws.transitive x b.entry.configuration m.entry fx (rows.fits b.place b.entry b.there) (held_fits s fs h rows m.place m.entry m.there) b.covers m.covers)

  kept_certifies : Clear s fs (length fs) → Certifies s kept
  kept_certifies clear = record {
    fitting = fitting;
    firsts = λ i c e. row_covered 0 c (laws.first_fits i c e) (clear.firsts i c e);
    goals = λ i y e. let m = kept_row i y e in subst (λ (v : C). s.goal v ≡ false) m.3 (clear.goalless m.0 m.1 m.2);
    backs = λ i y k x e b.
        let m = kept_row i y e in
        row_covered (suc m.1.length) x (laws.back_fits k y x (fitting i y e) b)
        (clear.closed m.0 m.1 m.2 (slice_get_within fs m.0 m.1 m.2) k x (ap (s.back k) m.3 ∙ b));
  }
    where
      fitting : (i : ℕ) (y : C) → slice_get kept i ≡ Some y → s.fits y ≡ true
      fitting i y e = let m = kept_row i y e in subst (λ (v : C). s.fits v ≡ true) m.3 (rows.fits m.0 m.1 m.2)

  pub kept_passes : Clear s fs (length fs) → length fs ≤ max_entries → inspected s kept ≡ Ok Passed
  kept_passes clear short =
      let a = length-filter_both (alike s h) (λ x. not (alike s h x)) (λ _. refl) recorded in
      let b = length-map fs (λ (y : Find C). y.configuration) in
      (account s laws kept (inspected s kept) refl).test.1 (omega arith, kept_certifies clear)
