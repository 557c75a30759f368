-- What is held after an insertion: where it comes from, how much it is, what it covers, and that none is within another. Assumes nothing.
use Rattle.std.proofs.Common.{◌≡◌, ℕ, zero, suc, ◌<◌, ◌≤◌, Bool, true, false, cond, ◌||◌, ltb, ◌⊎◌, List, [], ◌∷◌, ◌++◌, length, Some, Ok, Err, Result, sym, refl, ap, ◌∙◌, subst, inl, inr, ⊎_elim, arith, length-append}
use Rattle.std.specs.List.{slice_get}
use Rattle.std.proofs.lemmas.Bool.{ltb-true, both_ways, cond_both, or_cases, or_left, or_right}
use Rattle.kinds.specs.Shape.{Shape}
use Rattle.kinds.specs.Laws.{Laws}
use Rattle.kinds.specs.Certificate.{covered}
use Rattle.kinds.proofs.Values.{none_some, false_if_not_true}
use Rattle.kinds.proofs.Covering.{covering_entry, entry_covers, covered_append}
use Rattle.stores.specs.Holding.{Reordered, Apart, dropped, inserted, alike}
use Rattle.stores.specs.declared.refusals.Refused.{Refused}
use Rattle.stores.specs.declared.refusals.Refused.TheVariants.{Covered, Full}
use Rattle.stores.specs.Admission.{admitted}
use Rattle.stores.specs.Growth.{Fitting}
use Rattle.stores.proofs.Reorderings.{apart_reordered}

-- an entry of two lists joined is an entry of either
append_from : {X : Type 0} (xs ys : List X) (i : ℕ) (v : X) → slice_get (xs ++ ys) i ≡ Some v → ((j : ℕ) × (slice_get xs j ≡ Some v)) ⊎ ((j : ℕ) × (slice_get ys j ≡ Some v))
append_from [] ys i v e = inr (i, e)
append_from (x ∷ xs) ys zero v e = inl (0, e)
append_from (x ∷ xs) ys (suc i) v e = ⊎_elim (λ (m : (j : ℕ) × (slice_get xs j ≡ Some v)). inl (suc m.0, m.1)) inr (append_from xs ys i v e)

-- the entry of a list of one
only_entry : {X : Type 0} (x v : X) (i : ℕ) → slice_get (x ∷ []) i ≡ Some v → v ≡ x
only_entry x v zero e = cc
only_entry x v (suc i) e = none_some refl e

module _ {C : Type 0} (s : Shape C) where
  -- ---- none within another

  pub apart_none : Apart s []
  apart_none i j x y n e f = none_some refl e

  pub apart_head : (x : C) (ys : List C) → Apart s (x ∷ ys) → (j : ℕ) (y : C) → slice_get ys j ≡ Some y → (s.within x y ≡ false) × (s.within y x ≡ false)
  apart_head x ys a j y e = (a 0 (suc j) x y (λ n. omega arith) refl e, a (suc j) 0 y x (λ n. omega arith) e refl)

  pub apart_tail : (x : C) (ys : List C) → Apart s (x ∷ ys) → Apart s ys
  apart_tail x ys a i j y z n = a (suc i) (suc j) y z (λ m. n (omega arith))

  pub apart_cons : (x : C) (ys : List C) → ((j : ℕ) (y : C) → slice_get ys j ≡ Some y → (s.within x y ≡ false) × (s.within y x ≡ false)) → Apart s ys → Apart s (x ∷ ys)
  apart_cons x ys h a zero zero y z n e f = absurd (n refl)
  apart_cons x ys h a zero (suc j) y z n e f = let q : x ≡ y = cc in subst (λ (v : C). s.within v z ≡ false) q (h j z f).0
  apart_cons x ys h a (suc i) zero y z n e f = let q : x ≡ z = cc in subst (λ (v : C). s.within y v ≡ false) q (h i y e).1
  apart_cons x ys h a (suc i) (suc j) y z n e f = a i j y z (λ m. n (ap suc m)) e f

  module _ (x : C) where
    -- ---- where it comes from

    dropped_from : (h : List C) (i : ℕ) (y : C) → slice_get (dropped s x h) i ≡ Some y → (j : ℕ) × (slice_get h j ≡ Some y)
    dropped_from [] i y e = (i, e)
    dropped_from (v ∷ vs) i y e = cond_both (s.within v x) (dropped s x vs) (v ∷ dropped s x vs)
        (λ zs. (i : ℕ) → slice_get zs i ≡ Some y → (j : ℕ) × (slice_get (v ∷ vs) j ≡ Some y))
        (λ _ i e. let m = dropped_from vs i y e in (suc m.0, m.1)) (λ _. kept (λ i. dropped_from vs i y)) i e
      where
        kept : ((i : ℕ) → slice_get (dropped s x vs) i ≡ Some y → (j : ℕ) × (slice_get vs j ≡ Some y)) → (i : ℕ) → slice_get (v ∷ dropped s x vs) i ≡ Some y → (j : ℕ) × (slice_get (v ∷ vs) j ≡ Some y)
        kept rest zero e = (0, e)
        kept rest (suc i) e = let m = rest i e in (suc m.0, m.1)

    -- each was held before, or is x
    pub inserted_from : (h : List C) (i : ℕ) (y : C) → slice_get (inserted s x h) i ≡ Some y → ((j : ℕ) × (slice_get h j ≡ Some y)) ⊎ (y ≡ x)
    inserted_from h i y e = ⊎_elim
        (λ (m : (j : ℕ) × (slice_get (dropped s x h) j ≡ Some y)). inl (dropped_from h m.0 y m.1))
        (λ (m : (j : ℕ) × (slice_get (x ∷ []) j ≡ Some y)). inr (only_entry x y m.0 m.1))
        (append_from (dropped s x h) (x ∷ []) i y e)

    -- ---- how much it is

    dropped_length : (h : List C) → length (dropped s x h) ≤ length h
    dropped_length [] = omega arith
    dropped_length (y ∷ ys) =
        let m = dropped_length ys in
        cond_both (s.within y x) (dropped s x ys) (y ∷ dropped s x ys) (λ zs. length zs ≤ suc (length ys)) (λ _. omega arith) (λ _. omega arith)

    -- at most one more
    pub inserted_length : (h : List C) → length (inserted s x h) ≤ suc (length h)
    inserted_length h = let m = dropped_length h in simp length-append (omega arith)

    -- ---- none within another

    -- where none was within another and x is not covered, none is within another after it
    pub inserted_apart : (h : List C) → covered s h x ≡ false → Apart s h → Apart s (inserted s x h)
    inserted_apart [] u a = apart_cons x [] (λ j y e. none_some refl e) apart_none
    inserted_apart (y ∷ ys) u a =
        let rest : covered s ys x ≡ false = false_if_not_true (covered s ys x) (λ t. both_ways (s.within x y || covered s ys x) u (or_right (s.within x y) (covered s ys x) t)) in
        let here : s.within x y ≡ false = false_if_not_true (s.within x y) (λ t. both_ways (s.within x y || covered s ys x) u (or_left (s.within x y) (covered s ys x) t)) in
        let after = inserted_apart ys rest (apart_tail y ys a) in
        cond_both (s.within y x) (dropped s x ys) (y ∷ dropped s x ys) (λ zs. Apart s (zs ++ x ∷ []))
        (λ _. after)
        (λ t. apart_cons y (inserted s x ys) (λ j z e. ⊎_elim
        (λ (m : (k : ℕ) × (slice_get ys k ≡ Some z)). apart_head y ys a m.0 z m.1)
        (λ (q : z ≡ x). (ap (s.within y) q ∙ t, ap (λ (v : C). s.within v y) q ∙ here))
        (inserted_from ys j z e)) after)

    -- ---- what it covers

    -- all that x covers
    pub inserted_covers : (h : List C) (z : C) → s.within z x ≡ true → covered s (inserted s x h) z ≡ true
    inserted_covers h z w =
        covered_append s (dropped s x h) (x ∷ []) z
        ∙ or_right (covered s (dropped s x h) z) (covered s (x ∷ []) z) (or_left (s.within z x) false w)

    -- x itself
    pub inserted_itself : Laws s → s.fits x ≡ true → (h : List C) → covered s (inserted s x h) x ≡ true
    inserted_itself laws f h = inserted_covers h x (laws.reflexive x f)

    -- nothing but what was covered and what x covers
    pub inserted_covers_only : (h : List C) (z : C) → covered s (inserted s x h) z ≡ true → (s.within z x || covered s h z) ≡ true
    inserted_covers_only h z c =
        let e = covering_entry s (inserted s x h) z c in
        ⊎_elim
        (λ (m : (j : ℕ) × (slice_get h j ≡ Some e.entry)). or_right (s.within z x) (covered s h z) (entry_covers s h m.0 z e.entry m.1 e.covers))
        (λ (q : e.entry ≡ x). or_left (s.within z x) (covered s h z) (sym (ap (s.within z) q) ∙ e.covers))
        (inserted_from h e.place e.entry e.there)

    -- and x is held
    pub inserted_alike : Laws s → s.fits x ≡ true → (h : List C) → alike s (inserted s x h) x ≡ true
    inserted_alike laws f h = at_end (dropped s x h)
      where
        at_end : (ys : List C) → alike s (ys ++ x ∷ []) x ≡ true
        at_end [] = let r = laws.reflexive x f in rw r
        at_end (y ∷ ys) = or_right _ (alike s (ys ++ x ∷ []) x) (at_end ys)

    module _ (laws : Laws s) (fx : s.fits x ≡ true) (z : C) (fz : s.fits z ≡ true) where
      -- what was covered and is not covered by x is covered by what is kept
      kept_covers : (h : List C) → Fitting s h → covered s h z ≡ true → (s.within z x ≡ true) ⊎ (covered s (dropped s x h) z ≡ true)
      kept_covers [] fit c = inr c
      kept_covers (y ∷ ys) fit c = ⊎_elim
          (λ (w : s.within z y ≡ true). cond_both (s.within y x) (dropped s x ys) (y ∷ dropped s x ys) (λ zs. (s.within z x ≡ true) ⊎ (covered s zs z ≡ true))
          (λ t. inl (laws.transitive z y x fz (fit 0 y refl) fx w t))
          (λ _. inr (or_left (s.within z y) (covered s (dropped s x ys) z) w)))
          (λ (m : covered s ys z ≡ true). ⊎_elim inl
          (λ (k : covered s (dropped s x ys) z ≡ true). inr (cond_both (s.within y x) (dropped s x ys) (y ∷ dropped s x ys) (λ zs. covered s zs z ≡ true)
          (λ _. k) (λ _. or_right (s.within z y) (covered s (dropped s x ys) z) k)))
          (kept_covers ys (λ i. fit (suc i)) m))
          (or_cases (s.within z y) (covered s ys z) c)

      -- what was covered is covered after an insertion
      pub inserted_keeps : (h : List C) → Fitting s h → covered s h z ≡ true → covered s (inserted s x h) z ≡ true
      inserted_keeps h fit c = ⊎_elim
          (inserted_covers h z)
          (λ (k : covered s (dropped s x h) z ≡ true). covered_append s (dropped s x h) (x ∷ []) z ∙ or_left (covered s (dropped s x h) z) (covered s (x ∷ []) z) k)
          (kept_covers h fit c)

-- ---- an insertion that was admitted

verdict : (b c : Bool) → ◌≡◌ {A = Result (Unit {0}) Refused} (Ok tt) (cond b (Err Covered) (cond c (Ok tt) (Err Full))) → (b ≡ false) × (c ≡ true)
verdict true c e = let z : ◌≡◌ {A = ℕ} 0 1 = cc in absurd (omega arith)
verdict false true e = (refl, refl)
verdict false false e = let z : ◌≡◌ {A = ℕ} 0 1 = cc in absurd (omega arith)

module _ {C : Type 0} (s : Shape C) (x : C) (h : List C) (n : ℕ) (e : Ok tt ≡ admitted s x h n) where
  -- what is admitted was not covered, and there was room for it
  pub admitted_new : (covered s h x ≡ false) × (length h < n)
  admitted_new = let v = verdict (covered s h x) (ltb (length h) n) e in (v.0, ltb-true (length h) n v.1)

  -- and none is within another after it, if none was before
  pub admitted_apart : (h' : List C) → Reordered (inserted s x h) h' → Apart s h → Apart s h'
  admitted_apart h' r a = apart_reordered s r (inserted_apart s x h admitted_new.0 a)
