-- What a store covers once a configuration was put in or found covered: what it covered, and what that one covers. Assumes nothing.
use Rattle.std.proofs.Common.{◌≡◌, ℕ, Bool, true, false, ◌||◌, List, Some, sym, refl, ap, ◌∙◌, inl, ⊎_elim, arith}
use Rattle.std.specs.List.{slice_get}
use Rattle.std.proofs.lemmas.Bool.{or_cases, or_right}
use Rattle.kinds.specs.Shape.{Shape}
use Rattle.kinds.specs.Laws.{Laws}
use Rattle.kinds.specs.Certificate.{covered}
use Rattle.kinds.proofs.Values.{false_if_not_true}
use Rattle.kinds.proofs.Covering.{covered_within}
use Rattle.stores.specs.Holding.{Reordered, inserted, alike}
use Rattle.stores.specs.Growth.{Grows}
use Rattle.stores.proofs.Reorderings.{reordered_length, reordered_entry, covered_reordered, alike_reordered}
use Rattle.stores.proofs.Insertions.{inserted_itself, inserted_from, inserted_length, inserted_covers, inserted_covers_only, inserted_keeps, inserted_alike}

-- two tests that follow from each other come out alike
same_test : (a b : Bool) → (a ≡ true → b ≡ true) → (b ≡ true → a ≡ true) → a ≡ b
same_test true b f g = sym (f refl)
same_test false b f g = sym (false_if_not_true b (λ t. absurd (let z : false ≡ true = g t in let n : ◌≡◌ {A = ℕ} 0 1 = cc in omega arith)))

module _ {C : Type 0} (s : Shape C) (laws : Laws s) (x : C) (h : List C) where
  -- where x was put in
  pub grown_inserted : (h' : List C) → Reordered (inserted s x h) h' → Grows s x h h'
  grown_inserted h' r fit fx = record {
    itself = sym (covered_reordered s x r) ∙ inserted_itself s x laws fx h;
    keeps = keeps;
    exactly = λ z fz. same_test (covered s h' z) (s.within z x || covered s h z)
        (λ t. inserted_covers_only s x h z (covered_reordered s z r ∙ t))
        (λ t. ⊎_elim (λ (w : s.within z x ≡ true). sym (covered_reordered s z r) ∙ inserted_covers s x h z w) (keeps z fz) (or_cases (s.within z x) (covered s h z) t));
    from = λ i y e. let m = reordered_entry r i y e in inserted_from s x h m.0 y m.1;
    fitting = λ i y e.
        let m = reordered_entry r i y e in
        ⊎_elim (λ (k : (j : ℕ) × (slice_get h j ≡ Some y)). fit k.0 y k.1) (λ (q : y ≡ x). ap s.fits q ∙ fx) (inserted_from s x h m.0 y m.1);
    one_more = omega (arith, reordered_length r, inserted_length s x h);
  }
    where
      keeps : (z : C) → s.fits z ≡ true → covered s h z ≡ true → covered s h' z ≡ true
      keeps z fz t = sym (covered_reordered s z r) ∙ inserted_keeps s x laws fx z fz h fit t

  -- where x was covered already
  pub grown_covered : covered s h x ≡ true → Grows s x h h
  grown_covered c fit fx = record {
    itself = c;
    keeps = λ z fz t. t;
    exactly = λ z fz. same_test (covered s h z) (s.within z x || covered s h z)
        (or_right (s.within z x) (covered s h z))
        (λ t. ⊎_elim (λ (w : s.within z x ≡ true). covered_within s laws h fit z x fz fx w c) (λ (k : covered s h z ≡ true). k) (or_cases (s.within z x) (covered s h z) t));
    from = λ i y e. inl (i, e);
    fitting = fit;
    one_more = omega arith;
  }

  -- what was put in is held
  pub put_alike : (h' : List C) → Reordered (inserted s x h) h' → s.fits x ≡ true → alike s h' x ≡ true
  put_alike h' r fx = sym (alike_reordered s x r) ∙ inserted_alike s x laws fx h
