-- Opening leads to a sound search. Assumes nothing.
use Rattle.std.proofs.Common.{◌≡◌, ℕ, ◌+◌, ◌≤◌, true, false, ltb, List, [], ◌∷◌, ◌++◌, length, Some, None, sym, refl, ap, ◌∙◌, subst, append_assoc, append-nil, not-suc-le-zero, arith}
use Rattle.std.specs.List.{slice_get}
use Rattle.std.proofs.lemmas.Option.{slice_get_within}
use Rattle.kinds.proofs.Lists.{nth_right, nth_seam}
use Rattle.std.proofs.lemmas.Bool.{cond_both, ltb-true, ltb-false}
use Rattle.kinds.specs.Shape.{Shape}
use Rattle.kinds.specs.Laws.{Laws}
use Rattle.kinds.specs.Certificate.{covered}
use Rattle.kinds.proofs.Values.{none_some}
use Rattle.stores.specs.Holding.{inserted}
use Rattle.search.specs.declared.Find.{Find}
use Rattle.search.specs.declared.Verdict.TheVariants.{Matches, Never}
use Rattle.search.specs.Search.{start, never_past, begun, opening, opened}
use Rattle.search.proofs.Entries.{Each, one_longer, last_entry, each_more}
use Rattle.search.proofs.Invariant.{ByRow, Origins, Rows, Clear, Stage, Sound}
use Rattle.search.proofs.Growing.{by_row, by_row_still, origins_start, rows_more}

module _ {C : Type 0} (s : Shape C) (laws : Laws s) (r : ℕ) where
  -- the first configurations ds were taken, and cs are still to be
  record Taken (ds cs : List C) (fs : List (Find C)) (h : List C) : Type 0 where
    firsts : s.firsts ≡ ds ++ cs
    rows : Rows s fs h
    origins : Origins s fs (length fs)
    taken : Each (ByRow s fs 0) ds
    goalless : Each (λ y. s.goal y.configuration ≡ false) fs
    room : length fs + length cs ≤ r

  none_long : (fs : List (Find C)) → Origins s fs (length fs) → Each (λ y. y.length ≤ 0) fs
  none_long fs o i y e = let n = (o.starts i y e (slice_get_within fs i y e)).none in omega arith

  module _ (ds : List C) (c : C) (cs : List C) (fs : List (Find C)) (h : List C) (t : Taken ds (c ∷ cs) fs h) where
    next_firsts : s.firsts ≡ (ds ++ c ∷ []) ++ cs
    next_firsts = t.firsts ∙ sym (append_assoc ds (c ∷ []) cs)

    is_first : slice_get s.firsts (length ds + 0) ≡ Some c
    is_first = ap (λ zs. slice_get zs (length ds + 0)) t.firsts ∙ nth_right ds (c ∷ cs) 0

    fits : s.fits c ≡ true
    fits = laws.first_fits (length ds + 0) c is_first

    passed : covered s h c ≡ true → Taken (ds ++ c ∷ []) cs fs h
    passed k = record {
      firsts = next_firsts;
      rows = t.rows;
      origins = t.origins;
      taken = each_more (ByRow s fs 0) ds c t.taken (by_row s fs h t.rows 0 (none_long fs t.origins) c k);
      goalless = t.goalless;
      room = let m = t.room in omega arith;
    }

    module _ (new : covered s h c ≡ false) where
      more_rows : Rows s (fs ++ start c ∷ []) (inserted s c h)
      more_rows = rows_more s laws fs h t.rows (start c) fits new (none_long fs t.origins)

      more_origins : Origins s (fs ++ start c ∷ []) (length (fs ++ start c ∷ []))
      more_origins = origins_start s fs (start c) t.origins record { none = refl; place = length ds + 0; first = is_first }

      recorded : s.goal c ≡ false → Taken (ds ++ c ∷ []) cs (fs ++ start c ∷ []) (inserted s c h)
      recorded g = record {
        firsts = next_firsts;
        rows = more_rows;
        origins = more_origins;
        taken = each_more (ByRow s (fs ++ start c ∷ []) 0) ds c (λ i d e. by_row_still s fs (start c) 0 d (t.taken i d e))
            record { place = length fs; entry = start c; there = nth_seam fs (start c); short = omega arith; covers = laws.reflexive c fits };
        goalless = each_more (λ y. s.goal y.configuration ≡ false) fs (start c) t.goalless g;
        room = let m = t.room in let n = one_longer fs (start c) in omega arith;
      }

      met : s.goal c ≡ true → Sound s r (begun (fs ++ start c ∷ []) (inserted s c h) (Some Matches))
      met g =
          let m = t.room in
          let n = one_longer fs (start c) in
          record {
            rows = more_rows;
            origins = more_origins;
            starts = omega arith;
            begins = λ l. l;
            room = omega arith;
            stage = record { entry = start c; there = last_entry fs (start c); goal = g; shortest = λ ms _. omega arith; here = omega arith; counted = omega arith };
          }

  ended : (ds : List C) (fs : List (Find C)) (h : List C) → Taken ds [] fs h → Sound s r (begun fs h (never_past fs 0))
  ended ds fs h t = record {
    rows = t.rows;
    origins = t.origins;
    starts = omega arith;
    begins = λ l. l;
    room = let m = t.room in omega arith;
    stage = cond_both (ltb 0 (length fs)) None (Some Never) (Stage s (begun fs h (never_past fs 0)))
        (λ l. record {
          clear = clear;
          here = ltb-true 0 (length fs) l;
          near = λ y e i z q. let n = none_long fs t.origins i z q in omega arith;
          counted = omega arith;
        })
        (λ l. let m = ltb-false 0 (length fs) l in record { clear = clear; past = omega arith; counted = omega arith });
  }
    where
      clear : Clear s fs 0
      clear = record {
        firsts = subst (Each (ByRow s fs 0)) (sym (t.firsts ∙ append-nil ds)) t.taken;
        closed = λ i y e l. absurd (not-suc-le-zero l);
        goalless = t.goalless;
      }

  opening_sound : (ds cs : List C) (fs : List (Find C)) (h : List C) → Taken ds cs fs h → Sound s r (opening s cs fs h)
  opening_sound ds [] fs h t = ended ds fs h t
  opening_sound ds (c ∷ cs) fs h t = cond_both (covered s h c) _ _ (Sound s r)
      (λ k. opening_sound (ds ++ c ∷ []) cs fs h (passed ds c cs fs h t k))
      (λ k. cond_both (s.goal c) _ _ (Sound s r)
      (met ds c cs fs h t k)
      (λ g. opening_sound (ds ++ c ∷ []) cs (fs ++ start c ∷ []) (inserted s c h) (recorded ds c cs fs h t k g)))

  pub opened_sound : length s.firsts ≤ r → Sound s r (opened s)
  unfolding opened
  opened_sound room = opening_sound [] s.firsts [] [] record {
    firsts = refl;
    rows = record {
      fits = λ i y e. none_some refl e;
      ascends = λ i j x y l e f. none_some refl e;
      covers = λ i y e. none_some refl e;
      recorded = λ i y e. none_some refl e;
      apart = λ i j x y n e f. none_some refl e;
      size = omega arith;
    };
    origins = record { starts = λ i y e l. none_some refl e; came = λ i y e l. none_some refl e };
    taken = λ i c e. none_some refl e;
    goalless = λ i y e. none_some refl e;
    room = omega arith;
  }
