-- One more row, and its configuration put into the store. Assumes nothing.
use Rattle.std.proofs.Common.{◌≡◌, ℕ, ◌≤◌, true, false, ◌⊎◌, List, [], ◌∷◌, ◌++◌, length, Some, sym, ap, ◌∙◌, subst, inl, inr, ⊎_elim, arith}
use Rattle.std.specs.List.{slice_get}
use Rattle.std.proofs.lemmas.Option.{slice_get_within}
use Rattle.kinds.proofs.Lists.{nth_seam}
use Rattle.kinds.specs.Shape.{Shape}
use Rattle.kinds.specs.Laws.{Laws}
use Rattle.kinds.specs.Certificate.{covered}
use Rattle.kinds.proofs.Covering.{covering_entry}
use Rattle.stores.specs.Holding.{inserted}
use Rattle.stores.proofs.Insertions.{inserted_from, inserted_length, inserted_apart, inserted_itself, inserted_keeps}
use Rattle.search.specs.declared.Find.{Find}
use Rattle.search.proofs.Entries.{Each, one_longer, earlier_entry, either_entry, each_more}
use Rattle.search.proofs.Invariant.{ByRow, Start, Came, Origins, Rows}

module _ {C : Type 0} (s : Shape C) where
  -- what is held fits
  pub held_fits : (fs : List (Find C)) (h : List C) → Rows s fs h → Each (λ x. s.fits x ≡ true) h
  held_fits fs h rows i x e = let m = rows.recorded i x e in subst (λ (v : C). s.fits v ≡ true) m.3 (rows.fits m.0 m.1 m.2)

  -- what the store covers, a row covers
  pub by_row : (fs : List (Find C)) (h : List C) → Rows s fs h → (n : ℕ) → Each (λ y. y.length ≤ n) fs → (x : C) → covered s h x ≡ true → ByRow s fs n x
  by_row fs h rows n short x c =
      let m = covering_entry s h x c in
      let y = rows.recorded m.place m.entry m.there in
      record { place = y.0; entry = y.1; there = y.2; short = short y.0 y.1 y.2; covers = ap (s.within x) y.3 ∙ m.covers }

  module _ (fs : List (Find C)) (y : Find C) where
    pub by_row_still : (n : ℕ) (x : C) → ByRow s fs n x → ByRow s (fs ++ y ∷ []) n x
    by_row_still n x b = record { place = b.place; entry = b.entry; there = earlier_entry fs (y ∷ []) b.place b.entry b.there; short = b.short; covers = b.covers }

    came_still : (i : ℕ) (z : Find C) → Came s fs i z → Came s (fs ++ y ∷ []) i z
    came_still i z b = record { from = b.from; there = earlier_entry fs (y ∷ []) z.origin b.from b.there; earlier = b.earlier; longer = b.longer; move = b.move; back = b.back }

    -- with a start more
    pub origins_start : Origins s fs (length fs) → Start s y → Origins s (fs ++ y ∷ []) (length (fs ++ y ∷ []))
    origins_start o b = record {
      starts = λ i z e _. each_more (Start s) fs y (λ j v e. o.starts j v e (slice_get_within fs j v e)) b i z e;
      came = λ i z e l. let m = slice_get_within (fs ++ y ∷ []) i z e in absurd (omega arith);
    }

    -- with a row more that came from an earlier one
    pub origins_came : (f : ℕ) → f ≤ length fs → Origins s fs f → Came s fs (length fs) y → Origins s (fs ++ y ∷ []) f
    origins_came f l o b = record {
      starts = λ i z e m. ⊎_elim (λ (q : slice_get fs i ≡ Some z). o.starts i z q m) (λ (q : (i ≡ length fs) × (y ≡ z)). let p = q.0 in absurd (omega arith)) (either_entry fs y i z e);
      came = λ i z e m. ⊎_elim
          (λ (q : slice_get fs i ≡ Some z). came_still i z (o.came i z q m))
          (λ (q : (i ≡ length fs) × (y ≡ z)). came_still i z (subst (Came s fs i) q.1 (subst (λ (n : ℕ). Came s fs n y) (sym q.0) b)))
          (either_entry fs y i z e);
    }

  -- with a row more that fits, is new and is no shorter than the others
  pub rows_more :
      Laws s → (fs : List (Find C)) (h : List C) → Rows s fs h → (y : Find C)
      → s.fits y.configuration ≡ true → covered s h y.configuration ≡ false → Each (λ z. z.length ≤ y.length) fs
      → Rows s (fs ++ y ∷ []) (inserted s y.configuration h)
  rows_more laws fs h rows y fy new short = record {
    fits = each_more (λ z. s.fits z.configuration ≡ true) fs y rows.fits fy;
    ascends = λ i j u v l a b. order i j u v l (either_entry fs y i u a) (either_entry fs y j v b);
    covers = each_more (λ z. covered s (inserted s x h) z.configuration ≡ true) fs y
        (λ i z e. inserted_keeps s x laws fy z.configuration (rows.fits i z e) h (held_fits fs h rows) (rows.covers i z e))
        (inserted_itself s x laws fy h);
    recorded = λ i v e. whence v (inserted_from s x h i v e);
    apart = inserted_apart s x h new rows.apart;
    size = let a = inserted_length s x h in let b = one_longer fs y in let c = rows.size in omega arith;
  }
    where
      x : C
      x = y.configuration

      order : (i j : ℕ) (u v : Find C) → i ≤ j → (slice_get fs i ≡ Some u) ⊎ ((i ≡ length fs) × (y ≡ u)) → (slice_get fs j ≡ Some v) ⊎ ((j ≡ length fs) × (y ≡ v)) → u.length ≤ v.length
      order i j u v l (inl a) (inl b) = rows.ascends i j u v l a b
      order i j u v l (inl a) (inr b) = subst (λ (w : Find C). u.length ≤ w.length) b.1 (short i u a)
      order i j u v l (inr a) (inl b) = let m = slice_get_within fs j v b in let q = a.0 in absurd (omega arith)
      order i j u v l (inr a) (inr b) = let q = ap (λ (w : Find C). w.length) (sym a.1 ∙ b.1) in omega arith

      whence : (v : C) → ((j : ℕ) × (slice_get h j ≡ Some v)) ⊎ (v ≡ x) → (j : ℕ) × (z : Find C) × (slice_get (fs ++ y ∷ []) j ≡ Some z) × (z.configuration ≡ v)
      whence v (inl m) = let r = rows.recorded m.0 v m.1 in (r.0, r.1, earlier_entry fs (y ∷ []) r.0 r.1 r.2, r.3)
      whence v (inr q) = (length fs, y, nth_seam fs y, sym q)
