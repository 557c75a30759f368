-- Tables that are as a search leaves them: the test decides it, it bounds lengths, it lasts, and searches have it. Assumes nothing.
use Rattle.std.proofs.Common.{◌≡◌, ℕ, zero, suc, ◌+◌, ◌<◌, ◌≤◌, Bool, true, ◌&&◌, eqb, ltb, List, [], ◌∷◌, ◌++◌, length, drop, Some, Decides, sym, refl, ap, ◌∙◌, add-zero, add-one, zero-add, inl, inr, not-suc-le-zero, arith}
use Rattle.std.proofs.Math.Bool.{and-true, and_comm, and_assoc}
use Rattle.std.specs.List.{slice_get, list_all, enumerate_from}
use Rattle.std.proofs.lemmas.Option.{slice_get_within}
use Rattle.std.proofs.lemmas.Bool.{cases_lt, cond-true, cond-false, lt-ltb, le-ltb, ltb-true, eqb-true, eq-eqb, and_parts, and_from}
use Rattle.std.proofs.lemmas.Bool.Decides.{Decides-below_and}
use Rattle.kinds.specs.Shape.{Shape}
use Rattle.kinds.proofs.Searches.{entry_at}
use Rattle.inspector.specs.Inspected.{has_such, if_found}
use Rattle.search.specs.declared.Find.{Find}
use Rattle.search.specs.Search.{State, length_at}
use Rattle.search.proofs.Entries.{earlier_entry, either_entry}
use Rattle.search.proofs.Invariant.{Sound}
use Rattle.finds.specs.Intact.{Follows, Intact, came_after, stands_in_place, intact_before, intact}

-- the length of a row that is there
pub length_read : {C : Type 0} (fs : List (Find C)) (i : ℕ) (y : Find C) → slice_get fs i ≡ Some y → length_at fs i ≡ y.length
length_read {C} fs i y e = ap (λ o. if_found o (λ (z : Find C). z.length) 0) e

-- the first entry behind some others, and what stands behind it
read_drop : {X : Type 0} (i : ℕ) (xs : List X) (y : X) (ys : List X) → drop i xs ≡ y ∷ ys → (slice_get xs i ≡ Some y) × (drop (suc i) xs ≡ ys)
read_drop zero [] y ys e = absurd (cc)
read_drop zero (x ∷ xs) y ys e = (cc, cc)
read_drop (suc i) [] y ys e = absurd (cc)
read_drop (suc i) (x ∷ xs) y ys e = read_drop i xs y ys e

module _ {C : Type 0} (s : Shape C) (f : ℕ) (fs : List (Find C)) where
  -- ---- the test decides it

  -- a row that is there follows an earlier one exactly if the test says so
  follows_decides : (i : ℕ) (y : Find C) → i < length fs → Decides (came_after s fs i y) (Follows s fs i y)
  follows_decides i y l = (
    (λ t.
        let p = and_parts (ltb y.origin i) (eqb y.length (suc (length_at fs y.origin)) && ltb y.via s.moves) t in
        let q = and_parts (eqb y.length (suc (length_at fs y.origin))) (ltb y.via s.moves) p.1 in
        let o : y.origin < i = ltb-true y.origin i p.0 in
        let z = entry_at fs y.origin (omega arith) in
        record {
          from = z.0;
          there = z.1;
          earlier = o;
          longer = eqb-true y.length (suc (length_at fs y.origin)) q.0 ∙ ap suc (length_read fs y.origin z.0 z.1);
          move = ltb-true y.via s.moves q.1;
        }),
    (λ r.
        and_from _ _ (lt-ltb y.origin i r.earlier)
        (and_from _ _ (eq-eqb y.length (suc (length_at fs y.origin)) (r.longer ∙ ap suc (sym (length_read fs y.origin r.from r.there))))
        (lt-ltb y.via s.moves r.move))),
  )

  -- each row before n is in place exactly if the test says so
  before_decides : (n : ℕ) → Decides (intact_before s f fs n) ((k : ℕ) → k < n → has_such (stands_in_place s f fs k) (slice_get fs k) ≡ true)
  unfolding intact_before
  before_decides = Decides-below_and (λ k. has_such (stands_in_place s f fs k) (slice_get fs k)) (λ k. has_such (stands_in_place s f fs k) (slice_get fs k) ≡ true) (intact_before s f fs) (λ k. (λ h. h, λ h. h)) refl (λ _. refl)

  -- a row that is in place, by the test
  in_place : intact s f fs ≡ true → (i : ℕ) (y : Find C) → slice_get fs i ≡ Some y → stands_in_place s f fs i y ≡ true
  in_place t i y e = sym (ap (has_such (stands_in_place s f fs i)) e) ∙ (before_decides (length fs)).0 t i (slice_get_within fs i y e)

  -- and what it is to be in place
  placed : Intact s f fs → (i : ℕ) (y : Find C) → slice_get fs i ≡ Some y → stands_in_place s f fs i y ≡ true
  placed h i y e = elim (cases_lt i f) [
    | inl m ↦ cond-true (ltb i f) (eqb y.length 0) (came_after s fs i y) (lt-ltb i f m) ∙ eq-eqb y.length 0 (h.starts i y e m)
    | inr m ↦ cond-false (ltb i f) (eqb y.length 0) (came_after s fs i y) (le-ltb i f m) ∙ (follows_decides i y (slice_get_within fs i y e)).1 (h.follows i y e m)
  ]

  pub intact_decides : Decides (intact s f fs) (Intact s f fs)
  intact_decides = (
    (λ t. record {
      starts = λ i y e m. eqb-true y.length 0 (sym (cond-true (ltb i f) (eqb y.length 0) (came_after s fs i y) (lt-ltb i f m)) ∙ in_place t i y e);
      follows = λ i y e m. (follows_decides i y (slice_get_within fs i y e)).0 (sym (cond-false (ltb i f) (eqb y.length 0) (came_after s fs i y) (le-ltb i f m)) ∙ in_place t i y e);
    }),
    (λ h. (before_decides (length fs)).1 (λ k l.
        let y = entry_at fs k l in
        ap (has_such (stands_in_place s f fs k)) y.1 ∙ placed h k y.0 y.1)),
  )

  -- the question of every row from row i on, where b says that those before it are in place
  rows_from : (i : ℕ) (ys : List (Find C)) (b : Bool) → drop i fs ≡ ys → b ≡ intact_before s f fs i
      → (b && list_all (λ (p : ℕ × Find C). stands_in_place s f fs p.0 p.1) (enumerate_from i ys)) ≡ intact_before s f fs (i + length ys)
  unfolding intact_before
  rows_from i [] b e t = and-true b ∙ t ∙ ap (intact_before s f fs) (sym (add-zero i))
  rows_from i (y ∷ ys) b e t =
      let r = read_drop i fs y ys e in
      let here = stands_in_place s f fs i y in
      let rest = list_all (λ (p : ℕ × Find C). stands_in_place s f fs p.0 p.1) (enumerate_from (i + 1) ys) in
      let d : drop (i + 1) fs ≡ ys = rw add-one r.1 in
      let more : (b && here) ≡ intact_before s f fs (i + 1) =
      rw add-one (and_comm b here ∙ ap (λ c. here && c) t ∙ ap (λ o. has_such (stands_in_place s f fs i) o && intact_before s f fs i) (sym r.0)) in
      let n : i + 1 + length ys ≡ i + suc (length ys) = omega arith in
      sym (and_assoc b here rest) ∙ rows_from (i + 1) ys (b && here) d more ∙ ap (intact_before s f fs) n

  -- so all rows are in place exactly if each is, one after the other
  pub intact_all : list_all (λ (p : ℕ × Find C). stands_in_place s f fs p.0 p.1) (enumerate_from 0 fs) ≡ intact s f fs
  unfolding intact_before
  intact_all = rows_from 0 fs true refl refl ∙ ap (intact_before s f fs) (zero-add (length fs))

module _ {C : Type 0} {s : Shape C} where
  -- ---- what it gives

  -- no row is longer than there are rows before it
  pub intact_lengths : {f : ℕ} {fs : List (Find C)} → Intact s f fs → (i : ℕ) (y : Find C) → slice_get fs i ≡ Some y → y.length ≤ i
  intact_lengths {f} {fs} h i y e = below (suc i) i y e (omega arith)
    where
      below : (n i : ℕ) (y : Find C) → slice_get fs i ≡ Some y → i < n → y.length ≤ i
      below zero i y e l = absurd (not-suc-le-zero l)
      below (suc n) i y e l = elim (cases_lt i f) [
        | inl m ↦ let b = h.starts i y e m in omega arith
        | inr m ↦
            let b = h.follows i y e m in
            let c = b.earlier in
            let d = b.longer in
            let g = below n y.origin b.from b.there (omega arith) in
            omega arith
      ]

  -- ---- it lasts

  -- a row that follows an earlier one does so whatever is recorded behind
  follows_more : (fs gs : List (Find C)) (i : ℕ) (y : Find C) → Follows s fs i y → Follows s (fs ++ gs) i y
  follows_more fs gs i y r = record { from = r.from; there = earlier_entry fs gs y.origin r.from r.there; earlier = r.earlier; longer = r.longer; move = r.move }

  pub intact_more : {f : ℕ} {fs : List (Find C)} → Intact s f fs → f ≤ length fs → (y : Find C) → Follows s fs (length fs) y → Intact s f (fs ++ y ∷ [])
  intact_more {f} {fs} h l y r = record {
    starts = λ i z e m. elim (either_entry fs y i z e) [
      | inl a ↦ h.starts i z a m
      | inr a ↦ let q = a.0 in absurd (omega arith)
    ];
    follows = λ i z e m. elim (either_entry fs y i z e) [
      | inl a ↦ follows_more fs (y ∷ []) i z (h.follows i z a m)
      | inr a ↦ let q = a.0 in let p = a.1 in rw (q, ← p) (follows_more fs (y ∷ []) (length fs) y r)
    ];
  }

  -- ---- searches have it

  pub sound_intact : {r : ℕ} {t : State C} → Sound s r t → Intact s t.starts t.finds
  sound_intact sound = record {
    starts = λ i y e m. (sound.origins.starts i y e m).none;
    follows = λ i y e m.
        let c = sound.origins.came i y e m in
        record { from = c.from; there = c.there; earlier = c.earlier; longer = c.longer; move = c.move };
  }
