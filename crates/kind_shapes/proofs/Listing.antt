-- The members of a set, listed in ascending order: each is listed, and nothing else.
use Rattle.std.proofs.Common.{◌≡◌, ℕ, zero, suc, ◌+◌, ◌<◌, ◌≤◌, Bool, true, false, cond, ◌⊎◌, List, [], ◌∷◌, ◌++◌, length, Some, refl, sym, ap, ◌∙◌, subst, inl, inr, ⊎_elim, add-one, append_assoc, arith}
use Rattle.std.specs.List.{slice_get, filter, range_with_len}
use Rattle.std.proofs.lemmas.Option.{slice_get_within}
use Rattle.kinds.proofs.Lists.{nth_left, nth_seam}
use Rattle.std.proofs.lemmas.List.{append-nil}
use Rattle.std.proofs.lemmas.Bool.{cases_Bool, cases_eq, cond-true, cond-false}
use Rattle.sets.specs.Sets.{has}
use Rattle.kinds.proofs.Values.{none_some}
use Rattle.kind_shapes.specs.Shapes.{members}

-- what stands in a list with one entry more, or none more, stood there before or is that entry
last_or_before : (xs : List ℕ) (b : Bool) (n i q : ℕ) → slice_get (xs ++ cond b (n ∷ []) []) i ≡ Some q
    → (slice_get xs i ≡ Some q) ⊎ ((b ≡ true) × (q ≡ n))
last_or_before [] true n zero q e = inr (refl, cc)
last_or_before [] true n (suc i) q e = none_some refl e
last_or_before [] false n i q e = none_some refl e
last_or_before (x ∷ xs) b n zero q e = inl e
last_or_before (x ∷ xs) b n (suc i) q e = last_or_before xs b n i q e

module _ (c : ℕ) where
  -- one number more is asked: it is listed last, or the list stays
  members_more : (n : ℕ) → has c n ≡ true → members c (suc n) ≡ members c n ++ n ∷ []
  unfolding members
  members_more n e = ap (λ (b : Bool). members c n ++ cond b (n ∷ []) []) e

  members_skip : (n : ℕ) → has c n ≡ false → members c (suc n) ≡ members c n
  unfolding members
  members_skip n e = ap (λ (b : Bool). members c n ++ cond b (n ∷ []) []) e ∙ append-nil (members c n)

  -- what is listed stays where it is
  member_stays : (n i q : ℕ) → slice_get (members c n) i ≡ Some q → slice_get (members c (suc n)) i ≡ Some q
  unfolding members
  member_stays n i q e =
      nth_left (members c n) (cond (has c n) (n ∷ []) []) i (slice_get_within (members c n) i q e) ∙ e

  -- and so it is listed there below every limit above
  member_lasts : (n i q : ℕ) → slice_get (members c n) i ≡ Some q → (k : ℕ) → n ≤ k → slice_get (members c k) i ≡ Some q
  member_lasts n i q e zero l = let z : n ≡ 0 = omega arith in subst (λ (j : ℕ). slice_get (members c j) i ≡ Some q) z e
  member_lasts n i q e (suc k) l = ⊎_elim
      (λ (z : n ≡ suc k). subst (λ (j : ℕ). slice_get (members c j) i ≡ Some q) z e)
      (λ (z : n ≡ suc k → ⊥). member_stays k i q (member_lasts n i q e k (omega arith)))
      (cases_eq n (suc k))

  -- a member is listed, at the place that is the number of members below it
  pub member_listed : (n q : ℕ) → q < n → has c q ≡ true → slice_get (members c n) (length (members c q)) ≡ Some q
  member_listed n q l e =
      member_lasts (suc q) (length (members c q)) q
      (ap (λ (xs : List ℕ). slice_get xs (length (members c q))) (members_more q e) ∙ nth_seam (members c q) q)
      n (omega arith)

  -- and what is listed is a member
  pub listed_member : (n i q : ℕ) → slice_get (members c n) i ≡ Some q → (q < n) × (has c q ≡ true)
  unfolding members
  listed_member zero i q e = none_some refl e
  listed_member (suc n) i q e = ⊎_elim
      (λ (before : slice_get (members c n) i ≡ Some q). let r = listed_member n i q before in (omega (arith, r.0), r.1))
      (λ (last : (has c n ≡ true) × (q ≡ n)). (omega (arith, last.1), ap (has c) last.1 ∙ last.0))
      (last_or_before (members c n) (has c n) n i q e)

  -- to list the members is to keep of the numbers those that the set holds
  listed_from : (a n : ℕ) → members c (a + n) ≡ members c a ++ filter (has c) (range_with_len a n)
  listed_from a zero = let z : a + 0 ≡ a = omega arith in ap (members c) z ∙ sym (append-nil (members c a))
  listed_from a (suc n) =
      let rest = filter (has c) (range_with_len (a + 1) n) in
      let e : a + suc n ≡ a + 1 + n = omega arith in
      let next : members c (a + suc n) ≡ members c (suc a) ++ rest =
      ap (members c) e ∙ listed_from (a + 1) n ∙ ap (λ (k : ℕ). members c k ++ rest) (add-one a) in
      ⊎_elim
      (λ (t : has c a ≡ true). next ∙ ap (λ (xs : List ℕ). xs ++ rest) (members_more a t) ∙ append_assoc (members c a) (a ∷ []) rest
      ∙ ap (λ (xs : List ℕ). members c a ++ xs) (sym (cond-true (has c a) (a ∷ rest) rest t)))
      (λ (t : has c a ≡ false). next ∙ ap (λ (xs : List ℕ). xs ++ rest) (members_skip a t)
      ∙ ap (λ (xs : List ℕ). members c a ++ xs) (sym (cond-false (has c a) (a ∷ rest) rest t)))
      (cases_Bool (has c a))

  pub listed : (n : ℕ) → filter (has c) (range_with_len 0 n) ≡ members c n
  unfolding members
  listed n = let z : 0 + n ≡ n = omega arith in sym (listed_from 0 n) ∙ ap (members c) z
