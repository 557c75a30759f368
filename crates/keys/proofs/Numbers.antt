-- Numbers among others, and the states that a set has not. Assumes nothing.
use Rattle.std.proofs.Common.{◌≡◌, ℕ, zero, suc, ◌^◌, ◌<◌, ◌≤◌, Bool, true, false, cond, not, ◌&&◌, ◌||◌, eqb, ltb, List, [], ◌∷◌, ◌++◌, length, Some, None, Option, MatchOption, Decides, sym, refl, ap, ◌∙◌, ⊎_elim, arith}
use Rattle.std.proofs.lemmas.Bool.{cases_Bool, cases_eq, cases_lt, both_ways, false≢true, and_parts, and_from, or_cases, or_left, or_right, eqb-true, eq-eqb, ne_eqb, lt-ltb, le-ltb, not_from_false}
use Rattle.std.proofs.lemmas.List.{length-append, append-nil}
use Rattle.std.proofs.lemmas.List.Elements.{filter-append}
use Rattle.sets.specs.Sets.{has, union, one}
use Rattle.sets.proofs.Members.{has_set_of, same_set, union_one}
use Rattle.std.specs.Bool.{then_some}
use Rattle.keys.specs.declared.key.Key.{Key}
use Rattle.keys.specs.Listed.{leading, numbers}
use Rattle.keys.specs.Numbers.{among, contained, without, rest, none, missing}

or_assoc : (x y z : Bool) → (x || (y || z)) ≡ ((x || y) || z)
or_assoc true y z = refl
or_assoc false y z = refl

pub or_no : (x : Bool) → (x || false) ≡ x
or_no true = refl
or_no false = refl

pub among_append : (n : ℕ) (v w : List ℕ) → among n (v ++ w) ≡ (among n v || among n w)
among_append n [] w = refl
among_append n (m ∷ v) w = ap (λ b. eqb n m || b) (among_append n v w) ∙ or_assoc (eqb n m) (among n v) (among n w)

-- a list is contained in another exactly if each of its numbers is in it
pub contained_from : (w v : List ℕ) → ((n : ℕ) → among n w ≡ true → among n v ≡ true) → contained w v ≡ true
contained_from [] v h = refl
contained_from (m ∷ w) v h = and_from (among m v) (contained w v)
    (h m (or_left (eqb m m) (among m w) (eq-eqb m m refl)))
    (contained_from w v (λ n e. h n (or_right (eqb n m) (among n w) e)))

pub contained_at : (w v : List ℕ) → contained w v ≡ true → (n : ℕ) → among n w ≡ true → among n v ≡ true
contained_at [] v c n e = absurd (false≢true e)
contained_at (m ∷ w) v c n e =
    let a = and_parts (among m v) (contained w v) c in
    ⊎_elim
    (λ (h : eqb n m ≡ true). ap (λ (k : ℕ). among k v) (eqb-true n m h) ∙ a.0)
    (λ (h : among n w ≡ true). contained_at w v a.1 n h)
    (or_cases (eqb n m) (among n w) e)

pub decides_contained : (w v : List ℕ) → Decides (contained w v) ((n : ℕ) → among n w ≡ true → among n v ≡ true)
decides_contained w v = (contained_at w v, contained_from w v)

-- ---- what is left once numbers are taken away

pub rest_nil : (v : List ℕ) → rest v [] ≡ v
rest_nil [] = refl
rest_nil (m ∷ v) = ap (λ z. m ∷ z) (rest_nil v)

-- one number more is taken away
pub rest_more : (v w : List ℕ) (n : ℕ) → rest v (w ++ n ∷ []) ≡ without n (rest v w)
rest_more [] w n = refl
rest_more (m ∷ v) w n = step (rest_more v w n) (among m w) refl
  where
    split : among m (w ++ n ∷ []) ≡ (among m w || eqb m n)
    split = among_append m w (n ∷ []) ∙ ap (λ b. among m w || b) (or_no (eqb m n))

    step : rest v (w ++ n ∷ []) ≡ without n (rest v w) → (b : Bool) → among m w ≡ b → rest (m ∷ v) (w ++ n ∷ []) ≡ without n (rest (m ∷ v) w)
    step before true e =
        let f : among m (w ++ n ∷ []) ≡ true = split ∙ ap (λ b. b || eqb m n) e in
        ap (λ b. cond (not b) (m ∷ rest v (w ++ n ∷ [])) (rest v (w ++ n ∷ []))) f ∙ before
        ∙ sym (ap (λ b. without n (cond (not b) (m ∷ rest v w) (rest v w))) e)
    step before false e =
        let f : among m (w ++ n ∷ []) ≡ eqb m n = split ∙ ap (λ b. b || eqb m n) e in
        ap (λ b. cond (not b) (m ∷ rest v (w ++ n ∷ [])) (rest v (w ++ n ∷ []))) f
        ∙ ap (λ z. cond (not (eqb m n)) (m ∷ z) z) before
        ∙ sym (ap (λ b. without n (cond (not b) (m ∷ rest v w) (rest v w))) e)

-- nothing is left exactly if all were taken away
pub rest_none : (v w : List ℕ) → none (rest v w) ≡ contained v w
rest_none [] w = refl
rest_none (m ∷ v) w = step (rest_none v w) (among m w)
  where
    step : none (rest v w) ≡ contained v w → (b : Bool) → none (cond (not b) (m ∷ rest v w) (rest v w)) ≡ (b && contained v w)
    step before true = before
    step before false = refl

-- ---- the states that a set has not

module _ (c : ℕ) where
  pub missing_none : missing c 0 ≡ []
  unfolding missing
  missing_none = refl

  pub missing_more : (n : ℕ) → has c n ≡ false → missing c (suc n) ≡ missing c n ++ n ∷ []
  unfolding missing
  missing_more n e = ap (λ (b : Bool). missing c n ++ cond b [] (n ∷ [])) e

  pub missing_skip : (n : ℕ) → has c n ≡ true → missing c (suc n) ≡ missing c n
  unfolding missing
  missing_skip n e = ap (λ (b : Bool). missing c n ++ cond b [] (n ∷ [])) e ∙ append-nil (missing c n)

  -- no more than there are
  pub missing_length : (n : ℕ) → length (missing c n) ≤ n
  missing_length zero = omega (arith, ap length missing_none)
  missing_length (suc n) = ⊎_elim
      (λ (e : has c n ≡ true). omega (arith, ap length (missing_skip n e), missing_length n))
      (λ (e : has c n ≡ false). omega (arith, ap length (missing_more n e), length-append (missing c n) (n ∷ []), missing_length n))
      (cases_Bool (has c n))

  -- they are the states below n that it has not
  pub among_missing : (n q : ℕ) → among q (missing c n) ≡ (ltb q n && not (has c q))
  among_missing zero q = ap (among q) missing_none ∙ sym (ap (λ b. b && not (has c q)) (le-ltb q 0 (omega arith)))
  among_missing (suc n) q = ⊎_elim
      (λ (e : q ≡ n). ⊎_elim
      (λ (h : has c n ≡ true). ap (among q) (missing_skip n h) ∙ among_missing n q
      ∙ ap (λ b. ltb q n && not b) (ap (has c) e ∙ h) ∙ and_false (ltb q n) ∙ sym (and_false (ltb q (suc n))) ∙ sym (ap (λ b. ltb q (suc n) && not b) (ap (has c) e ∙ h)))
      (λ (h : has c n ≡ false). ap (among q) (missing_more n h) ∙ among_append q (missing c n) (n ∷ [])
      ∙ or_right (among q (missing c n)) (eqb q n || false) (or_left (eqb q n) false (eq-eqb q n e))
      ∙ sym (and_from (ltb q (suc n)) (not (has c q)) (lt-ltb q (suc n) (omega arith)) (not_from_false (has c q) (ap (has c) e ∙ h))))
      (cases_Bool (has c n)))
      (λ (e : q ≡ n → ⊥). smaller e (has c n) refl ∙ among_missing n q ∙ ap (λ b. b && not (has c q)) (same_test e))
      (cases_eq q n)
    where
      and_false : (x : Bool) → (x && false) ≡ false
      and_false true = refl
      and_false false = refl

      same_test : (q ≡ n → ⊥) → ltb q n ≡ ltb q (suc n)
      same_test e = ⊎_elim
          (λ (l : q < n). lt-ltb q n l ∙ sym (lt-ltb q (suc n) (omega arith)))
          (λ (l : n ≤ q). le-ltb q n l ∙ sym (le-ltb q (suc n) (omega arith)))
          (cases_lt q n)

      smaller : (q ≡ n → ⊥) → (b : Bool) → has c n ≡ b → among q (missing c (suc n)) ≡ among q (missing c n)
      smaller e true h = ap (among q) (missing_skip n h)
      smaller e false h =
          ap (among q) (missing_more n h) ∙ among_append q (missing c n) (n ∷ [])
          ∙ ap (λ b. among q (missing c n) || b) (ap (λ b. b || false) (ne_eqb q n e)) ∙ or_no (among q (missing c n))

-- a state added is one that is not missing
pub missing_added : (c m n : ℕ) → n ≤ 64 → missing (union c (one m)) n ≡ without m (missing c n)
missing_added c m zero l = missing_none (union c (one m)) ∙ sym (ap (without m) (missing_none c))
missing_added c m (suc n) l =
    let here : has (union c (one m)) n ≡ (has c n || eqb n m) = ap (λ (k : ℕ). has k n) (union_one c m) ∙ has_set_of (λ q. has c q || eqb q m) 64 n (omega arith) in
    let before = missing_added c m n (omega arith) in
    ⊎_elim
    (λ (h : has c n ≡ true).
    missing_skip (union c (one m)) n (here ∙ or_left (has c n) (eqb n m) h) ∙ before ∙ sym (ap (without m) (missing_skip c n h)))
    (λ (h : has c n ≡ false). ⊎_elim
    (λ (e : eqb n m ≡ true).
    missing_skip (union c (one m)) n (here ∙ or_right (has c n) (eqb n m) e) ∙ before
    ∙ sym (ap (without m) (missing_more c n h) ∙ filter-append (λ k. not (eqb k m)) (missing c n) (n ∷ [])
    ∙ ap (λ b. without m (missing c n) ++ cond (not b) (n ∷ []) []) e ∙ append-nil (without m (missing c n))))
    (λ (e : eqb n m ≡ false).
    missing_more (union c (one m)) n (here ∙ ap (λ b. b || eqb n m) h ∙ e) ∙ ap (λ z. z ++ n ∷ []) before
    ∙ sym (ap (without m) (missing_more c n h) ∙ filter-append (λ k. not (eqb k m)) (missing c n) (n ∷ [])
    ∙ ap (λ b. without m (missing c n) ++ cond (not b) (n ∷ []) []) e))
    (cases_Bool (eqb n m)))
    (cases_Bool (has c n))

-- only the set of all 64 states has them all
all_states : missing 18446744073709551615 64 ≡ []
unfolding missing
all_states = refl

none_is : (w : List ℕ) → none w ≡ true → w ≡ []
none_is [] e = refl
none_is (n ∷ w) e = absurd (false≢true e)

held_where : (c q : ℕ) → q < 64 → missing c 64 ≡ [] → has c q ≡ true
held_where c q l e = ⊎_elim
    (λ (h : has c q ≡ true). h)
    (λ (h : has c q ≡ false). absurd (false≢true (sym (ap (among q) e) ∙ among_missing c 64 q ∙ and_from (ltb q 64) (not (has c q)) (lt-ltb q 64 l) (not_from_false (has c q) h))))
    (cases_Bool (has c q))

pub none_missing : (c : ℕ) → c < 2 ^ 64 → eqb c 18446744073709551615 ≡ none (missing c 64)
none_missing c l = ⊎_elim
    (λ (h : none (missing c 64) ≡ true).
    eq-eqb c 18446744073709551615 (same_set 64 c 18446744073709551615 l (omega arith) (λ q k. held_where c q k (none_is (missing c 64) h) ∙ sym (held_where 18446744073709551615 q k all_states))) ∙ sym h)
    (λ (h : none (missing c 64) ≡ false). ⊎_elim
    (λ (e : c ≡ 18446744073709551615). absurd (both_ways (none (missing c 64)) h (ap (λ k. none (missing k 64)) e ∙ ap none all_states)))
    (λ (e : c ≡ 18446744073709551615 → ⊥). ne_eqb c 18446744073709551615 e ∙ sym h)
    (cases_eq c 18446744073709551615))
    (cases_Bool (none (missing c 64)))

-- a key is empty exactly if no number leads it and its set is all 64 states
pub none_numbers : (k : Key) → k.set < 2 ^ 64 → k.lead ≡ None → eqb k.set 18446744073709551615 ≡ none (numbers k)
none_numbers k l e = none_missing k.set l ∙ sym (ap (λ o. none (leading o ++ missing k.set 64)) e)

-- a number is taken away from what leads, and from the states
pub numbers_without : (o p : Option ℕ) (c d n : ℕ) → MatchOption o (p ≡ None) (λ m. p ≡ then_some (not (eqb m n)) m) → d ≡ union c (one n)
    → leading p ++ missing d 64 ≡ without n (leading o ++ missing c 64)
numbers_without o p c d n h e =
    let states : missing d 64 ≡ without n (missing c 64) = ap (λ s. missing s 64) e ∙ missing_added c n 64 (omega arith) in
    ap (λ w. leading p ++ w) states ∙ ap (λ w. w ++ without n (missing c 64)) (leads o p h) ∙ sym (filter-append (λ m. not (eqb m n)) (leading o) (missing c 64))
  where
    kept : (b : Bool) (m : ℕ) → leading (then_some b m) ≡ cond b (m ∷ []) []
    kept true m = refl
    kept false m = refl

    leads : (o p : Option ℕ) → MatchOption o (p ≡ None) (λ m. p ≡ then_some (not (eqb m n)) m) → leading p ≡ without n (leading o)
    leads None p h = ap leading h
    leads (Some m) p h = ap leading h ∙ kept (not (eqb m n)) m
