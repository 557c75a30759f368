-- Laws of membership: what a bit of a number says, and that members determine the set.
use Rattle.std.proofs.Common.{◌≡◌, ℕ, zero, suc, ◌+◌, ◌-◌, ◌*◌, ◌/◌, ◌%◌, ◌^◌, ◌<◌, ◌≤◌, Bool, true, false, cond, ◌&&◌, ◌||◌, eqb, ltb, ◌⊎◌, Decides, sym, refl, ap, ◌∙◌, inl, inr, ⊎_elim, mul_assoc, pow-suc, arith, pow_mono, pow-add, shr-shr}
use lib.Bits.{bit_and, bit_or, and_shr, and_mod, and_le_l, or_shr, or_mod, or_lt}
use lib.Pow.{field, high}
use native.Mathlib.Nat.{mul-add-mod_self_right, div-eq_of_lt}
use Rattle.std.proofs.lemmas.Bool.{cases_lt, cases_eq, cases_Bool, eqb-true, eq-eqb, ne_eqb, and_parts, both_ways, ltb-true, lt-ltb}
use Rattle.std.proofs.lemmas.Bool.Decides.{nat_tests}
use Rattle.std.proofs.lemmas.Nat.{pow_pos, pow_below, shr_split}
use Rattle.sets.specs.Sets.{has, set_of, union, one, Within, Below}

-- a bit of a number looks only at what lies below it
bit_low : (c n x q : ℕ) → q < n → (c * 2 ^ n + x) / 2 ^ q % 2 ≡ x / 2 ^ q % 2
bit_low c n x q h =
    let d = n - (1 + q) in
    let k : n ≡ d + (1 + q) = omega arith in
    let p : 2 ^ n ≡ 2 ^ d * 2 ^ (1 + q) = ap (λ (i : ℕ). 2 ^ i) k ∙ pow-add 2 d (1 + q) in
    let e : c * 2 ^ n ≡ (c * 2 ^ d) * 2 ^ (1 + q) =
    ap (λ (i : ℕ). c * i) p ∙ sym (mul_assoc c (2 ^ d) (2 ^ (1 + q))) in
    sym (field (c * 2 ^ n + x) 1 q)
    ∙ ap (λ (i : ℕ). i / 2 ^ q)
    (ap (λ (i : ℕ). (i + x) % 2 ^ (1 + q)) e ∙ mul-add-mod_self_right (c * 2 ^ d) (2 ^ (1 + q)) x)
    ∙ field x 1 q

-- a number below 2 ^ n has no member from n up
pub has_above : (x n q : ℕ) → x < 2 ^ n → n ≤ q → has x q ≡ false
has_above x n q l h =
    let p = pow_mono {i = n} {j = q} h in
    let e : x / 2 ^ q ≡ 0 = div-eq_of_lt (omega arith) in
    ap (λ (i : ℕ). eqb (i % 2) 1) e

has_top : (b : Bool) (n x : ℕ) → x < 2 ^ n → has (x + cond b (2 ^ n) 0) n ≡ b
has_top true n x l =
    let e : x + 2 ^ n ≡ 1 * 2 ^ n + x = omega arith in
    ap (λ (i : ℕ). has i n) e ∙ ap (λ (i : ℕ). eqb (i % 2) 1) (high 1 n l)
has_top false n x l =
    let e : x + 0 ≡ x = omega arith in
    ap (λ (i : ℕ). has i n) e ∙ has_above x n n l (omega arith)

has_low : (b : Bool) (n x q : ℕ) → q < n → has (x + cond b (2 ^ n) 0) q ≡ has x q
has_low true n x q l =
    let e : x + 2 ^ n ≡ 1 * 2 ^ n + x = omega arith in
    ap (λ (i : ℕ). has i q) e ∙ ap (λ (i : ℕ). eqb i 1) (bit_low 1 n x q l)
has_low false n x q l =
    let e : x + 0 ≡ x = omega arith in
    ap (λ (i : ℕ). has i q) e

module _ (f : ℕ → Bool) where
  -- a set made of numbers below n is below 2 ^ n
  pub set_of_lt : (n : ℕ) → set_of f n < 2 ^ n
  unfolding set_of
  set_of_lt zero = omega arith
  set_of_lt (suc n) =
      let h = set_of_lt n in
      let p : 2 ^ suc n ≡ 2 ^ n * 2 = pow-suc 2 n in
      elim (f n) as (λ b. set_of f n + cond b (2 ^ n) 0 < 2 ^ suc n) [ true ↦ omega arith | false ↦ omega arith ]

  -- a number below n is a member of the set made exactly if f says yes
  pub has_set_of : (n q : ℕ) → q < n → has (set_of f n) q ≡ f q
  unfolding set_of
  has_set_of zero q h = absurd (omega arith)
  has_set_of (suc n) q h = ⊎_elim
      (λ (e : q ≡ n). ap (has (set_of f (suc n))) e ∙ has_top (f n) n (set_of f n) (set_of_lt n) ∙ ap f (sym e))
      (λ (e : q ≡ n → ⊥). let l : q < n = omega arith in has_low (f n) n (set_of f n) q l ∙ has_set_of n q l)
      (cases_eq q n)

  -- what a member of the set made is
  pub in_set_of : (n q : ℕ) → has (set_of f n) q ≡ true → (q < n) × (f q ≡ true)
  in_set_of n q e = ⊎_elim
      (λ (l : q < n). (l, sym (has_set_of n q l) ∙ e))
      (λ (l : n ≤ q). absurd (both_ways (has (set_of f n) q) (has_above (set_of f n) n q (set_of_lt n) l) e))
      (cases_lt q n)

-- the set made looks at f below n alone
pub set_of_same : (f g : ℕ → Bool) (n : ℕ) → ((q : ℕ) → q < n → f q ≡ g q) → set_of f n ≡ set_of g n
unfolding set_of
set_of_same f g zero e = refl
set_of_same f g (suc n) e =
    ap (λ (s : ℕ). s + cond (f n) (2 ^ n) 0) (set_of_same f g n (λ q h. e q (omega arith)))
    ∙ ap (λ (b : Bool). set_of g n + cond b (2 ^ n) 0) (e n (omega arith))

-- the set of one member
pub has_one : (s : ℕ) → has (2 ^ s) s ≡ true
has_one s =
    let e : 2 ^ s ≡ 0 + 2 ^ s = omega arith in
    ap (λ (i : ℕ). has i s) e ∙ has_top true s 0 (pow_pos s)

pub in_one : (s q : ℕ) → has (2 ^ s) q ≡ true → q ≡ s
in_one s q e = ⊎_elim
    (λ (i : q ≡ s). i)
    (λ (i : q ≡ s → ⊥). absurd (⊎_elim
    (λ (l : q < s).
    let k : 2 ^ s ≡ 0 + 2 ^ s = omega arith in
    both_ways (has (2 ^ s) q)
    (ap (λ (j : ℕ). has j q) k ∙ has_low true s 0 q l ∙ has_above 0 0 q (omega arith) (omega arith)) e)
    (λ (l : s ≤ q).
    let m : s < q = omega arith in
    both_ways (has (2 ^ s) q) (has_above (2 ^ s) q q (pow_below s q m) (omega arith)) e)
    (cases_lt q s)))
    (cases_eq q s)

bit_cases : (n : ℕ) → (n % 2 ≡ 0) ⊎ (n % 2 ≡ 1)
bit_cases n = ⊎_elim (λ (l : n % 2 < 1). inl (omega arith)) (λ (l : 1 ≤ n % 2). inr (omega arith)) (cases_lt (n % 2) 1)

-- an operation on numbers that works bit by bit works member by member
module _ (op : ℕ → ℕ → ℕ) (test : Bool → Bool → Bool)
    (table : (x y : ℕ) → (x ≡ 0) ⊎ (x ≡ 1) → (y ≡ 0) ⊎ (y ≡ 1) → eqb (op x y) 1 ≡ test (eqb x 1) (eqb y 1))
    (shr : (a b k : ℕ) → op a b / 2 ^ k ≡ op (a / 2 ^ k) (b / 2 ^ k))
    (low : (a b k : ℕ) → op a b % 2 ^ k ≡ op (a % 2 ^ k) (b % 2 ^ k)) where
  has_op : (c d q : ℕ) → has (op c d) q ≡ test (has c q) (has d q)
  has_op c d q =
      ap (λ (i : ℕ). eqb (i % 2) 1) (shr c d q)
      ∙ ap (λ (i : ℕ). eqb i 1) (low (c / 2 ^ q) (d / 2 ^ q) 1)
      ∙ table (c / 2 ^ q % 2) (d / 2 ^ q % 2) (bit_cases (c / 2 ^ q)) (bit_cases (d / 2 ^ q))

bit_table : (op : ℕ → ℕ → ℕ) (test : Bool → Bool → Bool)
    → eqb (op 0 0) 1 ≡ test false false → eqb (op 0 1) 1 ≡ test false true
    → eqb (op 1 0) 1 ≡ test true false → eqb (op 1 1) 1 ≡ test true true
    → (x y : ℕ) → (x ≡ 0) ⊎ (x ≡ 1) → (y ≡ 0) ⊎ (y ≡ 1) → eqb (op x y) 1 ≡ test (eqb x 1) (eqb y 1)
bit_table op test a b c d x y (inl p) (inl q) = rw (p, q) a
bit_table op test a b c d x y (inl p) (inr q) = rw (p, q) b
bit_table op test a b c d x y (inr p) (inl q) = rw (p, q) c
bit_table op test a b c d x y (inr p) (inr q) = rw (p, q) d

pub has_and : (c d q : ℕ) → has (bit_and c d) q ≡ (has c q && has d q)
has_and = has_op bit_and ◌&&◌ (bit_table bit_and ◌&&◌ refl refl refl refl) and_shr and_mod

pub has_or : (c d q : ℕ) → has (bit_or c d) q ≡ (has c q || has d q)
has_or = has_op bit_or ◌||◌ (bit_table bit_or ◌||◌ refl refl refl refl) or_shr or_mod

has_half : (a q : ℕ) → has (a / 2) q ≡ has a (1 + q)
has_half a q = ap (λ (i : ℕ). eqb (i % 2) 1) (shr-shr a 1 q)

same_bit : (x y : ℕ) → (x ≡ 0) ⊎ (x ≡ 1) → (y ≡ 0) ⊎ (y ≡ 1) → eqb x 1 ≡ eqb y 1 → x ≡ y
same_bit x y p q e = grind (arith, nat_tests)

-- sets with the same members are one number
pub same_set : (k a b : ℕ) → a < 2 ^ k → b < 2 ^ k → ((q : ℕ) → q < k → has a q ≡ has b q) → a ≡ b
same_set zero a b g h e = omega arith
same_set (suc k) a b g h e =
    let p : 2 ^ suc k ≡ 2 ^ k * 2 = pow-suc 2 k in
    let i : a / 2 ≡ b / 2 = same_set k (a / 2) (b / 2) (omega arith) (omega arith)
    (λ q l. has_half a q ∙ e (1 + q) (omega arith) ∙ sym (has_half b q)) in
    let x : a / 2 ^ 0 ≡ a = omega arith in
    let y : b / 2 ^ 0 ≡ b = omega arith in
    let z : eqb (a % 2) 1 ≡ eqb (b % 2) 1 =
    sym (ap (λ (j : ℕ). eqb (j % 2) 1) x) ∙ e 0 (omega arith) ∙ ap (λ (j : ℕ). eqb (j % 2) 1) y in
    let m : a % 2 ≡ b % 2 = same_bit (a % 2) (b % 2) (bit_cases a) (bit_cases b) z in
    omega arith

-- a set is within another exactly if meeting the two leaves it as it is
pub decides_within : (k c d : ℕ) → c < 2 ^ k → Decides (eqb (bit_and c d) c) (Within c d)
decides_within k c d l = (
  (λ e q h.
      let z : (has c q && has d q) ≡ true =
      sym (has_and c d q) ∙ ap (λ (i : ℕ). has i q) (eqb-true (bit_and c d) c e) ∙ h in
      (and_parts (has c q) (has d q) z).1),
  λ w. eq-eqb (bit_and c d) c (same_set k (bit_and c d) c (let m = and_le_l c d in omega arith) l
      (λ q _. has_and c d q ∙ both (has c q) (has d q) (w q))),
)
  where
    both : (x y : Bool) → (x ≡ true → y ≡ true) → (x && y) ≡ x
    both true y h = h refl
    both false y h = refl

-- the same of sets of states
pub within_test : (c d : ℕ) → c < 2 ^ 64 → Decides (eqb (bit_and c d) c) (Within c d)
within_test c d l = decides_within 64 c d l

-- a set has all its members below n exactly if it is below 2 ^ n
pub decides_below : (k c n : ℕ) → c < 2 ^ k → Decides (ltb c (2 ^ n)) (Below c n)
decides_below k c n l = (
  (λ e q h. ⊎_elim
      (λ (m : q < n). m)
      (λ (m : n ≤ q). absurd (both_ways (has c q) (has_above c n q (ltb-true c (2 ^ n) e) m) h))
      (cases_lt q n)),
  λ b. lt-ltb c (2 ^ n) (let m = set_of_lt (has c) n in rw (same b) m),
)
  where
    kept : Below c n → (q : ℕ) → q < k + n → has c q ≡ has (set_of (has c) n) q
    kept b q _ = ⊎_elim
        (λ (m : q < n). sym (has_set_of (has c) n q m))
        (λ (m : n ≤ q). ⊎_elim
        (λ (t : has c q ≡ true). absurd (let y = b q t in omega arith))
        (λ (t : has c q ≡ false). t ∙ sym (has_above (set_of (has c) n) n q (set_of_lt (has c) n) m))
        (cases_Bool (has c q)))
        (cases_lt q n)

    same : Below c n → c ≡ set_of (has c) n
    same b =
        let m = set_of_lt (has c) n in
        let p = pow_mono {i = n} {j = k + n} (omega arith) in
        let p' = pow_mono {i = k} {j = k + n} (omega arith) in
        same_set (k + n) c (set_of (has c) n) (omega arith) (omega arith) (kept b)

-- clearing the members from m up leaves those below
pub has_low_mod : (m a q : ℕ) → q < m → has (a % 2 ^ m) q ≡ has a q
has_low_mod m a q h =
    let s : a / 2 ^ m * 2 ^ m + a % 2 ^ m ≡ a = shr_split a m in
    sym (ap (λ (i : ℕ). has i q) (sym s) ∙ ap (λ (i : ℕ). eqb i 1) (bit_low (a / 2 ^ m) m (a % 2 ^ m) q h))

-- membership in a power of two
pub has_power : (s q : ℕ) → has (2 ^ s) q ≡ eqb q s
has_power s q = ⊎_elim
    (λ (e : q ≡ s). ap (has (2 ^ s)) e ∙ has_one s ∙ sym (eq-eqb q s e))
    (λ (e : q ≡ s → ⊥). ⊎_elim
    (λ (t : has (2 ^ s) q ≡ true). absurd (e (in_one s q t)))
    (λ (t : has (2 ^ s) q ≡ false). t ∙ sym (ne_eqb q s e))
    (cases_Bool (has (2 ^ s) q)))
    (cases_eq q s)

-- the union with the set of one member
pub union_one : (c m : ℕ) → union c (one m) ≡ set_of (λ q. has c q || eqb q m) 64
union_one c m = set_of_same (λ (q : ℕ). has c q || has (one m) q) (λ (q : ℕ). has c q || eqb q m) 64
    (λ q h. ap (λ (b : Bool). has c q || b) (has_set_of (λ (j : ℕ). eqb j m) 64 q h))

-- below 64 the union is what the bits of either give
pub or_union : (c d : ℕ) → c < 2 ^ 64 → d < 2 ^ 64 → bit_or c d ≡ union c d
or_union c d l m =
    let either : ℕ → Bool = λ q. has c q || has d q in
    same_set 64 (bit_or c d) (union c d) (or_lt 64 c d l m) (set_of_lt either 64)
    (λ q h. has_or c d q ∙ sym (has_set_of either 64 q h))

-- one number more is asked: it joins the set, or the set stays
module _ (f : ℕ → Bool) (n : ℕ) where
  pub set_of_more : f n ≡ true → n < 64 → union (set_of f n) (one n) ≡ set_of f (suc n)
  set_of_more t l =
      let either : ℕ → Bool = λ q. has (set_of f n) q || has (one n) q in
      let p = set_of_lt f (suc n) in
      let p' = pow_mono {i = suc n} {j = 64} (omega arith) in
      same_set 64 (union (set_of f n) (one n)) (set_of f (suc n)) (set_of_lt either 64) (omega arith) (λ q h.
      has_set_of either 64 q h
      ∙ ap (λ (b : Bool). has (set_of f n) q || b) (has_set_of (λ (j : ℕ). eqb j n) 64 q h)
      ∙ ⊎_elim
      (λ (s : q < n).
      ap (λ (b : Bool). b || eqb q n) (has_set_of f n q s)
      ∙ ap (λ (b : Bool). f q || b) (ne_eqb q n (λ e. omega arith)) ∙ or_no (f q)
      ∙ sym (has_set_of f (suc n) q (omega arith)))
      (λ (s : n ≤ q). ap (λ (b : Bool). b || eqb q n) (has_above (set_of f n) n q (set_of_lt f n) s) ∙ ⊎_elim
      (λ (e : q ≡ n). eq-eqb q n e ∙ sym t ∙ ap f (sym e) ∙ sym (has_set_of f (suc n) q (omega arith)))
      (λ (e : q ≡ n → ⊥). ne_eqb q n e ∙ sym (has_above (set_of f (suc n)) (suc n) q p (omega arith)))
      (cases_eq q n))
      (cases_lt q n))
    where
      or_no : (x : Bool) → (x || false) ≡ x
      or_no true = refl
      or_no false = refl

  pub set_of_skip : f n ≡ false → set_of f n ≡ set_of f (suc n)
  unfolding set_of
  set_of_skip t = sym (ap (λ (b : Bool). set_of f n + cond b (2 ^ n) 0) t ∙ omega arith)
