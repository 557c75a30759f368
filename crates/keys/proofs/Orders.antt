-- Keys and the order of the two kinds. Assumes nothing.
use Rattle.std.proofs.Common.{◌≡◌, ℕ, ◌+◌, ◌-◌, ◌^◌, ◌<◌, ◌≤◌, Bool, true, false, not, ◌&&◌, ◌||◌, eqb, ltb, leb, List, [], ◌∷◌, sym, refl, ap, ◌∙◌, ⊎_elim, arith}
use Rattle.std.proofs.lemmas.Bool.{cases_Bool, cases_eq, both_ways, false≢true, and_parts, and_from, or_cases, or_left, or_right, eqb-true, eq-eqb, ne_eqb, lt-ltb, ltb-true, leb-true, le-leb, not-true, not_from_false}
use Rattle.std.proofs.lemmas.Bool.Decides.{same_from_decides}
use Rattle.sets.specs.Sets.{has}
use Rattle.sets.proofs.Members.{has_set_of, in_set_of, set_of_lt, same_set}
use Rattle.patterns.specs.Automaton.{Automaton}
use Rattle.models.specs.Machine.{Machine}
use Rattle.kind_shapes.specs.declared.JointConfig.{JointConfig}
use Rattle.kind_shapes.specs.Shapes.{subset, pattern_shape, joint_shape}
use Rattle.kind_shapes.proofs.Subsets.{decides_subset}
use Rattle.keys.specs.Numbers.{among, contained, missing, lacking, proper}
use Rattle.keys.specs.Keys.{KeyOrder, pattern_config, joint_key, joint_config}
use Rattle.keys.proofs.Numbers.{among_missing, decides_contained, contained_from, contained_at}

-- a number of a key with no lead is a state
pub proper_state : (w : List ℕ) → proper 0 w ≡ true → (n : ℕ) → among n w ≡ true → n < 64
proper_state [] p n e = absurd (false≢true e)
proper_state (m ∷ w) p n e =
    let a = and_parts (ltb m 64) (proper 0 w) p in
    ⊎_elim
    (λ (h : eqb n m ≡ true). omega (arith, ltb-true m 64 a.0, eqb-true n m h))
    (λ (h : among n w ≡ true). proper_state w a.1 n h)
    (or_cases (eqb n m) (among n w) e)

-- what a list lacks is within what another lacks exactly if the other has no number more
lacking_order : (v w : List ℕ) → proper 0 w ≡ true → subset (lacking v) (lacking w) ≡ contained w v
lacking_order v w p = same_from_decides (subset (lacking v) (lacking w)) (contained w v) (decides_subset (lacking v) (lacking w)) (
  (λ c q h.
      let s = in_set_of (λ k. not (among k v)) 64 q h in
      has_set_of (λ k. not (among k w)) 64 q s.0 ∙ not_from_false (among q w) (⊎_elim
      (λ (t : among q w ≡ true). absurd (both_ways (among q v) (not-true (among q v) s.1) (contained_at w v c q t)))
      (λ (t : among q w ≡ false). t)
      (cases_Bool (among q w)))),
  (λ i. contained_from w v (λ n e. ⊎_elim
      (λ (t : among n v ≡ true). t)
      (λ (t : among n v ≡ false).
      let l = proper_state w p n e in
      let h = i n (has_set_of (λ k. not (among k v)) 64 n l ∙ not_from_false (among n v) t) in
      absurd (both_ways (among n w) (not-true (among n w) (in_set_of (λ k. not (among k w)) 64 n h).1) e))
      (cases_Bool (among n v)))),
)

-- the states missing of a set are the key of that set
pub lacking_missing : (x : ℕ) → x < 2 ^ 64 → lacking (missing x 64) ≡ x
lacking_missing x l = same_set 64 (lacking (missing x 64)) x (set_of_lt (λ q. not (among q (missing x 64))) 64) l (λ q h.
    has_set_of (λ k. not (among k (missing x 64))) 64 q h ∙ ap not (among_missing x 64 q ∙ ap (λ b. b && not (has x q)) (lt-ltb q 64 h)) ∙ twice (has x q))
  where
    twice : (b : Bool) → not (not b) ≡ b
    twice true = refl
    twice false = refl

states_proper : (w : List ℕ) → ((n : ℕ) → among n w ≡ true → n < 64) → proper 0 w ≡ true
states_proper [] h = refl
states_proper (m ∷ w) h = and_from (ltb m 64) (proper 0 w)
    (lt-ltb m 64 (h m (or_left (eqb m m) (among m w) (eq-eqb m m refl))))
    (states_proper w (λ n e. h n (or_right (eqb n m) (among n w) e)))

pub missing_proper : (x : ℕ) → proper 0 (missing x 64) ≡ true
missing_proper x = states_proper (missing x 64) (λ n e. ltb-true n 64 (and_parts (ltb n 64) (not (has x n)) (sym (among_missing x 64 n) ∙ e)).0)

pub pattern_order : (A : Automaton) → KeyOrder 0 (pattern_shape A) pattern_config
pattern_order A = record { order = λ v w _ p. lacking_order v w p }

-- ---- the joint kind

pub joint_proper : (x : JointConfig) → proper 1 (joint_key x) ≡ true
joint_proper x = and_from (leb 64 (64 + x.state)) (proper 0 (missing x.set 64)) (le-leb 64 (64 + x.state) (omega arith)) (missing_proper x.set)

pub joint_same : (x : JointConfig) → x.set < 2 ^ 64 → joint_config (joint_key x) ≡ x
joint_same x l =
    let n : 64 + x.state - 64 ≡ x.state = omega arith in
    let c = lacking_missing x.set l in
    rw (n, c) refl

-- among keys that are led, one contains the other where they have the same lead and the rest contains the rest
led : (m n : ℕ) (v w : List ℕ) → 64 ≤ m → 64 ≤ n → proper 0 v ≡ true → proper 0 w ≡ true → (eqb (n - 64) (m - 64) && contained w v) ≡ contained (m ∷ w) (n ∷ v)
led m n v w lm ln pv pw = ⊎_elim
    (λ (e : n ≡ m).
    ap (λ b. b && contained w v) (eq-eqb (n - 64) (m - 64) (omega arith))
    ∙ same_from_decides (contained w v) (contained w (n ∷ v)) (decides_contained w v) (
      (λ c k h. ⊎_elim
          (λ (t : eqb k n ≡ true). absurd (let a = proper_state w pw k h in let b = eqb-true k n t in omega arith))
          (λ (t : among k v ≡ true). t)
          (or_cases (eqb k n) (among k v) (contained_at w (n ∷ v) c k h))),
      (λ i. contained_from w (n ∷ v) (λ k h. or_right (eqb k n) (among k v) (i k h))),
    )
    ∙ sym (ap (λ b. b && contained w (n ∷ v)) (or_left (eqb m n) (among m v) (eq-eqb m n (sym e)))))
    (λ (e : n ≡ m → ⊥).
    ap (λ b. b && contained w v) (ne_eqb (n - 64) (m - 64) (λ z. e (omega arith)))
    ∙ sym (ap (λ b. b && contained w (n ∷ v)) (apart e)))
    (cases_eq n m)
  where
    apart : (n ≡ m → ⊥) → (eqb m n || among m v) ≡ false
    apart e = ⊎_elim
        (λ (t : (eqb m n || among m v) ≡ true). absurd (⊎_elim
        (λ (z : eqb m n ≡ true). e (sym (eqb-true m n z)))
        (λ (z : among m v ≡ true). let a = proper_state v pv m z in omega arith)
        (or_cases (eqb m n) (among m v) t)))
        (λ (t : (eqb m n || among m v) ≡ false). t)
        (cases_Bool (eqb m n || among m v))

pub joint_order : (A : Automaton) (M : Machine) → KeyOrder 1 (joint_shape A M) joint_config
joint_order A M = record { order = go }
  where
    go : (v w : List ℕ) → proper 1 v ≡ true → proper 1 w ≡ true → (joint_shape A M).within (joint_config v) (joint_config w) ≡ contained w v
    go [] w p q = absurd (false≢true p)
    go (n ∷ v) [] p q = absurd (false≢true q)
    go (n ∷ v) (m ∷ w) p q =
        let a = and_parts (leb 64 n) (proper 0 v) p in
        let b = and_parts (leb 64 m) (proper 0 w) q in
        ap (λ t. eqb (n - 64) (m - 64) && t) (lacking_order v w b.1) ∙ led m n v w (leb-true 64 m b.0) (leb-true 64 n a.0) a.1 b.1
