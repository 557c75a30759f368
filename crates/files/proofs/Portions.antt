-- Lists read part by part.
use Rattle.std.proofs.Common.{◌≡◌, ℕ, zero, suc, ◌+◌, ◌-◌, ◌*◌, ◌<◌, ◌≤◌, Bool, true, false, cond, ltb, Some, None, refl, List, [], ◌∷◌, ◌++◌, length, get_or, drop, set, sym, ap, ◌∙◌, add_comm, mul-suc, arith}
use Rattle.std.proofs.lemmas.List.{drop-drop, drop_more, set_at, append_assoc, take_at}
use Rattle.std.proofs.lemmas.Nat.{mul-le}
use Rattle.std.proofs.lemmas.Bool.Decides.{nat_tests}
use Rattle.patterns.specs.declared.row.Row.{Row}
use Rattle.patterns.specs.Automaton.{Automaton}
use Rattle.patterns.specs.Questions.{known}
use Rattle.files.specs.declared.heading.Heading.{Heading}
use Rattle.files.specs.Fronts.{fronts_of}
use Rattle.files.specs.Heading.{heading_of}
use Rattle.files.specs.Layout.{each, root_of, row_of, states_in, rows_in, decoded, fronted}
use Rattle.files.proofs.Fields.{length_each}

-- the roots were passed over, so the rows come next
pub rows_next : (n : ℕ) (p q r : List ℕ) → q ≡ drop 16 p → r ≡ drop (2 * n) q → r ≡ drop (16 + 2 * n) p
rows_next n p q r e f = f ∙ ap (drop (2 * n)) e ∙ drop-drop (2 * n) 16 p

-- one of n parts of k bytes fits behind i of them
pub fits_more : (k i n m : ℕ) → i < n → k * n ≤ m → k ≤ m - k * i
fits_more k i n m h e =
    let s = mul-suc k i in
    let l = mul-le k (suc i) k n (omega arith) (omega arith) in
    omega arith

-- i parts and one more
pub parts_more : (k i : ℕ) → k * i + k ≡ k * (i + 1)
parts_more k i = let e : suc i ≡ i + 1 = omega arith in sym (mul-suc k i) ∙ ap (λ (n : ℕ). k * n) e

-- which way a part was read
pub read_some : {X : Type 0} (b : Bool) (x y : X) → Some x ≡ cond b (Some y) None → (b ≡ true) × (x ≡ y)
read_some true x y e = (refl, cc)
read_some false x y e = (cc, cc)

pub read_none : {X : Type 0} (b : Bool) (y : X) → None ≡ cond b (Some y) None → b ≡ false
read_none true y e = cc
read_none false y e = refl

-- a row that is known has an operation of one byte
pub known_small : (r : Row) → known r ≡ true → ltb r.operation 256 ≡ true
known_small r e = grind (arith, nat_tests)

pub large_unknown : (r : Row) → ltb r.operation 256 ≡ false → known r ≡ false
large_unknown r e = grind (arith, nat_tests)

module _ {X : Type 0} (k : ℕ) (f : List ℕ → X) where
  -- the first of the parts that are left
  pub each_step : (n i : ℕ) (p : List ℕ) → i < n → each k f (n - i) p ≡ f p ∷ each k f (n - (i + 1)) (drop k p)
  each_step n i p h =
      let e : n - i ≡ suc (n - (i + 1)) = omega arith in
      ap (λ (m : ℕ). each k f m p) e

  -- one part more at the end
  pub each_more : (i : ℕ) (p : List ℕ) → each k f (i + 1) p ≡ each k f i p ++ f (drop (k * i) p) ∷ []
  each_more zero p =
      let z : k * 0 ≡ 0 = omega arith in
      ap (λ (m : ℕ). f (drop m p) ∷ []) (sym z)
  each_more (suc i) p =
      let e : suc i + 1 ≡ suc (i + 1) = omega arith in
      let m : k + k * i ≡ k * suc i = sym (mul-suc k i ∙ add_comm (k * i) k) in
      ap (λ (n : ℕ). each k f n p) e
      ∙ ap (λ (xs : List X). f p ∷ xs) (each_more i (drop k p))
      ∙ ap (λ (xs : List ℕ). f p ∷ (each k f i (drop k p) ++ f xs ∷ [])) (drop-drop (k * i) k p ∙ ap (λ (n : ℕ). drop n p) m)

  -- a table filled from the front, one entry more
  pub filled_more : (i : ℕ) (p : List ℕ) (old table : List X) (x : X) → i < length old
      → table ≡ each k f i p ++ drop i old → x ≡ f (drop (k * i) p) → set table i x ≡ each k f (i + 1) p ++ drop (i + 1) old
  filled_more i p old table x h e g =
      ap (λ (t : List X). set t i x) e
      ∙ ap (λ (t : List X). set (each k f i p ++ t) i x) (drop_more old i x h)
      ∙ set_at (each k f i p) (get_or old i x) (drop (i + 1) old) x i (length_each k f i p)
      ∙ ap (λ (y : X). each k f i p ++ y ∷ drop (i + 1) old) g
      ∙ sym (append_assoc (each k f i p) (f (drop (k * i) p) ∷ []) (drop (i + 1) old))
      ∙ ap (λ (t : List X). t ++ drop (i + 1) old) (sym (each_more i p))

  -- what stands at a place
  pub get_d_each : (n i : ℕ) (p : List ℕ) (d : X) → i < n → get_or (each k f n p) i d ≡ f (drop (k * i) p)
  get_d_each zero i p d h = absurd (omega arith)
  get_d_each (suc n) zero p d h = let z : k * 0 ≡ 0 = omega arith in ap (λ (m : ℕ). f (drop m p)) (sym z)
  get_d_each (suc n) (suc i) p d h =
      let m : k + k * i ≡ k * suc i = sym (mul-suc k i ∙ add_comm (k * i) k) in
      get_d_each n i (drop k p) d (omega arith) ∙ ap f (drop-drop (k * i) k p ∙ ap (λ (j : ℕ). drop j p) m)

-- automata that differ at most in how their tables are written
pub same_tables : (m s f : ℕ) {R R' : List ℕ} {T T' : List Row} → R ≡ R' → T ≡ T'
    → ◌≡◌ {A = Automaton} (record { signals = m; start = s; finals = f; roots = R; rows = T }) (record { signals = m; start = s; finals = f; roots = R'; rows = T' })
same_tables m s f {R} {R'} {T} {T'} e g =
    ap (λ (x : List ℕ). record { signals = m; start = s; finals = f; roots = x; rows = T }) e
    ∙ ap (λ (x : List Row). record { signals = m; start = s; finals = f; roots = R'; rows = x }) g

-- the pattern in the fronts of tables that were read into is the file's
pub fronts_decoded : (p t : List ℕ) (u : List Row) (h : Heading) → h ≡ heading_of p
    → fronts_of h (fronted (decoded p).roots t) (fronted (decoded p).rows u) ≡ decoded p
unfolding decoded
fronts_decoded p t u h e =
    ap (λ (g : Heading). fronts_of g (fronted (decoded p).roots t) (fronted (decoded p).rows u)) e
    ∙ same_tables (decoded p).signals (decoded p).start (decoded p).finals
    (take_at (decoded p).roots _ (states_in p) (length_each 2 root_of (states_in p) _))
    (take_at (decoded p).rows _ (rows_in p) (length_each 6 row_of (rows_in p) _))
