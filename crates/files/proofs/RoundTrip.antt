-- A payload and its automaton give each other.
use Rattle.std.proofs.Common.{◌≡◌, ℕ, zero, suc, ◌+◌, ◌*◌, ◌^◌, ◌<◌, ◌≤◌, true, eqb, leb, List, [], ◌∷◌, ◌++◌, length, drop, sym, refl, ap, ◌∙◌, arith, length-append, length-drop, pow_mono}
use native.Mathlib.Nat.{pow-succ'}
use Rattle.std.proofs.lemmas.List.{append-nil, drop_all, drop_at, drop-drop}
use Rattle.std.proofs.ByRecursion.{All-append, All-drop, All-from_get_or}
use Rattle.std.proofs.lemmas.Bool.{and_parts, eqb-true, leb-true, ltb-true}
use Rattle.std.specs.List.{flat_map}
use Rattle.sets.proofs.Members.{decides_below}
use Rattle.blocks.specs.Bytes.{Bytes, number, bytes_of}
use Rattle.blocks.proofs.Numbers.{number_bytes_of, bytes_bytes_of}
use Rattle.patterns.specs.declared.row.Row.{Row}
use Rattle.patterns.specs.Automaton.{Automaton, states, blank}
use Rattle.patterns.specs.Formed.{Proper, constant_0, constant_1, state, signal, conjunction, disjunction, negation, Formed}
use Rattle.files.specs.Layout.{field, edition_in, states_in, rows_in, zeros_in, each, root_of, row_of, roots_in, table_in, decoded, row_bytes_of, heading_bytes, encoded}
use Rattle.files.specs.Questions.{headed}
use Rattle.files.proofs.Fields.{field_back, length_each, length_joined, bytes_joined, each_joined, joined_each}

-- the row at the front of p, written again
row_back : (p : List ℕ) → Bytes p → 6 ≤ length p → row_bytes_of (row_of p) ++ drop 6 p ≡ p
row_back p known h =
    let c = field_back p 4 2 (drop 6 p) known (omega arith) refl in
    let b = field_back p 2 2 (bytes_of 2 (field p 4 2) ++ drop 6 p) known (omega arith) c in
    field_back p 0 2 (bytes_of 2 (field p 2 2) ++ (bytes_of 2 (field p 4 2) ++ drop 6 p)) known (omega arith) b

root_back : (p : List ℕ) → Bytes p → 2 ≤ length p → bytes_of 2 (root_of p) ++ drop 2 p ≡ p
root_back p known h = field_back p 0 2 (drop 2 p) known h refl

-- the fields of a heading, and what stands behind it
headed_by : ℕ → ℕ → ℕ → ℕ → ℕ → ℕ → ℕ → List ℕ → List ℕ
headed_by edition n m start N finals zeros behind =
    bytes_of 1 edition ++ (bytes_of 1 n ++ (bytes_of 1 m ++ (bytes_of 1 start ++ (bytes_of 2 N ++ (bytes_of 8 finals ++ (bytes_of 2 zeros ++ behind))))))

heading_back : (p behind : List ℕ) → Bytes p → 16 ≤ length p → behind ≡ drop 16 p
    → headed_by (edition_in p) (states_in p) (field p 2 1) (field p 3 1) (rows_in p) (field p 6 8) (zeros_in p) behind ≡ p
unfolding headed_by
heading_back p behind known h e =
    let f14 = field_back p 14 2 _ known (omega arith) e in
    let f6 = field_back p 6 8 _ known (omega arith) f14 in
    let f4 = field_back p 4 2 _ known (omega arith) f6 in
    let f3 = field_back p 3 1 _ known (omega arith) f4 in
    let f2 = field_back p 2 1 _ known (omega arith) f3 in
    let f1 = field_back p 1 1 _ known (omega arith) f2 in
    field_back p 0 1 _ known (omega arith) f1

-- a payload with a heading that gives its length right
module _ (p : List ℕ) (known : Bytes p) (has : headed p ≡ true) (long : length p ≡ 16 + 2 * states_in p + 6 * rows_in p) where
  heading : (16 ≤ length p) × (edition_in p ≡ 1) × (zeros_in p ≡ 0)
  heading =
      let a = and_parts (leb 16 (length p)) _ has in
      let b = and_parts (eqb (edition_in p) 1) _ a.1 in
      (leb-true 16 (length p) a.0, eqb-true (edition_in p) 1 b.0, eqb-true (zeros_in p) 0 b.1)

  rows_back : flat_map row_bytes_of (table_in (states_in p) (rows_in p) p) ≡ drop (16 + 2 * states_in p) p
  rows_back =
      let from = 16 + 2 * states_in p in
      let l = length-drop from p in
      let none = drop_all (6 * rows_in p) (drop from p) (omega arith) in
      sym (append-nil (flat_map row_bytes_of (table_in (states_in p) (rows_in p) p)))
      ∙ joined_each 6 row_of row_bytes_of row_back (rows_in p) (drop from p) [] (All-drop (λ b. b < 256) from p known) (omega arith) (sym none)

  tables_back : flat_map (bytes_of 2) (roots_in (states_in p) p) ++ flat_map row_bytes_of (table_in (states_in p) (rows_in p) p) ≡ drop 16 p
  tables_back =
      let l = length-drop 16 p in
      joined_each 2 root_of (bytes_of 2) root_back (states_in p) (drop 16 p) _ (All-drop (λ b. b < 256) 16 p known) (omega arith)
      (rows_back ∙ sym (drop-drop (2 * states_in p) 16 p))

  -- reading, then writing
  pub encoded_decoded : encoded (decoded p) ≡ p
  unfolding decoded encoded headed_by
  encoded_decoded =
      let n = states_in p in
      let N = rows_in p in
      let roots = roots_in n p in
      let rows = table_in n N p in
      let behind = flat_map (bytes_of 2) roots ++ flat_map row_bytes_of rows in
      let m = field p 2 1 in
      let s = field p 3 1 in
      let f = field p 6 8 in
      ap (λ (e : ℕ). headed_by e (length roots) m s (length rows) f 0 behind) (sym heading.1)
      ∙ ap (λ (k : ℕ). headed_by (edition_in p) k m s (length rows) f 0 behind) (length_each 2 root_of n (drop 16 p))
      ∙ ap (λ (k : ℕ). headed_by (edition_in p) n m s k f 0 behind) (length_each 6 row_of N (drop (16 + 2 * n) p))
      ∙ ap (λ (z : ℕ). headed_by (edition_in p) n m s N f z behind) (sym heading.2)
      ∙ heading_back p behind known heading.0 tables_back

pub length_encoded : (A : Automaton) → length (encoded A) ≡ 16 + 2 * states A + 6 * length A.rows
unfolding encoded
length_encoded A =
    let roots = flat_map (bytes_of 2) A.roots in
    let rows = flat_map row_bytes_of A.rows in
    let a = length-append roots rows in
    let n = length_joined 2 (bytes_of 2) (λ x. refl) A.roots in
    let N = length_joined 6 row_bytes_of (λ r. refl) A.rows in
    omega arith

pub bytes_encoded : (A : Automaton) → Bytes (encoded A)
unfolding encoded
bytes_encoded A =
    let both : (xs ys : List ℕ) → Bytes xs → Bytes ys → Bytes (xs ++ ys) = All-append (λ b. b < 256) in
    let row : (r : Row) → Bytes (row_bytes_of r) =
    λ r. bytes_joined (bytes_of 2) (bytes_bytes_of 2) (r.operation ∷ r.left ∷ r.right ∷ []) in
    let fields : List (ℕ × ℕ) =
    (1, 1) ∷ (1, states A) ∷ (1, A.signals) ∷ (1, A.start) ∷ (2, length A.rows) ∷ (8, A.finals) ∷ (2, 0) ∷ [] in
    let heading : Bytes (heading_bytes A) = bytes_joined (λ f. bytes_of f.0 f.1) (λ f. bytes_bytes_of f.0 f.1) fields in
    let roots = flat_map (bytes_of 2) A.roots in
    let rows = flat_map row_bytes_of A.rows in
    both (heading_bytes A) (roots ++ rows) heading
    (both roots rows (bytes_joined (bytes_of 2) (bytes_bytes_of 2) A.roots) (bytes_joined row_bytes_of row A.rows))

-- a row whose numbers have two bytes each, read again
row_again : (r : Row) (behind : List ℕ) → r.operation < 65536 → r.left < 65536 → r.right < 65536 → row_of (row_bytes_of r ++ behind) ≡ r
row_again r behind o l k =
    let made : ℕ → ℕ → ℕ → Row = λ x y z. record { operation = x; left = y; right = z } in
    ap (λ (x : ℕ). made x (number (bytes_of 2 r.left)) (number (bytes_of 2 r.right))) (number_bytes_of 2 r.operation o)
    ∙ ap (λ (y : ℕ). made r.operation y (number (bytes_of 2 r.right))) (number_bytes_of 2 r.left l)
    ∙ ap (λ (z : ℕ). made r.operation r.left z) (number_bytes_of 2 r.right k)

same_tables : (A B : Automaton) → A.signals ≡ B.signals → A.start ≡ B.start → A.finals ≡ B.finals → A.roots ≡ B.roots → A.rows ≡ B.rows → A ≡ B
same_tables A B m s f q r =
    let made : ℕ → ℕ → ℕ → List ℕ → List Row → Automaton = λ v w x y z. record { signals = v; start = w; finals = x; roots = y; rows = z } in
    ap (λ (v : ℕ). made v A.start A.finals A.roots A.rows) m
    ∙ ap (λ (w : ℕ). made B.signals w A.finals A.roots A.rows) s
    ∙ ap (λ (x : ℕ). made B.signals B.start x A.roots A.rows) f
    ∙ ap (λ (y : List ℕ). made B.signals B.start B.finals y A.rows) q
    ∙ ap (λ (z : List Row). made B.signals B.start B.finals B.roots z) r

below_power : (n : ℕ) → n < 2 ^ n
below_power zero = omega arith
below_power (suc n) = let h = below_power n in let p = pow-succ' 2 n in omega arith

-- a pattern's numbers fit the bytes that they are written in
module _ (A : Automaton) (F : Formed A) where
  proper_again : (i : ℕ) (r : Row) → i < length A.rows → Proper A i r → (behind : List ℕ) → row_of (row_bytes_of r ++ behind) ≡ r
  proper_again i r h constant_0 behind = refl
  proper_again i r h constant_1 behind = refl
  proper_again i r h (state l) behind = let n = F.few_states in row_again r behind (omega arith) (omega arith) (omega arith)
  proper_again i r h (signal l) behind = let n = F.few_signals in row_again r behind (omega arith) (omega arith) (omega arith)
  proper_again i r h (conjunction l m) behind = let n = F.few_rows in row_again r behind (omega arith) (omega arith) (omega arith)
  proper_again i r h (disjunction l m) behind = let n = F.few_rows in row_again r behind (omega arith) (omega arith) (omega arith)
  proper_again i r h (negation l f) behind = let n = F.few_rows in row_again r behind (omega arith) (omega arith) (omega arith)

  finals_fit : A.finals < 256 ^ 8
  finals_fit =
      let h = ltb-true A.finals (2 ^ states A) ((decides_below A.finals A.finals (states A) (below_power A.finals)).1 F.ends) in
      let p : 2 ^ states A ≤ 2 ^ 64 = pow_mono F.few_states in
      omega arith

  pub states_encoded : states_in (encoded A) ≡ states A
  unfolding encoded
  states_encoded = let n = F.few_states in number_bytes_of 1 (states A) (omega arith)

  pub rows_encoded : rows_in (encoded A) ≡ length A.rows
  unfolding encoded
  rows_encoded = let N = F.few_rows in number_bytes_of 2 (length A.rows) (omega arith)

  roots_again : roots_in (states_in (encoded A)) (encoded A) ≡ A.roots
  unfolding encoded
  roots_again =
      ap (λ (n : ℕ). roots_in n (encoded A)) states_encoded
      ∙ each_joined 2 root_of (bytes_of 2) (λ x. refl) A.roots (flat_map row_bytes_of A.rows)
      (All-from_get_or (λ x. (zs : List ℕ) → root_of (bytes_of 2 x ++ zs) ≡ x) A.roots 0
      (λ q h zs. let N = F.few_rows in let l = F.rooted q h in number_bytes_of 2 _ (omega arith)))

  rows_again : table_in (states_in (encoded A)) (rows_in (encoded A)) (encoded A) ≡ A.rows
  unfolding encoded
  rows_again =
      let roots = flat_map (bytes_of 2) A.roots in
      let rows = flat_map row_bytes_of A.rows in
      ap (λ (n : ℕ). table_in n (rows_in (encoded A)) (encoded A)) states_encoded
      ∙ ap (λ (N : ℕ). table_in (states A) N (encoded A)) rows_encoded
      ∙ ap (each 6 row_of (length A.rows))
      (sym (drop-drop (2 * states A) 16 (encoded A))
      ∙ drop_at roots rows (2 * states A) (length_joined 2 (bytes_of 2) (λ x. refl) A.roots)
      ∙ sym (append-nil rows))
      ∙ each_joined 6 row_of row_bytes_of (λ r. refl) A.rows []
      (All-from_get_or (λ r. (zs : List ℕ) → row_of (row_bytes_of r ++ zs) ≡ r) A.rows blank (λ i h. proper_again i _ h (F.proper i h)))

  -- writing, then reading
  pub decoded_encoded : decoded (encoded A) ≡ A
  unfolding decoded encoded
  decoded_encoded =
      let n = F.few_states in
      let m = F.few_signals in
      let s = F.starts in
      same_tables (decoded (encoded A)) A
      (number_bytes_of 1 A.signals (omega arith)) (number_bytes_of 1 A.start (omega arith)) (number_bytes_of 8 A.finals finals_fit)
      roots_again rows_again
