-- The rows of a word put in at a place. Assumes nothing.
use Rattle.std.proofs.Common.{◌≡◌, ℕ, zero, suc, ◌+◌, ◌-◌, ◌<◌, ◌≤◌, true, cond, ◌&&◌, ltb, leb, List, [], ◌∷◌, ◌++◌, length, get_or, take, drop, sym, refl, ap, ◌∙◌, subst, add-one, arith, take-append-drop}
use Rattle.std.proofs.lemmas.Bool.{and_from, eq-eqb, ne_eqb, le-leb, lt-ltb, cond_both}
use Rattle.std.proofs.lemmas.List.{take_all, take_more, take-take}
use Rattle.tries.specs.declared.row.Row.{Row}
use Rattle.stores.specs.Holding.{Reordered, none, same, swap, next}
use Rattle.tries.specs.Rows.{way, after, paths, linked, shaped, bearing}
use Rattle.tries.specs.Changes.{sprout, sprouts, grown, Spotted, PutIn}
use Rattle.tries.proofs.Paths.{length_way, shaped_parts, paths_append, paths_lead}
use Rattle.tries.proofs.Settling.{lower, widen, paths_settled, linked_settled, shaped_settled, bearing_settled}
use Rattle.tries.proofs.Releasing.{shaped_drop}

-- ---- the rows of a word

module _ (w : List ℕ) where
  way_sprout : (d : ℕ) (q : List ℕ) → d < length w → take d q ≡ take d w → way q (sprout w d) ≡ take (suc d) w
  way_sprout d q l e = ap (λ z. z ++ get_or w d 0 ∷ []) e ∙ sym (take_more w d 0 l) ∙ ap (λ k. take k w) (add-one d)

  -- they hold the word, and lead to it
  pub record Spells (q : List ℕ) (rs : List Row) : Type 0 where
    pub held : paths q rs ≡ w ∷ []
    pub leads : after q rs ≡ w

  pub spells : (n d : ℕ) (q : List ℕ) → suc n + d ≡ length w → take d q ≡ take d w → Spells q (sprouts w d (suc n))
  spells zero d q e s =
      let last : way q (sprout w d) ≡ w = way_sprout d q (omega arith) s ∙ take_all (suc d) w (omega arith) in
      record {
        held = ap (λ b. cond b (way q (sprout w d) ∷ []) []) (eq-eqb (suc d) (length w) (omega arith)) ∙ ap (λ z. z ∷ []) last;
        leads = last;
      }
  spells (suc n) d q e s =
      let x = way_sprout d q (omega arith) s in
      let b = spells n (suc d) (way q (sprout w d)) (omega arith) (ap (take (suc d)) x ∙ again (suc d)) in
      record {
        held = ap (λ t. cond t (way q (sprout w d) ∷ paths (way q (sprout w d)) (sprouts w (suc d) (suc n))) (paths (way q (sprout w d)) (sprouts w (suc d) (suc n)))) (ne_eqb (suc d) (length w) (λ z. omega arith)) ∙ b.held;
        leads = b.leads;
      }
    where
      again : (k : ℕ) → take k (take k w) ≡ take k w
      again k = take-take k k w (omega arith)

  shaped_sprouts : (n d : ℕ) (rest : List Row) → n + d ≡ length w → length w ≤ 65 → shaped (length w) rest ≡ true → shaped d (sprouts w d n ++ rest) ≡ true
  shaped_sprouts zero d rest e l h = let k : length w ≡ d = omega arith in subst (λ j. shaped j rest ≡ true) k h
  shaped_sprouts (suc n) d rest e l h = and_from (leb d d) (ltb d 65 && shaped (suc d) (sprouts w (suc d) n ++ rest)) (le-leb d d (omega arith))
      (and_from (ltb d 65) (shaped (suc d) (sprouts w (suc d) n ++ rest)) (lt-ltb d 65 (omega arith)) (shaped_sprouts n (suc d) rest (omega arith) l h))

-- ---- other rows in the place of the last

shaped_swap : (i : ℕ) (p : List ℕ) (rs ss : List Row) → shaped (length p) rs ≡ true → shaped (length (after p (take i rs))) ss ≡ true → shaped (length p) (take i rs ++ ss) ≡ true
shaped_swap zero p rs ss h k = k
shaped_swap (suc i) p [] ss h k = k
shaped_swap (suc i) p (r ∷ rs) ss h k =
    let s = shaped_parts (length p) r rs h in
    let long = length_way p r s.deep in
    let rest = take i rs ++ ss in
    and_from (leb r.depth (length p)) (ltb r.depth 65 && shaped (suc r.depth) rest) (le-leb r.depth (length p) s.deep)
    (and_from (ltb r.depth 65) (shaped (suc r.depth) rest) (lt-ltb r.depth 65 s.few)
    (subst (λ j. shaped j rest ≡ true) long (shaped_swap i (way p r) rs ss (subst (λ j. shaped j rs ≡ true) (sym long) s.behind) k)))

module _ (w : List ℕ) (rs : List Row) (i d : ℕ) (s : Spotted w rs i d) where
  abbrev before : List ℕ
  before = after [] (take i rs)

  abbrev count : ℕ
  count = length w - d

  here : Spells w before (sprouts w d count)
  here =
      let e : suc (count - 1) + d ≡ length w = omega (arith, s.short) in
      let k : suc (count - 1) ≡ count = omega (arith, s.short) in
      subst (λ n. Spells w before (sprouts w d n)) k (spells w (count - 1) d before e s.shared)

  -- the word among the keys that the rows hold
  pub paths_grown : paths [] (grown w rs i d) ≡ paths [] (take i rs) ++ w ∷ paths before (drop i rs)
  paths_grown =
      paths_append [] (take i rs) (sprouts w d count ++ drop i rs)
      ∙ ap (λ z. paths [] (take i rs) ++ z) (paths_append before (sprouts w d count) (drop i rs)
      ∙ ap (λ z. z ++ paths (after before (sprouts w d count)) (drop i rs)) here.held
      ∙ ap (λ q. w ∷ paths q (drop i rs)) here.leads
      ∙ ap (λ z. w ∷ z) (paths_lead w before (drop i rs) d s.apart (sym s.shared)))

  pub paths_split : paths [] rs ≡ paths [] (take i rs) ++ paths before (drop i rs)
  paths_split = ap (paths []) (sym (take-append-drop i rs)) ∙ paths_append [] (take i rs) (drop i rs)

  pub shaped_grown : shaped 0 rs ≡ true → length w ≤ 65 → shaped 0 (grown w rs i d) ≡ true
  shaped_grown h l =
      let rest = drop i rs in
      let low : shaped d rest ≡ true = lower (length before) d rest (shaped_drop i [] rs h) s.apart in
      let k = s.short in
      shaped_swap i [] rs (sprouts w d count ++ rest) h (widen d (length before) (sprouts w d count ++ rest) (shaped_sprouts w count d rest (omega arith) l (widen d (length w) rest low (omega arith))) s.deep)

-- ---- among the keys, in another order

-- one entry moved from the end
moved_front : {X : Type 0} (x : X) (ys : List X) → Reordered (ys ++ x ∷ []) (x ∷ ys)
moved_front x [] = same none
moved_front x (y ∷ ys) = next (same (moved_front x ys)) swap

pub moved : {X : Type 0} (xs ys : List X) (x : X) → Reordered ((xs ++ ys) ++ x ∷ []) (xs ++ x ∷ ys)
moved [] ys x = moved_front x ys
moved (z ∷ xs) ys x = same (moved xs ys x)

pub few_paths : (p : List ℕ) (rs : List Row) → length (paths p rs) ≤ length rs
few_paths p [] = omega arith
few_paths p (r ∷ rs) = let h = few_paths (way p r) rs in cond_both r.ends (way p r ∷ paths (way p r) rs) (paths (way p r) rs) (λ z. length z ≤ suc (length rs)) (λ _. omega arith) (λ _. omega arith)

-- a word put in is one key more
pub record Put (w : List ℕ) (rs ss : List Row) : Type 0 where
  pub items : Reordered (paths [] rs ++ w ∷ []) (paths [] ss)
  pub linked : linked ss ≡ true
  pub shaped : shaped 0 ss ≡ true
  pub bearing : bearing ss ≡ true

pub put_word : (w : List ℕ) (rs ss : List Row) → shaped 0 rs ≡ true → length w ≤ 65 → PutIn w rs ss → Put w rs ss
put_word w rs ss h l (i, d, s, e) =
    let g = shaped_grown w rs i d s h l in
    let q : paths [] ss ≡ paths [] (take i rs) ++ w ∷ paths (after [] (take i rs)) (drop i rs) = ap (paths []) e ∙ paths_settled [] (grown w rs i d) g ∙ paths_grown w rs i d s in
    let m = moved (paths [] (take i rs)) (paths (after [] (take i rs)) (drop i rs)) w in
    record {
      items = subst (λ z. Reordered (paths [] rs ++ w ∷ []) z) (sym q) (subst (λ z. Reordered (z ++ w ∷ []) (paths [] (take i rs) ++ w ∷ paths (after [] (take i rs)) (drop i rs))) (sym (paths_split w rs i d s)) m);
      linked = ap linked e ∙ linked_settled (grown w rs i d) [] refl;
      shaped = ap (shaped 0) e ∙ shaped_settled 0 (grown w rs i d) g;
      bearing = ap bearing e ∙ bearing_settled (grown w rs i d) [] refl;
    }
