-- The keys that a trie holds, as configurations. Assumes nothing.
use Rattle.std.proofs.Common.{◌≡◌, ℕ, suc, ◌+◌, ◌-◌, ◌*◌, ◌/◌, ◌<◌, ◌≤◌, Bool, true, false, cond, not, ◌&&◌, ◌||◌, ltb, List, [], ◌∷◌, ◌++◌, map, length, Ok, Err, sym, refl, ap, ◌∙◌, subst, arith}
use lib.ListN.{length-map}
use Rattle.stores.specs.declared.refusals.Refused.TheVariants.{Covered, Full}
use Rattle.stores.specs.Admission.{admitted}
use Rattle.stores.proofs.Insertions.{admitted_new}
use Rattle.std.proofs.lemmas.Bool.{and_parts, and_from, cond_both, false≢true, both_ways}
use Rattle.kinds.specs.Shape.{Shape}
use Rattle.kinds.specs.Certificate.{covered}
use Rattle.stores.specs.Holding.{Reordered, none, same, swap, next, dropped, inserted, alike}
use Rattle.keys.specs.Numbers.{contained, proper, none as no_number}
use Rattle.keys.specs.Keys.{KeyOrder}
use Rattle.tries.specs.declared.row.Row.{Row}
use Rattle.tries.specs.Rows.{paths, reached, matched, proper_all}
use Rattle.tries.specs.Changes.{kept, put}
use Rattle.tries.specs.Words.{words, admitted_key}

pub reordered_map : {X Y : Type 0} (f : X → Y) {xs ys : List X} → Reordered xs ys → Reordered (map f xs) (map f ys)
reordered_map f none = none
reordered_map f (same p) = same (reordered_map f p)
reordered_map f swap = swap
reordered_map f (next p q) = next (reordered_map f p) (reordered_map f q)

module _ (leads : ℕ) where
  -- all may still be keys in another order
  swapped : (x y z : Bool) → (x && (y && z)) ≡ (y && (x && z))
  swapped true true z = refl
  swapped true false z = refl
  swapped false true z = refl
  swapped false false z = refl

  pub proper_reordered : {ws vs : List (List ℕ)} → Reordered ws vs → proper_all leads ws ≡ proper_all leads vs
  proper_reordered none = refl
  proper_reordered (same {x = w} p) = ap (λ b. proper leads w && b) (proper_reordered p)
  proper_reordered (swap {x = w} {y = v} {xs = ws}) = swapped (proper leads w) (proper leads v) (proper_all leads ws)
  proper_reordered (next p q) = proper_reordered p ∙ proper_reordered q

  pub proper_put : (v : List ℕ) (ws : List (List ℕ)) → proper leads v ≡ true → proper_all leads ws ≡ true → proper_all leads (put v ws) ≡ true
  proper_put v [] h a = and_from (proper leads v) true h refl
  proper_put v (w ∷ ws) h a =
      let b = and_parts (proper leads w) (proper_all leads ws) a in
      let rest = proper_put v ws h b.1 in
      cond_both (not (contained v w)) (w ∷ kept v ws) (kept v ws) (λ z. proper_all leads (z ++ v ∷ []) ≡ true)
      (λ _. and_from (proper leads w) (proper_all leads (put v ws)) b.0 rest) (λ _. rest)

  module _ {C : Type 0} (s : Shape C) (config : List ℕ → C) (keyed : KeyOrder leads s config) (v : List ℕ) (p : proper leads v ≡ true) where
    pub covered_keys : (ws : List (List ℕ)) → proper_all leads ws ≡ true → covered s (map config ws) (config v) ≡ reached v ws
    covered_keys [] a = refl
    covered_keys (w ∷ ws) a =
        let b = and_parts (proper leads w) (proper_all leads ws) a in
        ap (λ t. t || covered s (map config ws) (config v)) (keyed.order v w p b.0) ∙ ap (λ t. contained w v || t) (covered_keys ws b.1)

    pub alike_keys : (ws : List (List ℕ)) → proper_all leads ws ≡ true → alike s (map config ws) (config v) ≡ matched v ws
    alike_keys [] a = refl
    alike_keys (w ∷ ws) a =
        let b = and_parts (proper leads w) (proper_all leads ws) a in
        ap (λ t. (t && s.within (config w) (config v)) || alike s (map config ws) (config v)) (keyed.order v w p b.0)
        ∙ ap (λ t. (contained w v && t) || alike s (map config ws) (config v)) (keyed.order w v b.0 p)
        ∙ ap (λ t. (contained w v && contained v w) || t) (alike_keys ws b.1)

    pub inserted_keys : (ws : List (List ℕ)) → proper_all leads ws ≡ true → inserted s (config v) (map config ws) ≡ map config (put v ws)
    inserted_keys [] a = refl
    inserted_keys (w ∷ ws) a =
        let b = and_parts (proper leads w) (proper_all leads ws) a in
        ap (λ t. cond t (dropped s (config v) (map config ws)) (config w ∷ dropped s (config v) (map config ws)) ++ config v ∷ []) (keyed.order w v b.0 p)
        ∙ both (contained v w) (inserted_keys ws b.1)
      where
        both : (t : Bool) → inserted s (config v) (map config ws) ≡ map config (put v ws)
            → cond t (dropped s (config v) (map config ws)) (config w ∷ dropped s (config v) (map config ws)) ++ config v ∷ [] ≡ map config (cond (not t) (w ∷ kept v ws) (kept v ws) ++ v ∷ [])
        both true e = e
        both false e = ap (λ z. config w ∷ z) e

-- there is room for one key more
pub room_left : (used size rows : ℕ) → used ≤ 65 * size → size < (rows - 1) / 65 → used + 65 ≤ rows
room_left used size rows h l = omega arith

-- a key with no number takes the place of all others
pub put_root : (v : List ℕ) (ws : List (List ℕ)) → no_number v ≡ true → Reordered (put v ws) (words (no_number v) [])
put_root [] ws h = subst (λ z. Reordered (z ++ [] ∷ []) ([] ∷ [])) (sym (gone ws)) (same none)
  where
    gone : (ws : List (List ℕ)) → kept [] ws ≡ []
    gone [] = refl
    gone (w ∷ ws) = gone ws
put_root (n ∷ v) ws h = absurd (false≢true h)

pub root_size : (v : List ℕ) → no_number v ≡ true → 1 ≡ length (words (no_number v) [])
root_size [] h = refl
root_size (n ∷ v) h = absurd (false≢true h)

pub put_length : (v : List ℕ) (ws : List (List ℕ)) → length (put v ws) ≤ suc (length ws)
put_length v [] = omega arith
put_length v (w ∷ ws) =
    let h = put_length v ws in
    cond_both (not (contained v w)) (w ∷ kept v ws) (kept v ws) (λ z. length (z ++ v ∷ []) ≤ suc (suc (length ws))) (λ _. omega arith) (λ _. omega arith)

-- ---- an insertion that was admitted

module _ (leads : ℕ) {C : Type 0} (s : Shape C) (config : List ℕ → C) (keyed : KeyOrder leads s config) (v : List ℕ) (p : proper leads v ≡ true) (x : C) (is : config v ≡ x) (ws : List (List ℕ)) (a : proper_all leads ws ≡ true) (n : ℕ) where
  -- the answer to the key is the answer to the configuration
  pub answer : admitted_key v ws n ≡ admitted s x (map config ws) n
  answer =
      ap (λ b. cond b (Err Covered) (cond (ltb (length ws) n) (Ok tt) (Err Full))) (sym (covered_keys leads s config keyed v p ws a) ∙ ap (covered s (map config ws)) is)
      ∙ ap (λ k. cond (covered s (map config ws) x) (Err Covered) (cond (ltb k n) (Ok tt) (Err Full))) (sym (length-map ws config))

  -- what is known once the key is admitted: the answer, that none is covered and there is room, and what may be held then
  pub record Admitted : Type 0 where
    pub entered : Ok tt ≡ admitted s x (map config ws) n
    pub uncovered : reached v ws ≡ false
    pub fewer : length ws < n
    pub held : (vs : List (List ℕ)) → Reordered (put v ws) vs → Reordered (inserted s x (map config ws)) (map config vs)

  pub admission : Ok tt ≡ admitted_key v ws n → Admitted
  admission e =
      let told = admitted_new s x (map config ws) n (e ∙ answer) in
      record {
        entered = e ∙ answer;
        uncovered = sym (covered_keys leads s config keyed v p ws a) ∙ ap (covered s (map config ws)) is ∙ told.0;
        fewer = omega (arith, told.1, length-map ws config);
        held = λ vs r. subst (λ z. Reordered z (map config vs)) (sym (inserted_keys leads s config keyed v p ws a) ∙ ap (λ y. inserted s y (map config ws)) is) (reordered_map config r);
      }

-- where a key is not covered, none ends at the root
pub root_free : (root : Bool) (v : List ℕ) (rs : List Row) → reached v (words root rs) ≡ false → root ≡ false
root_free true v rs h = absurd (both_ways true h refl)
root_free false v rs h = refl

pub words_paths : (root : Bool) (rs : List Row) → root ≡ false → words root rs ≡ paths [] rs
words_paths root rs h = ap (λ b. words b rs) h

pub paths_words : (root : Bool) (rs : List Row) → length (paths [] rs) ≤ length (words root rs)
paths_words true rs = omega arith
paths_words false rs = omega arith
