-- Keys let go. Assumes nothing.
use Rattle.std.proofs.Common.{◌≡◌, ℕ, zero, suc, ◌+◌, ◌-◌, ◌<◌, Bool, true, false, cond, not, ◌&&◌, eqb, ltb, leb, List, [], ◌∷◌, ◌++◌, length, get_or, take, drop, set, sym, refl, ap, ◌∙◌, subst, arith}
use Rattle.std.proofs.lemmas.List.{append_assoc, length-append, length-take-le, take_more, get_or-append_right, set-append_right}
use Rattle.keys.specs.Numbers.{contained}
use Rattle.tries.specs.declared.row.Row.{Row}
use Rattle.tries.specs.Rows.{way, after, paths, run, linked, shaped}
use Rattle.tries.specs.Changes.{kept, freed, released}
use Rattle.tries.proofs.Paths.{Parts, length_way, shaped_parts, paths_append, after_append}
use Rattle.tries.proofs.Walks.{blank, read_at}

-- ---- the shape from a row on

pub shaped_drop : (i : ℕ) (p : List ℕ) (rs : List Row) → shaped (length p) rs ≡ true → shaped (length (after p (take i rs))) (drop i rs) ≡ true
shaped_drop zero p rs h = h
shaped_drop (suc i) p [] h = h
shaped_drop (suc i) p (r ∷ rs) h = let s = shaped_parts (length p) r rs h in shaped_drop i (way p r) rs (subst (λ k. shaped k rs ≡ true) (sym (length_way p r s.deep)) s.behind)

pub parts_at : (rs : List Row) (i : ℕ) → shaped 0 rs ≡ true → i < length rs → Parts (length (after [] (take i rs))) (get_or rs i blank) (drop (i + 1) rs)
parts_at rs i h l = shaped_parts (length (after [] (take i rs))) (get_or rs i blank) (drop (i + 1) rs) (subst (λ z. shaped (length (after [] (take i rs))) z ≡ true) (read_at rs i l) (shaped_drop i [] rs h))

module _ (v : List ℕ) where
  -- ---- what stays as it is

  pub released_append : (p : List ℕ) (rs ss : List Row) → released v p (rs ++ ss) ≡ released v p rs ++ released v (after p rs) ss
  released_append p [] ss = refl
  released_append p (r ∷ rs) ss = ap (λ z. freed v (way p r) r ∷ z) (released_append (way p r) rs ss)

  pub after_released : (p q : List ℕ) (rs : List Row) → after p (released v q rs) ≡ after p rs
  after_released p q [] = refl
  after_released p q (r ∷ rs) = after_released (way p r) (way q r) rs

  pub length_released : (p : List ℕ) (rs : List Row) → length (released v p rs) ≡ length rs
  length_released p [] = refl
  length_released p (r ∷ rs) = ap suc (length_released (way p r) rs)

  run_released : (d : ℕ) (p : List ℕ) (rs : List Row) → run d (released v p rs) ≡ run d rs
  run_released d p [] = refl
  run_released d p (r ∷ rs) = ap (λ k. cond (ltb d r.depth) (suc k) 0) (run_released d (way p r) rs)

  linked_released : (p : List ℕ) (rs : List Row) → linked (released v p rs) ≡ linked rs
  linked_released p [] = refl
  linked_released p (r ∷ rs) =
      ap (λ k. eqb r.skip (suc k) && linked (released v (way p r) rs)) (run_released r.depth (way p r) rs)
      ∙ ap (λ b. eqb r.skip (suc (run r.depth rs)) && b) (linked_released (way p r) rs)

  pub shaped_released : (n : ℕ) (p : List ℕ) (rs : List Row) → shaped n (released v p rs) ≡ shaped n rs
  shaped_released n p [] = refl
  shaped_released n p (r ∷ rs) = ap (λ b. leb r.depth n && (ltb r.depth 65 && b)) (shaped_released (suc r.depth) (way p r) rs)

  pub links_released : (p : List ℕ) (rs : List Row) → linked rs ≡ true → linked (released v p rs) ≡ true
  links_released p rs h = linked_released p rs ∙ h

  -- the keys that contain all of v are gone
  pub paths_released : (p : List ℕ) (rs : List Row) → paths p (released v p rs) ≡ kept v (paths p rs)
  paths_released p [] = refl
  paths_released p (r ∷ rs) = both r.ends (contained v (way p r)) refl (paths_released (way p r) rs)
    where
      both : (b t : Bool) → contained v (way p r) ≡ t → paths (way p r) (released v (way p r) rs) ≡ kept v (paths (way p r) rs)
          → cond (b && not (contained v (way p r))) (way p r ∷ paths (way p r) (released v (way p r) rs)) (paths (way p r) (released v (way p r) rs))
          ≡ kept v (cond b (way p r ∷ paths (way p r) rs) (paths (way p r) rs))
      both true true t e = ap (λ b. cond (not b) (way p r ∷ paths (way p r) (released v (way p r) rs)) (paths (way p r) (released v (way p r) rs))) t ∙ e
          ∙ sym (ap (λ b. cond (not b) (way p r ∷ kept v (paths (way p r) rs)) (kept v (paths (way p r) rs))) t)
      both true false t e = ap (λ b. cond (not b) (way p r ∷ paths (way p r) (released v (way p r) rs)) (paths (way p r) (released v (way p r) rs))) t ∙ ap (λ z. way p r ∷ z) e
          ∙ sym (ap (λ b. cond (not b) (way p r ∷ kept v (paths (way p r) rs)) (kept v (paths (way p r) rs))) t)
      both false t f e = e

  -- ---- one row more

  module _ (old rows : List Row) (i : ℕ) (l : i < length old) (e : rows ≡ released v [] (take i old) ++ drop i old) where
    long : length (released v [] (take i old)) ≡ i
    long = length_released [] (take i old) ∙ length-take-le i old (omega arith)

    zeroth : i - i ≡ 0
    zeroth = omega arith

    pub released_row : get_or rows i blank ≡ get_or old i blank
    released_row =
        ap (λ z. get_or z i blank) e ∙ get_or-append_right (released v [] (take i old)) (drop i old) i i blank long (omega arith)
        ∙ ap (λ k. get_or (drop i old) k blank) zeroth ∙ ap (λ z. get_or z 0 blank) (read_at old i l)

    pub after_more : after [] (take (i + 1) old) ≡ way (after [] (take i old)) (get_or old i blank)
    after_more = ap (after []) (take_more old i blank l) ∙ after_append [] (take i old) (get_or old i blank ∷ [])

    front : released v [] (take (i + 1) old) ≡ released v [] (take i old) ++ freed v (way (after [] (take i old)) (get_or old i blank)) (get_or old i blank) ∷ []
    front = ap (released v []) (take_more old i blank l) ∙ released_append [] (take i old) (get_or old i blank ∷ [])

    pub released_more : (x : Row) → x ≡ freed v (way (after [] (take i old)) (get_or old i blank)) (get_or old i blank) → set rows i x ≡ released v [] (take (i + 1) old) ++ drop (i + 1) old
    released_more x is =
        ap (λ z. set z i x) e ∙ set-append_right (released v [] (take i old)) (drop i old) i i x long (omega arith)
        ∙ ap (λ k. released v [] (take i old) ++ set (drop i old) k x) zeroth ∙ ap (λ z. released v [] (take i old) ++ set z 0 x) (read_at old i l)
        ∙ ap (λ y. released v [] (take i old) ++ y ∷ drop (i + 1) old) is
        ∙ sym (append_assoc (released v [] (take i old)) (freed v (way (after [] (take i old)) (get_or old i blank)) (get_or old i blank) ∷ []) (drop (i + 1) old))
        ∙ sym (ap (λ z. z ++ drop (i + 1) old) front)

    pub count_more : (b : Bool) → b ≡ (freed v (way (after [] (take i old)) (get_or old i blank)) (get_or old i blank)).ends
        → length (paths [] (released v [] (take (i + 1) old))) ≡ length (paths [] (released v [] (take i old))) + cond b 1 0
    count_more b is =
        let x = freed v (way (after [] (take i old)) (get_or old i blank)) (get_or old i blank) in
        let q = after [] (released v [] (take i old)) in
        ap (λ z. length (paths [] z)) front ∙ ap length (paths_append [] (released v [] (take i old)) (x ∷ []))
        ∙ length-append (paths [] (released v [] (take i old))) (paths q (x ∷ []))
        ∙ ap (λ k. length (paths [] (released v [] (take i old))) + k) (one q x b is)
      where
        one : (q : List ℕ) (x : Row) (b : Bool) → b ≡ x.ends → length (paths q (x ∷ [])) ≡ cond b 1 0
        one q x b is = cases x.ends refl ∙ sym (ap (λ t. cond t 1 0) is)
          where
            cases : (t : Bool) → x.ends ≡ t → length (cond x.ends (way q x ∷ []) []) ≡ cond x.ends 1 0
            cases true h = ap (λ t. length (cond t (way q x ∷ []) [])) h ∙ sym (ap (λ t. cond t 1 0) h)
            cases false h = ap (λ t. length (cond t (way q x ∷ []) [])) h ∙ sym (ap (λ t. cond t 1 0) h)
