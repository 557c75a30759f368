-- The search for the place of a word. Assumes nothing.
use Rattle.std.proofs.Common.{◌≡◌, ℕ, suc, ◌+◌, ◌<◌, ◌≤◌, true, List, [], ◌∷◌, ◌++◌, length, get_or, take, drop, sym, refl, ap, ◌∙◌, subst, ⊎_elim, arith, append_assoc, take-append-drop}
use Rattle.std.proofs.lemmas.Bool.{cases_lt}
use Rattle.std.proofs.lemmas.List.{take_more, take-take, length-take-le}
use Rattle.tries.specs.declared.row.Row.{Row}
use Rattle.tries.specs.Rows.{way, after, run, linked, shaped}
use Rattle.tries.proofs.Paths.{Parts, length_way, way_take, run_deeper, run_stops, shaped_parts, linked_parts, after_append}
use Rattle.tries.proofs.Walks.{drop_linked}

-- the rows in front, whose last shares d numbers with the word, and the rows ahead
pub record Search (w : List ℕ) (rows ahead : List Row) (d : ℕ) : Type 0 where
  pub front : List Row
  pub whole : rows ≡ front ++ ahead
  pub short : d < length w
  pub shared : take d (after [] front) ≡ take d w
  pub deep : d ≤ length (after [] front)
  pub linked : linked ahead ≡ true
  pub shaped : shaped (length (after [] front)) ahead ≡ true

-- the way behind the rows deeper than d shares d numbers with the way before them
record Behind (k d : ℕ) (q : List ℕ) (rs : List Row) : Type 0 where
  same : take d (after q (take k rs)) ≡ take d q
  long : d ≤ length (after q (take k rs))
  shaped : shaped (length (after q (take k rs))) (drop k rs) ≡ true

behind : (d : ℕ) (q : List ℕ) (rs : List Row) → shaped (length q) rs ≡ true → d ≤ length q → Behind (run d rs) d q rs
behind d q [] h l = record { same = refl; long = l; shaped = refl }
behind d q (r ∷ rs) h l =
    let s = shaped_parts (length q) r rs h in
    ⊎_elim
    (λ (m : d < r.depth).
    let long = length_way q r s.deep in
    let b = behind d (way q r) rs (subst (λ k. shaped k rs ≡ true) (sym long) s.behind) (omega arith) in
    let x : Behind (suc (run d rs)) d q (r ∷ rs) = record { same = b.same ∙ way_take q r d (omega arith) s.deep; long = b.long; shaped = b.shaped } in
    subst (λ k. Behind k d q (r ∷ rs)) (sym (run_deeper d r rs m)) x)
    (λ (m : r.depth ≤ d).
    let x : Behind 0 d q (r ∷ rs) = record { same = refl; long = l; shaped = h } in
    subst (λ k. Behind k d q (r ∷ rs)) (sym (run_stops d r rs m)) x)
    (cases_lt d r.depth)

module _ (w : List ℕ) (rows ahead : List Row) (d : ℕ) (s : Search w rows ahead d) where
  module _ (row : Row) (rest : List Row) (e : ahead ≡ row ∷ rest) where
    abbrev before : List ℕ
    before = after [] s.front

    parts : Parts (length before) row rest
    parts = shaped_parts (length before) row rest (subst (λ z. shaped (length before) z ≡ true) e s.shaped)

    links : (row.skip ≡ suc (run row.depth rest)) × (linked rest ≡ true)
    links = linked_parts row rest (subst (λ z. linked z ≡ true) e s.linked)

    -- one number more is shared
    pub search_next : row.depth ≡ d → d + 1 < length w → row.number ≡ get_or w d 0 → Search w rows rest (d + 1)
    search_next h m n = record {
      front = s.front ++ row ∷ [];
      whole = s.whole ∙ ap (λ z. s.front ++ z) e ∙ sym (append_assoc s.front (row ∷ []) rest);
      short = m;
      shared = ap (take (d + 1)) whole ∙ take-take (d + 1) (d + 1) w (omega arith);
      deep = omega (arith, ap length whole, length-take-le (d + 1) w (omega arith));
      linked = links.1;
      shaped = subst (λ k. shaped k rest ≡ true) (sym (ap length here ∙ length_way before row parts.deep)) parts.behind;
    }
      where
        here : after [] (s.front ++ row ∷ []) ≡ way before row
        here = after_append [] s.front (row ∷ [])

        whole : after [] (s.front ++ row ∷ []) ≡ take (d + 1) w
        whole = here ∙ ap (λ k. take k before ++ row.number ∷ []) h ∙ ap (λ z. z ++ row.number ∷ []) s.shared ∙ ap (λ k. take d w ++ k ∷ []) n ∙ sym (take_more w d 0 s.short)

    -- all beneath the row is passed over
    pub search_skip : d ≤ row.depth → (next : List Row) → next ≡ drop (run row.depth rest) rest → Search w rows next d
    search_skip m next is =
        let k = run row.depth rest in
        let b = behind row.depth (way before row) rest (subst (λ j. shaped j rest ≡ true) (sym (length_way before row parts.deep)) parts.behind) (omega (arith, length_way before row parts.deep)) in
        let there : after [] (s.front ++ row ∷ take k rest) ≡ after (way before row) (take k rest) = after_append [] s.front (row ∷ take k rest) in
        subst (λ z. Search w rows z d) (sym is) (record {
          front = s.front ++ row ∷ take k rest;
          whole = s.whole ∙ ap (λ z. s.front ++ z) (e ∙ ap (λ z. row ∷ z) (sym (take-append-drop k rest))) ∙ sym (append_assoc s.front (row ∷ take k rest) (drop k rest));
          short = s.short;
          shared = ap (take d) there ∙ sym (take-take d row.depth (after (way before row) (take k rest)) m) ∙ ap (take d) b.same ∙ take-take d row.depth (way before row) m
              ∙ way_take before row d m parts.deep ∙ s.shared;
          deep = omega (arith, b.long, ap length there);
          linked = drop_linked k rest links.1;
          shaped = subst (λ q. shaped (length q) (drop k rest) ≡ true) (sym there) b.shaped;
        })
