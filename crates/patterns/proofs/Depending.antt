-- What the value of a row of a pattern depends on.
use Rattle.std.proofs.Common.{◌≡◌, ℕ, zero, suc, ◌+◌, ◌<◌, ◌≤◌, Bool, true, false, not, ◌&&◌, ◌||◌, List, [], length, get_or, take, sym, refl, ap, ◌∙◌, ⊎_elim, arith}
use Rattle.std.proofs.lemmas.Bool.{cases_lt, both_ways, and_parts, and_from, or_cases, or_left, or_right}
use Rattle.std.proofs.lemmas.Bool.Decides.{nat_tests}
use Rattle.std.proofs.lemmas.List.{get_or_past}
use Rattle.sets.specs.Sets.{has, Within}
use Rattle.patterns.specs.declared.row.Row.{Row}
use Rattle.patterns.specs.Automaton.{Automaton, states, row, blank}
use Rattle.patterns.specs.Values.{row_value_of, values, value}
use Rattle.patterns.specs.Formed.{StateFree, leaf, pair, negated, Proper, constant_0, constant_1, state, signal, conjunction, disjunction, negation, Formed}
use Rattle.patterns.proofs.Folding.{length_folded, entry, front}

module _ (A : Automaton) (F : Formed A) where
  -- a row looks at the signals below m and the states below n, and at nothing else
  alike : (a a' d d' i : ℕ) (vs ws : List Bool)
      → ((s : ℕ) → s < A.signals → has a s ≡ has a' s) → ((q : ℕ) → q < states A → has d q ≡ has d' q)
      → ((j : ℕ) → j < i → get_or vs j false ≡ get_or ws j false)
      → (r : Row) → Proper A i r → row_value_of a d vs r ≡ row_value_of a' d' ws r
  alike a a' d d' i vs ws on in' e r constant_0 = refl
  alike a a' d d' i vs ws on in' e r constant_1 = refl
  alike a a' d d' i vs ws on in' e r (state {q} m) = in' q m
  alike a a' d d' i vs ws on in' e r (signal {s} m) = on s m
  alike a a' d d' i vs ws on in' e r (conjunction {j} {k} m o) =
      ap (λ (x : Bool). x && get_or vs k false) (e j m) ∙ ap (λ (x : Bool). get_or ws j false && x) (e k o)
  alike a a' d d' i vs ws on in' e r (disjunction {j} {k} m o) =
      ap (λ (x : Bool). x || get_or vs k false) (e j m) ∙ ap (λ (x : Bool). get_or ws j false || x) (e k o)
  alike a a' d d' i vs ws on in' e r (negation {j} m f) = ap not (e j m)

  -- the value of a row is its operation on the values of the rows that it names
  pub value_row : (a d i : ℕ) → i < length A.rows → value A a d i ≡ row_value_of a d (values A.rows a d) (row A i)
  value_row a d i h =
      let z : 0 + i ≡ i = omega arith in
      sym (ap (λ (j : ℕ). value A a d j) z)
      ∙ entry (row_value_of a d) [] A.rows i blank h
      ∙ alike a a d d i (values (take i A.rows) a d) (values A.rows a d) (λ s l. refl) (λ q l. refl)
      (λ j l. front (row_value_of a d) A.rows i j l (omega arith)) (row A i) (F.proper i h)

  value_past : (a d i : ℕ) → length A.rows ≤ i → value A a d i ≡ false
  value_past a d i h =
      let e = length_folded (row_value_of a d) [] A.rows in
      get_or_past (values A.rows a d) i false (omega arith)

  pub value_same : (a a' d d' : ℕ)
      → ((s : ℕ) → s < A.signals → has a s ≡ has a' s) → ((q : ℕ) → q < states A → has d q ≡ has d' q)
      → (b i : ℕ) → i < b → i < length A.rows → value A a d i ≡ value A a' d' i
  value_same a a' d d' on in' zero i l h = absurd (omega arith)
  value_same a a' d d' on in' (suc b) i l h =
      value_row a d i h
      ∙ alike a a' d d' i (values A.rows a d) (values A.rows a' d') on in'
      (λ j m. value_same a a' d d' on in' b j (omega arith) (omega arith)) (row A i) (F.proper i h)
      ∙ sym (value_row a' d' i h)

  module _ (a d d' : ℕ) where
    by_row : (i : ℕ) → row_value_of a d (values A.rows a d) (row A i) ≡ row_value_of a d' (values A.rows a d') (row A i)
        → value A a d i ≡ value A a d' i
    by_row i e = ⊎_elim
        (λ (h : i < length A.rows). value_row a d i h ∙ e ∙ sym (value_row a d' i h))
        (λ (h : length A.rows ≤ i). value_past a d i h ∙ sym (value_past a d' i h))
        (cases_lt i (length A.rows))

    -- a row free of states is worth the same under any set
    pub value_free : {i : ℕ} → StateFree A i → value A a d i ≡ value A a d' i
    value_free {i} (leaf o) = by_row i (grind (arith, nat_tests))
    value_free {i} (pair o l r) =
        let x = value_free l in
        let y = value_free r in
        by_row i (grind (arith, nat_tests))
    value_free {i} (negated o l) =
        let x = value_free l in
        by_row i (grind (arith, nat_tests))

    grows : Within d d' → (i : ℕ) (vs ws : List Bool)
        → ((j : ℕ) → j < i → get_or vs j false ≡ true → get_or ws j false ≡ true)
        → ((j : ℕ) → j < i → StateFree A j → get_or vs j false ≡ get_or ws j false)
        → (r : Row) → Proper A i r → row_value_of a d vs r ≡ true → row_value_of a d' ws r ≡ true
    grows w i vs ws e s r constant_0 u = u
    grows w i vs ws e s r constant_1 u = u
    grows w i vs ws e s r (state {q} m) u = w q u
    grows w i vs ws e s r (signal m) u = u
    grows w i vs ws e s r (conjunction {j} {k} m o) u =
        let p = and_parts (get_or vs j false) (get_or vs k false) u in
        and_from (get_or ws j false) (get_or ws k false) (e j m p.0) (e k o p.1)
    grows w i vs ws e s r (disjunction {j} {k} m o) u = ⊎_elim
        (λ x. or_left (get_or ws j false) (get_or ws k false) (e j m x))
        (λ x. or_right (get_or ws j false) (get_or ws k false) (e k o x))
        (or_cases (get_or vs j false) (get_or vs k false) u)
    grows w i vs ws e s r (negation {j} m f) u = ap not (sym (s j m f)) ∙ u

    -- more states in the set make no row 0 that was 1
    pub value_grows : Within d d' → (b i : ℕ) → i < b → value A a d i ≡ true → value A a d' i ≡ true
    value_grows w zero i l t = absurd (omega arith)
    value_grows w (suc b) i l t = ⊎_elim
        (λ (h : i < length A.rows).
        value_row a d' i h
        ∙ grows w i (values A.rows a d) (values A.rows a d')
        (λ j m. value_grows w b j (omega arith)) (λ j m f. value_free f) (row A i) (F.proper i h)
        (sym (value_row a d i h) ∙ t))
        (λ (h : length A.rows ≤ i). absurd (both_ways (value A a d i) (value_past a d i h) t))
        (cases_lt i (length A.rows))
