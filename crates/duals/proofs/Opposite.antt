-- Where one automaton has the dual of another, values, steps and sequences worked back are opposite.
use Rattle.std.proofs.Common.{◌≡◌, ℕ, zero, suc, ◌+◌, ◌<◌, ◌≤◌, Bool, true, false, not, ◌&&◌, ◌||◌, List, [], ◌∷◌, length, get_or, take, sym, refl, ap, ◌∙◌, ⊎_elim, arith}
use Rattle.std.proofs.lemmas.Bool.{and_parts, both_ways, cases_Bool, true≢false, false≢true}
use Rattle.sets.specs.Sets.{has}
use Rattle.sets.proofs.Members.{has_set_of}
use Rattle.patterns.specs.declared.row.Row.{Row}
use Rattle.patterns.specs.Automaton.{Automaton, states, root, row, blank}
use Rattle.patterns.specs.Questions.{free}
use Rattle.patterns.specs.Formed.{Proper, constant_0, constant_1, state, signal, conjunction, disjunction, negation, Formed}
use Rattle.patterns.specs.Values.{row_value_of, values, value, back}
use Rattle.patterns.proofs.Accepting.{backs}
use Rattle.patterns.proofs.Depending.{value_row}
use Rattle.patterns.proofs.Folding.{entry, front}
use Rattle.patterns.proofs.Marking.{marks}
use Rattle.duals.specs.Dual.{copy_at, dual_at, copied, exchanged}
use Rattle.duals.proofs.Marked.{is_free, free_marked}
use Rattle.duals.proofs.Dualised.{Dualised, operand, copy_is, dual_free, dual_bound, copies_proper, duals_proper}

-- a proper row looks at the values of the rows before it alone
looks : (E : Automaton) (a d x : ℕ) (vs ws : List Bool) → ((j : ℕ) → j < x → get_or vs j false ≡ get_or ws j false)
    → (r : Row) → Proper E x r → row_value_of a d vs r ≡ row_value_of a d ws r
looks E a d x vs ws e r constant_0 = refl
looks E a d x vs ws e r constant_1 = refl
looks E a d x vs ws e r (state m) = refl
looks E a d x vs ws e r (signal m) = refl
looks E a d x vs ws e r (conjunction {j} {k} m o) =
    ap (λ (y : Bool). y && get_or vs k false) (e j m) ∙ ap (λ (y : Bool). get_or ws j false && y) (e k o)
looks E a d x vs ws e r (disjunction {j} {k} m o) =
    ap (λ (y : Bool). y || get_or vs k false) (e j m) ∙ ap (λ (y : Bool). get_or ws j false || y) (e k o)
looks E a d x vs ws e r (negation {j} m f) = ap not (e j m)

-- the value of a proper row is its operation on the values of the rows that it names, whatever the other rows are
pub value_proper : (E : Automaton) (a d x : ℕ) → x < length E.rows → Proper E x (row E x)
    → value E a d x ≡ row_value_of a d (values E.rows a d) (row E x)
value_proper E a d x h p =
    let z : 0 + x ≡ x = omega arith in
    sym (ap (λ (j : ℕ). value E a d j) z)
    ∙ entry (row_value_of a d) [] E.rows x blank h
    ∙ looks E a d x (values (take x E.rows) a d) (values E.rows a d)
    (λ j l. front (row_value_of a d) E.rows x j l (omega arith)) (row E x) p

not_and : (x y : Bool) → (not x || not y) ≡ not (x && y)
not_and true y = refl
not_and false y = refl

not_or : (x y : Bool) → (not x && not y) ≡ not (x || y)
not_or true y = refl
not_or false y = refl

module _ (A E : Automaton) (b n : ℕ) (F : Formed A) (D : Dualised A E b n) where
  module _ (a d d' : ℕ) (opposite : (q : ℕ) → q < states A → has d (n + q) ≡ not (has d' q)) where
    copied_value : (i : ℕ) (r : Row) → i ≤ length A.rows → Proper A i r → free (marks A i) r ≡ true
        → ((j : ℕ) → j < i → is_free A j ≡ true → value E a d (copy_at b j) ≡ value A a d' j)
        → row_value_of a d (values E.rows a d) (copied b r) ≡ row_value_of a d' (values A.rows a d') r
    copied_value i r l constant_0 f ih = refl
    copied_value i r l constant_1 f ih = refl
    copied_value i r l (state m) f ih = absurd (false≢true f)
    copied_value i r l (signal m) f ih = refl
    copied_value i r l (conjunction {j} {k} m o) f ih =
        let p = and_parts (get_or (marks A i) j false) (get_or (marks A i) k false) f in
        ap (λ (y : Bool). y && value E a d (copy_at b k)) (ih j m (operand A E b n F D i j l m p.0))
        ∙ ap (λ (y : Bool). value A a d' j && y) (ih k o (operand A E b n F D i k l o p.1))
    copied_value i r l (disjunction {j} {k} m o) f ih =
        let p = and_parts (get_or (marks A i) j false) (get_or (marks A i) k false) f in
        ap (λ (y : Bool). y || value E a d (copy_at b k)) (ih j m (operand A E b n F D i j l m p.0))
        ∙ ap (λ (y : Bool). value A a d' j || y) (ih k o (operand A E b n F D i k l o p.1))
    copied_value i r l (negation {j} m g) f ih = ap not (ih j m (operand A E b n F D i j l m f))

    -- the copy of a row free of states has the row's value
    copy_value : (k i : ℕ) → i < k → i < length A.rows → is_free A i ≡ true → value E a d (copy_at b i) ≡ value A a d' i
    copy_value zero i l h e = absurd (omega arith)
    copy_value (suc k) i l h e =
        let long = D.long in
        value_proper E a d (copy_at b i) (omega arith) (copies_proper A E b n F D i h)
        ∙ ap (row_value_of a d (values E.rows a d)) (copy_is A E b n F D i h e)
        ∙ copied_value i (row A i) (omega arith) (F.proper i h) e (λ j m. copy_value k j (omega arith) (omega arith))
        ∙ sym (value_row A F a d' i h)

    exchanged_value : (i : ℕ) (r : Row) → i ≤ length A.rows → Proper A i r → free (marks A i) r ≡ false
        → ((j : ℕ) → j < i → value E a d (dual_at b j) ≡ not (value A a d' j))
        → row_value_of a d (values E.rows a d) (exchanged b n r) ≡ not (row_value_of a d' (values A.rows a d') r)
    exchanged_value i r l constant_0 f ih = absurd (true≢false f)
    exchanged_value i r l constant_1 f ih = absurd (true≢false f)
    exchanged_value i r l (state {q} m) f ih = opposite q m
    exchanged_value i r l (signal m) f ih = absurd (true≢false f)
    exchanged_value i r l (conjunction {j} {k} m o) f ih =
        ap (λ (y : Bool). y || value E a d (dual_at b k)) (ih j m)
        ∙ ap (λ (y : Bool). not (value A a d' j) || y) (ih k o)
        ∙ not_and (value A a d' j) (value A a d' k)
    exchanged_value i r l (disjunction {j} {k} m o) f ih =
        ap (λ (y : Bool). y && value E a d (dual_at b k)) (ih j m)
        ∙ ap (λ (y : Bool). not (value A a d' j) && y) (ih k o)
        ∙ not_or (value A a d' j) (value A a d' k)
    exchanged_value i r l (negation {j} m g) f ih =
        absurd (both_ways (get_or (marks A i) j false) f (free_marked A F g i m l))

    -- the dual of a row has the opposite of the row's value
    pub dual_value : (k i : ℕ) → i < k → i < length A.rows → value E a d (dual_at b i) ≡ not (value A a d' i)
    dual_value zero i l h = absurd (omega arith)
    dual_value (suc k) i l h =
        let long = D.long in
        value_proper E a d (dual_at b i) (omega arith) (duals_proper A E b n F D i h)
        ∙ ⊎_elim
        (λ (e : is_free A i ≡ true).
        ap (row_value_of a d (values E.rows a d)) (dual_free A E b n F D i h e)
        ∙ ap not (copy_value (1 + i) i (omega arith) h e))
        (λ (e : is_free A i ≡ false).
        ap (row_value_of a d (values E.rows a d)) (dual_bound A E b n F D i h e)
        ∙ exchanged_value i (row A i) (omega arith) (F.proper i h) e (λ j m. dual_value k j (omega arith) (omega arith))
        ∙ ap not (sym (value_row A F a d' i h)))
        (cases_Bool (is_free A i))

    -- one step back keeps the sets opposite
    pub back_opposite : (q : ℕ) → q < states A → has (back E a d) (n + q) ≡ not (has (back A a d') q)
    back_opposite q h =
        let fits = D.fits in
        has_set_of (λ (j : ℕ). value E a d (root E j)) (states E) (n + q) (omega arith)
        ∙ ap (value E a d) (D.roots q h)
        ∙ dual_value (1 + root A q) (root A q) (omega arith) (F.rooted q h)
        ∙ ap not (sym (has_set_of (λ (j : ℕ). value A a d' (root A j)) (states A) q h))

  -- and so does a whole sequence, from the final sets
  pub backs_opposite : (es : List ℕ) (q : ℕ) → q < states A
      → has (backs E es E.finals) (n + q) ≡ not (has (backs A es A.finals) q)
  backs_opposite [] q h = D.ends q h
  backs_opposite (a ∷ es) q h =
      back_opposite a (backs E es E.finals) (backs A es A.finals) (backs_opposite es) q h
