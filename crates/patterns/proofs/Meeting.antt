-- A pattern meets every question.
use Rattle.std.proofs.Common.{◌≡◌, ℕ, zero, suc, ◌+◌, ◌*◌, ◌^◌, ◌<◌, ◌≤◌, Bool, true, false, ◌&&◌, ltb, leb, List, [], ◌∷◌, length, get_or, take, is_some, is_ok, Some, None, Ok, Err, Decides, fold, Option, Result, sym, refl, ap, ◌∙◌, pow-suc, arith, MatchResult}
use Rattle.std.proofs.lemmas.Bool.{and_from, lt-ltb, le-leb, false≢true}
use Rattle.std.proofs.lemmas.Bool.Decides.{nat_tests}
use Rattle.sets.proofs.Members.{decides_below}
use Rattle.patterns.specs.declared.row.Row.{Row}
use Rattle.patterns.specs.declared.fault.Fault.{Fault}
use Rattle.patterns.specs.declared.fault.Fault.TheVariants.{Sizes, Ends, Root, Operand, Negation}
use Rattle.patterns.specs.Automaton.{Automaton, states, row, blank}
use Rattle.patterns.specs.Questions.{judged, sized, ended, roots_fault, rows_fault, row_fault, free_step, first, unless, known, ordered}
use Rattle.patterns.specs.Formed.{StateFree, leaf, pair, negated, Proper, constant_0, constant_1, state, signal, conjunction, disjunction, negation, Formed}
use Rattle.patterns.proofs.Forming.{formed}
use Rattle.patterns.proofs.Marking.{marks, length_marks, marked}

-- the operands of a proper row that are rows come before it
pub operands_before : (A : Automaton) (i : ℕ) (r : Row) → Proper A i r → ordered i r ≡ true
operands_before A i r constant_0 = refl
operands_before A i r constant_1 = refl
operands_before A i r (state l) = refl
operands_before A i r (signal l) = refl
operands_before A i r (conjunction {j} {k} l m) = and_from (ltb j i) (ltb k i) (lt-ltb j i l) (lt-ltb k i m)
operands_before A i r (disjunction {j} {k} l m) = and_from (ltb j i) (ltb k i) (lt-ltb j i l) (lt-ltb k i m)
operands_before A i r (negation {j} l f) = lt-ltb j i l

-- a proper row is known
pub known_proper : (A : Automaton) (i : ℕ) (r : Row) → Proper A i r → known r ≡ true
known_proper A i r constant_0 = refl
known_proper A i r constant_1 = refl
known_proper A i r (state l) = refl
known_proper A i r (signal l) = refl
known_proper A i r (conjunction l m) = refl
known_proper A i r (disjunction l m) = refl
known_proper A i r (negation l f) = refl

below_power : (n : ℕ) → n < 2 ^ n
below_power zero = omega arith
below_power (suc n) = let h = below_power n in let p : 2 ^ suc n ≡ 2 ^ n * 2 = pow-suc 2 n in omega arith

no_root_fault : (N q : ℕ) (roots : List ℕ) → ((k : ℕ) → k < length roots → get_or roots k 0 < N) → roots_fault N q roots ≡ None
no_root_fault N q [] h = refl
no_root_fault N q (r ∷ rs) h =
    ap (λ (b : Bool). first (unless b (Root q)) (roots_fault N (q + 1) rs)) (lt-ltb r N (h 0 (omega arith)))
    ∙ no_root_fault N (q + 1) rs (λ k l. h (suc k) (omega arith))

no_rows_fault : (n m : ℕ) (fs : List Bool) (rows : List Row)
    → ((k : ℕ) → k < length rows → row_fault n m (fold free_step fs (take k rows)) (get_or rows k blank) ≡ None)
    → rows_fault n m fs rows ≡ None
no_rows_fault n m fs [] h = refl
no_rows_fault n m fs (r ∷ rs) h =
    ap (λ (o : Option Fault). first o (rows_fault n m (free_step fs r) rs)) (h 0 (omega arith))
    ∙ no_rows_fault n m (free_step fs r) rs (λ k l. h (suc k) (omega arith))

module _ (A : Automaton) (F : Formed A) where
  -- a row free of states is marked so
  free_complete : {j : ℕ} → StateFree A j → (k : ℕ) → j < k → k ≤ length A.rows → get_or (marks A k) j false ≡ true
  free_complete {j} (leaf o) k h l = marked A k l j h ∙ grind (arith, nat_tests)
  free_complete {j} (pair o f g) k h l =
      let p = operands_before A j (row A j) (F.proper j (omega arith)) in
      let x = free_complete f j (grind (arith, nat_tests)) (omega arith) in
      let y = free_complete g j (grind (arith, nat_tests)) (omega arith) in
      marked A k l j h ∙ grind (arith, nat_tests)
  free_complete {j} (negated o f) k h l =
      let p = operands_before A j (row A j) (F.proper j (omega arith)) in
      let x = free_complete f j (grind (arith, nat_tests)) (omega arith) in
      marked A k l j h ∙ grind (arith, nat_tests)

  module _ (i : ℕ) (h : i ≤ length A.rows) where
    -- the questions after the operation's own, which every proper row meets
    placing : Bool → Bool → Option Fault
    placing p n = first (unless p (Operand (length (marks A i)))) (unless n (Negation (length (marks A i))))

    before : (j : ℕ) → j < i → ltb j (length (marks A i)) ≡ true
    before j l = let e = length_marks A i h in lt-ltb j (length (marks A i)) (omega arith)

    both_before : (j k : ℕ) → j < i → k < i → (ltb j (length (marks A i)) && ltb k (length (marks A i))) ≡ true
    both_before j k l m = and_from (ltb j (length (marks A i))) (ltb k (length (marks A i))) (before j l) (before k m)

    no_row_fault : (r : Row) → Proper A i r → row_fault (states A) A.signals (marks A i) r ≡ None
    unfolding placing
    no_row_fault r constant_0 = refl
    no_row_fault r constant_1 = refl
    no_row_fault r (state {q} l) = ap (λ (b : Bool). placing b true) (lt-ltb q (states A) l)
    no_row_fault r (signal {s} l) = ap (λ (b : Bool). placing b true) (lt-ltb s A.signals l)
    no_row_fault r (conjunction {j} {k} l m) = ap (λ (b : Bool). placing b true) (both_before j k l m)
    no_row_fault r (disjunction {j} {k} l m) = ap (λ (b : Bool). placing b true) (both_before j k l m)
    no_row_fault r (negation {j} l f) =
        ap (λ (b : Bool). placing b (get_or (marks A i) j false)) (before j l) ∙ ap (placing true) (free_complete f i l h)

  rows_meet : rows_fault (states A) A.signals [] A.rows ≡ None
  rows_meet = no_rows_fault (states A) A.signals [] A.rows (λ i h. no_row_fault i (omega arith) (row A i) (F.proper i h))

  sizes_meet : sized (states A) A.signals (length A.rows) ≡ true
  sizes_meet =
      let n = states A in
      let N = length A.rows in
      and_from (ltb 0 n) _ (lt-ltb 0 n F.some_states)
      (and_from (leb n 64) _ (le-leb n 64 F.few_states)
      (and_from (leb A.signals 16) _ (le-leb A.signals 16 F.few_signals)
      (and_from (ltb 0 N) _ (lt-ltb 0 N F.some_rows) (le-leb N 1024 F.few_rows))))

  ends_meet : ended (states A) A.start A.finals ≡ true
  ends_meet =
      and_from (ltb A.start (states A)) _ (lt-ltb A.start (states A) F.starts)
      ((decides_below A.finals A.finals (states A) (below_power A.finals)).1 F.ends)

  pub meets : judged A ≡ None
  unfolding judged
  meets =
      let n = states A in
      let N = length A.rows in
      let rows = rows_fault n A.signals [] A.rows in
      let roots = first (roots_fault N 0 A.roots) rows in
      ap (λ (b : Bool). first (unless b Sizes) (first (unless (ended n A.start A.finals) Ends) roots)) sizes_meet
      ∙ ap (λ (b : Bool). first (unless b Ends) roots) ends_meet
      ∙ ap (λ (o : Option Fault). first o rows) (no_root_fault N 0 A.roots F.rooted)
      ∙ rows_meet

-- the answer to all the questions says whether the tables are a pattern
pub decides_formed : (A : Automaton) (r : Result (Unit {0}) Fault)
    → MatchResult r (λ _. judged A ≡ None) (λ f. judged A ≡ Some f) → Decides (is_ok r) (Formed A)
decides_formed A (Ok _) e = ((λ _. formed A (ap is_some e)), λ _. refl)
decides_formed A (Err f) e = (
  (λ z. let t : ◌≡◌ {A = Bool} false true = z in absurd (false≢true t)),
  λ F. let t : ◌≡◌ {A = Option Fault} None (Some f) = sym (meets A F) ∙ e in absurd (let y : ◌≡◌ {A = ℕ} 0 1 = cc in omega arith),
)
