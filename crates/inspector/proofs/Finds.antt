-- The inspector's searches find what its answer is defined by. Assumes nothing.
use Rattle.std.proofs.Common.{◌≡◌, ℕ, zero, suc, ◌+◌, ◌<◌, ◌≤◌, Bool, true, false, ltb, List, length, get_or, is_some, Some, None, Option, refl, sym, ap, ◌∙◌, inl, inr, below_more, arith}
use Rattle.std.specs.List.{slice_get, find, position, position_or_len, range_with_len}
use Rattle.std.proofs.lemmas.List.Sums.{fails_before_first, passes_at_first}
use Rattle.std.proofs.lemmas.Option.{slice_get-get_or}
use Rattle.std.specs.Option.{option_map, MatchOption}
use Rattle.std.proofs.lemmas.Bool.{cases_Bool, cond-true, cond-false, ltb-true, ltb-false}
use Rattle.kinds.specs.Shape.{Shape}
use Rattle.kinds.specs.Accepted.{and_then}
use Rattle.kinds.proofs.Searches.{entry_at}
use Rattle.inspector.specs.Inspected.{least, has_such, leads_out, escaping_move, escape}
use Rattle.inspector.proofs.Leasts.{least_missing, least_first}

-- the answer to a question that is asked of a value, and that is no where there is none
pub such : {A : Type 0} (p : A → Bool) (o : Option A) (b : Bool) (Q : A → Type 0) → MatchOption o (b ≡ false) Q → ((x : A) → Q x → b ≡ p x) → b ≡ has_such p o
such p None b Q h f = h
such p (Some x) b Q h f = f x h

-- an option is what its value stays
pub same : {A : Type 0} (o : Option A) → o ≡ option_map (λ x. x) o
same None = refl
same (Some x) = refl

-- a search over a list finds the least place whose entry passes
module _ {C : Type 0} (q : C → Bool) (xs : List C) where
  at : (i : ℕ) (d : C) (b : Bool) → i < length xs → q (get_or xs i d) ≡ b → has_such q (slice_get xs i) ≡ b
  at i d b l e = ap (has_such q) (slice_get-get_or xs i d l) ∙ e

  pub position_is : position q xs ≡ least (λ i. has_such q (slice_get xs i)) (length xs)
  position_is =
      let k = position_or_len q xs in
      elim (cases_Bool (ltb k (length xs))) [
        | inl t ↦
            let l : k < length xs = ltb-true k (length xs) t in
            let y = (entry_at xs k l).0 in
            cond-true (ltb k (length xs)) (Some k) None t
            ∙ sym (least_first _ (length xs) k l (at k y true l (passes_at_first q xs y l))
            (λ j m. at j y false (omega arith) (fails_before_first q xs j y m)))
        | inr t ↦
            let l : length xs ≤ k = ltb-false k (length xs) t in
            cond-false (ltb k (length xs)) (Some k) None t
            ∙ sym (least_missing _ (length xs) (λ j m. let y = (entry_at xs j m).0 in at j y false m (fails_before_first q xs j y (omega arith))))
      ]

-- a search over numbers, all below a asked before, finds the least that passes
pub find_is : (p : ℕ → Bool) (a n : ℕ) → ((j : ℕ) → j < a → p j ≡ false) → find p (range_with_len a n) ≡ least p (a + n)
find_is p a zero h = sym (least_missing p (a + 0) (λ j l. h j (omega arith)))
find_is p a (suc n) h = elim (cases_Bool (p a)) [
  | inl t ↦ cond-true (p a) (Some a) _ t ∙ sym (least_first p (a + suc n) a (omega arith) t h)
  | inr t ↦
      let e : a + 1 + n ≡ a + suc n = omega arith in
      cond-false (p a) (Some a) _ t ∙ find_is p (a + 1) n (below_more (λ j. p j ≡ false) a h t) ∙ ap (least p) e
]

module _ {C : Type 0} (s : Shape C) (xs : List C) where
  -- no move before n leads out from y
  abbrev pub KeptIn : ℕ → C → Type 0
  KeptIn n y = (k : ℕ) → k < n → leads_out s xs k y ≡ false

  -- no move leads out from an entry before place n
  abbrev pub ClosedBefore : ℕ → Type 0
  ClosedBefore n = (j : ℕ) (d : C) → j < n → KeptIn s.moves (get_or xs j d)

  -- an entry with no move that leads out
  kept_in : (i : ℕ) (y : C) → slice_get xs i ≡ Some y → KeptIn s.moves y → escaping_move s xs i ≡ None
  kept_in i y e h = ap (λ o. least (λ k. has_such (leads_out s xs k) o) s.moves) e ∙ least_missing (λ k. leads_out s xs k y) s.moves h

  closed : (n : ℕ) → ClosedBefore n → (j : ℕ) → j < n → j < length xs → is_some (escaping_move s xs j) ≡ false
  closed n h j l m =
      let y = (entry_at xs j m).0 in
      ap is_some (kept_in j (get_or xs j y) (slice_get-get_or xs j y m) (h j y l))

  -- an escape is the entry that is found, with its least move
  pub escape_some : (i k : ℕ) → least (λ j. is_some (escaping_move s xs j)) (length xs) ≡ Some i → escaping_move s xs i ≡ Some k → escape s xs ≡ Some (i, k)
  escape_some i k e m = ap (λ o. and_then o (λ j. option_map (λ n. (j, n)) (escaping_move s xs j))) e ∙ ap (option_map (λ n. (i, n))) m

  -- where no move leads out from any entry, there is no escape
  pub no_escape : ClosedBefore (length xs) → None ≡ escape s xs
  no_escape h =
      sym (ap (λ o. and_then o (λ i. option_map (λ k. (i, k)) (escaping_move s xs i)))
      (least_missing (λ i. is_some (escaping_move s xs i)) (length xs) (λ j l. closed (length xs) h j l l)))

  -- the first move that is found to lead out is the escape
  pub escape_here : (i k : ℕ) (y : C) → i < length xs → y ≡ get_or xs i y → k < s.moves → leads_out s xs k y ≡ true
      → ClosedBefore i → KeptIn k y → Some (i, k) ≡ escape s xs
  escape_here i k y l e m out before kept =
      let there : slice_get xs i ≡ Some y = slice_get-get_or xs i y l ∙ ap Some (sym e) in
      let move : escaping_move s xs i ≡ Some k =
      ap (λ o. least (λ j. has_such (leads_out s xs j) o) s.moves) there ∙ least_first (λ j. leads_out s xs j y) s.moves k m out kept in
      sym (escape_some i k
      (least_first (λ j. is_some (escaping_move s xs j)) (length xs) i l (ap is_some move) (λ j n. closed i before j n (omega arith))) move)
