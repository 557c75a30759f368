-- The walk from the last row along the origins. Assumes nothing.
use Rattle.std.proofs.Common.{◌≡◌, ℕ, zero, suc, ◌+◌, ◌-◌, ◌<◌, List, [], ◌∷◌, ◌++◌, length, take, drop, set, Some, None, Option, sym, refl, ap, ◌∙◌, inl, inr, not-suc-le-zero, arith}
use native.Mathlib.Nat.{sub-zero}
use lib.ListN.{length-map}
use Rattle.std.specs.List.{slice_get}
use Rattle.std.proofs.lemmas.Option.{slice_get_within}
use Rattle.std.proofs.lemmas.Bool.{cases_lt}
use Rattle.std.proofs.lemmas.List.{append-nil, append_assoc, take-append-drop, take_more_set, drop-set-lt, drop-drop}
use Rattle.kinds.specs.Shape.{Shape}
use Rattle.kinds.specs.Accepted.{events}
use Rattle.inspector.specs.Inspected.{if_found}
use Rattle.search.specs.declared.Find.{Find}
use Rattle.search.specs.Search.{length_at, along}
use Rattle.finds.specs.Intact.{Intact}
use Rattle.finds.specs.Results.{last_of, Chained, sequence_of}
use Rattle.finds.proofs.Intacts.{length_read}

-- intact rows are chained
pub intact_chained : {C : Type 0} {s : Shape C} {f : ℕ} {fs : List (Find C)} → Intact s f fs → Chained fs
intact_chained {C} {s} {f} h i y e l = elim (cases_lt i f) [
  | inl m ↦ let b = h.starts i y e m in absurd (omega arith)
  | inr m ↦ let b = h.follows i y e m in (b.from, b.there, b.longer)
]

module _ {C : Type 0} where
  -- a row of some length is there
  pub there_if_long : (fs : List (Find C)) (i : ℕ) → 0 < length_at fs i → (y : Find C) × (slice_get fs i ≡ Some y)
  there_if_long fs i l = found (slice_get fs i) l
    where
      found : (o : Option (Find C)) → 0 < if_found o (λ (z : Find C). z.length) 0 → (y : Find C) × (o ≡ Some y)
      found None l = absurd (not-suc-le-zero l)
      found (Some y) l = (y, refl)

  -- one step along the origins
  along_step : (fs : List (Find C)) (n i : ℕ) (y : Find C) → slice_get fs i ≡ Some y → along fs (suc n) i ≡ y.via ∷ along fs n y.origin
  along_step fs n i y e = ap (λ o. if_found o (λ (z : Find C). z.via ∷ along fs n z.origin) []) e

  -- a row's origin is one shorter
  pub origin_length : (fs : List (Find C)) → Chained fs → (n i : ℕ) (y : Find C) → slice_get fs i ≡ Some y → y.length ≡ suc n → length_at fs y.origin ≡ n
  origin_length fs chained n i y e l =
      let z = chained i y e (omega arith) in
      let q = z.2 in
      length_read fs y.origin z.0 z.1 ∙ omega arith

  -- the walk has as many steps as the row's length
  pub along_length : (fs : List (Find C)) → Chained fs → (n i : ℕ) → length_at fs i ≡ n → length (along fs n i) ≡ n
  along_length fs chained zero i e = refl
  along_length fs chained (suc n) i e =
      let y = there_if_long fs i (omega arith) in
      let q : y.0.length ≡ suc n = sym (length_read fs i y.0 y.1) ∙ e in
      ap length (along_step fs n i y.0 y.1) ∙ ap suc (along_length fs chained n y.0.origin (origin_length fs chained n i y.0 y.1 q))

module _ {C : Type 0} (s : Shape C) (fs : List (Find C)) where
  -- so the sequence has as many events as the last row's length
  pub sequence_length : Chained fs → length (sequence_of s fs) ≡ length_at fs (last_of fs)
  sequence_length chained = length-map (along fs (length_at fs (last_of fs)) (last_of fs)) s.event ∙ along_length fs chained (length_at fs (last_of fs)) (last_of fs) refl

  -- i events are written, and row is next
  pub record Walking (count : ℕ) (before list : List ℕ) (i row : ℕ) : Type 0 where
    pub front : take i list ++ events s (along fs (count - i) row) ≡ events s (along fs count (last_of fs))
    pub rest : drop i list ≡ drop i before
    pub here : length_at fs row ≡ count - i

  pub walking_none : (count : ℕ) (before : List ℕ) → count ≡ length_at fs (last_of fs) → Walking count before before 0 (last_of fs)
  walking_none count before e = record { front = ap (λ n. events s (along fs n (last_of fs))) (sub-zero count); rest = refl; here = sym (sub-zero count ∙ e) }

  pub walking_more :
      Chained fs → {count : ℕ} {before list : List ℕ} {i row : ℕ} → Walking count before list i row → i < count → i < length list
      → (y : Find C) → slice_get fs row ≡ Some y → Walking count before (set list i (s.event y.via)) (i + 1) y.origin
  walking_more chained {count} {before} {list} {i} {row} w l m y e =
      let q : count - i ≡ suc (count - (i + 1)) = omega arith in
      let event = s.event y.via in
      let step : events s (along fs (count - i) row) ≡ event ∷ events s (along fs (count - (i + 1)) y.origin) =
      ap (λ n. events s (along fs n row)) q ∙ ap (events s) (along_step fs (count - (i + 1)) row y e) in
      record {
        front =
            ap (λ xs. xs ++ events s (along fs (count - (i + 1)) y.origin)) (take_more_set list i event m)
            ∙ append_assoc (take i list) (event ∷ []) (events s (along fs (count - (i + 1)) y.origin))
            ∙ ap (λ xs. take i list ++ xs) (sym step) ∙ w.front;
        rest =
            drop-set-lt (i + 1) list i event (omega arith)
            ∙ sym (drop-drop 1 i list) ∙ ap (drop 1) w.rest ∙ drop-drop 1 i before;
        here = origin_length fs chained (count - (i + 1)) row y e (sym (length_read fs row y e) ∙ w.here ∙ q);
      }

  -- while events are left, the next row is there
  pub walking_row : {count : ℕ} {before list : List ℕ} {i row : ℕ} → Walking count before list i row → i < count → row < length fs
  walking_row {count} {before} {list} {i} {row} w l =
      let h = w.here in
      let y = there_if_long fs row (omega arith) in
      slice_get_within fs row y.0 y.1

  pub walking_all : {count : ℕ} {before list : List ℕ} {row : ℕ} → Walking count before list count row → list ≡ events s (along fs count (last_of fs)) ++ drop count before
  walking_all {count} {before} {list} {row} w =
      let z : count - count ≡ 0 = omega arith in
      let front : take count list ≡ events s (along fs count (last_of fs)) =
      sym (append-nil (take count list)) ∙ ap (λ n. take count list ++ events s (along fs n row)) (sym z) ∙ w.front in
      sym (take-append-drop count list) ∙ ap (λ xs. xs ++ drop count list) front ∙ ap (λ xs. events s (along fs count (last_of fs)) ++ xs) w.rest
