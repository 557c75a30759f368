-- What a query makes of a check: it closes a row, finds the table full, or records a row. Assumes nothing.
use Rattle.std.proofs.Common.{◌≡◌, ℕ, zero, suc, ◌+◌, ◌<◌, ◌≤◌, false, cond, ltb, List, [], ◌∷◌, ◌++◌, length, get_or, take, drop, set, Some, None, Option, sym, refl, ap, ◌∙◌, subst, le_of_suc-le-suc, not-suc-le-zero, add-one, arith, length-set, length-take}
use Rattle.std.specs.List.{slice_get}
use Rattle.std.proofs.lemmas.List.{take_more_set}
use Rattle.std.proofs.lemmas.Option.{slice_get-get_or}
use Rattle.kinds.specs.Shape.{Shape}
use Rattle.kinds.specs.Certificate.{covered}
use Rattle.kinds.proofs.Values.{none_some}
use Rattle.kinds.proofs.Searches.{entry_at}
use Rattle.inspector.specs.Inspected.{if_found}
use Rattle.stores.specs.Holding.{Reordered, inserted}
use Rattle.stores.proofs.Reorderings.{reordered_refl, reordered_length}
use Rattle.stores.proofs.Insertions.{inserted_length}
use Rattle.search.specs.declared.Find.{Find}
use Rattle.search.specs.declared.Verdict.{Verdict}
use Rattle.search.specs.declared.Verdict.TheVariants.{Matches, Never, Full}
use Rattle.search.specs.Search.{State, least_move_of, find_from, query, length_at}
use Rattle.search.specs.Like.{Like}
use Rattle.search.proofs.Moves.{something_new}
use Rattle.search.proofs.Steps.{query_closes, query_fills, query_grows}
use Rattle.finds.specs.Intact.{Intact, Follows}
use Rattle.finds.proofs.Intacts.{intact_lengths, intact_more}
use Rattle.checks.specs.declared.counts.Counts.{Counts}
use Rattle.checks.specs.declared.states.Progress.{Progress}
use Rattle.checks.specs.declared.states.Progress.TheVariants as progress
use Rattle.checks.specs.View.{counts_of, verdict_of, stood, view}
use Rattle.checks.specs.Calls.{Ready, NextReady, Kept, Answered, new_row, noted, passed, asked}

-- a row that is recorded is there in the table
pub nth_taken : {A : Type 0} (xs : List A) (n i : ℕ) (x : A) → slice_get (take n xs) i ≡ Some x → slice_get xs i ≡ Some x
nth_taken [] zero i x e = e
nth_taken [] (suc n) i x e = e
nth_taken (v ∷ vs) zero i x e = none_some refl e
nth_taken (v ∷ vs) (suc n) zero x e = e
nth_taken (v ∷ vs) (suc n) (suc i) x e = nth_taken vs n i x e

pub nth_take : {A : Type 0} (xs : List A) (n i : ℕ) → i < n → slice_get (take n xs) i ≡ slice_get xs i
nth_take [] zero i l = refl
nth_take [] (suc n) i l = refl
nth_take (v ∷ vs) zero i l = absurd (not-suc-le-zero l)
nth_take (v ∷ vs) (suc n) zero l = refl
nth_take (v ∷ vs) (suc n) (suc i) l = nth_take vs n i (le_of_suc-le-suc l)

pub length_taken : {C : Type 0} (t : List (Find C)) (n i : ℕ) (y : Find C) → slice_get (take n t) i ≡ Some y → length_at t i ≡ y.length
length_taken {C = C} t n i y e = ap (λ o. if_found o (λ (z : Find C). z.length) 0) (nth_taken t n i y e)

pub length_read : {C : Type 0} (t : List (Find C)) (i : ℕ) (d : Find C) → i < length t → length_at t i ≡ (get_or t i d).length
length_read {C = C} t i d l = ap (λ o. if_found o (λ (z : Find C). z.length) 0) (slice_get-get_or t i d l)

-- what lies behind a row that is written
pub drop_set : {A : Type 0} (xs : List A) (i : ℕ) (x : A) → drop (i + 1) (set xs i x) ≡ drop (i + 1) xs
drop_set {A = A} xs i x = ap (λ (m : ℕ). drop m (set xs i x)) (add-one i) ∙ go xs i ∙ ap (λ (m : ℕ). drop m xs) (sym (add-one i))
  where
    go : (xs : List A) (i : ℕ) → drop (suc i) (set xs i x) ≡ drop (suc i) xs
    go [] i = refl
    go (v ∷ vs) zero = refl
    go (v ∷ vs) (suc i) = go vs i

-- a check by its counts and its verdict
module _ {C : Type 0} (p : Progress) (n : Counts) (t : List (Find C)) (counts : counts_of p ≡ n) where
  pub stands_as : (v : Option Verdict) → verdict_of p ≡ v → (h : List C) (u : State C) → Like (stood n v t h) u → Like (view p t h) u
  stands_as v e h u l = subst (λ (m : Counts). Like (stood m (verdict_of p) t h) u) (sym counts) (subst (λ (w : Option Verdict). Like (stood n w t h) u) (sym e) l)

  pub ready_as : (s : Shape C) (h : List C) (l : ℕ) → Ready s n t h l → NextReady s p t h l
  ready_as s h l r = next_ready p s h l (subst (λ (m : Counts). Ready s m t h l) (sym counts) r)
    where
      next_ready : (p : Progress) (s : Shape C) (h : List C) (l : ℕ) → Ready s (counts_of p) t h l → NextReady s p t h l
      next_ready (progress.Running p) s h l r = r
      next_ready (progress.Matched p) s h l r = tt
      next_ready (progress.Never p) s h l r = tt
      next_ready (progress.Full p) s h l r = tt

-- the row that is being expanded is recorded
module _ {C : Type 0} (n : Counts) (t : List (Find C)) (fits : n.finds ≤ length t) (here : n.row < n.finds) where
  pub took : length (take n.finds t) ≡ n.finds
  took = let a = length-take n.finds t in omega arith

  pub expanding : (y : Find C) × (slice_get (take n.finds t) n.row ≡ Some y)
  expanding = entry_at (take n.finds t) n.row (omega (arith, took))

  module _ (s : Shape C) (h : List C) (a : Option (ℕ × C)) (answered : Answered s n t h a) where
    found : least_move_of s h expanding.0.configuration ≡ a
    found = sym (answered expanding.0 expanding.1)

    pub close_like : a ≡ None → (v : Option Verdict) → v ≡ cond (ltb (n.row + 1) n.finds) None (Some Never) → Like (stood (passed n) v t h) (query s (length t) (stood n None t h))
    close_like e v q =
        let past : v ≡ cond (ltb (suc n.row) (length (take n.finds t))) None (Some Never) =
        q ∙ ap (λ (m : ℕ). cond (ltb m n.finds) None (Some Never)) (add-one n.row) ∙ ap (λ (m : ℕ). cond (ltb (suc n.row) m) None (Some Never)) (sym took) in
        subst (Like (stood (passed n) v t h)) (sym (query_closes s (length t) (stood n None t h) refl expanding.0 expanding.1 (found ∙ e)))
        record {
          same = λ i. record { finds = take n.finds t; held = h; row = add-one n.row i; starts = n.starts; queries = add-one n.queries i; verdict = past i };
          held = reordered_refl h;
        }

    pub full_like : (b : ℕ × C) → a ≡ Some b → length t ≤ n.finds → Like (stood (asked n) (Some Full) t h) (query s (length t) (stood n None t h))
    full_like b e le =
        subst (Like (stood (asked n) (Some Full) t h)) (sym (query_fills s (length t) (stood n None t h) refl expanding.0 expanding.1 b (found ∙ e) (omega (arith, took))))
        record {
          same = λ i. record { finds = take n.finds t; held = h; row = n.row; starts = n.starts; queries = add-one n.queries i; verdict = Some Full };
          held = reordered_refl h;
        }

    pub found_move : (k : ℕ) (x : C) → a ≡ Some (k, x) → k < s.moves
    found_move k x e = (something_new s h expanding.0.configuration (k, x) (found ∙ e)).0

  -- ---- what a closed row and a full table leave

  module _ (s : Shape C) (h : List C) (l : ℕ) (ready : Ready s n t h l) where
    pub close_ready : Ready s (passed n) t h l
    close_ready = record { long = ready.long; intact = ready.intact; size = ready.size; limit = ready.limit }

    -- no row is as long as there are rows
    pub length_small : length t ≤ 4096 → length_at t n.row + 1 ≤ 4096
    length_small small =
        let y = expanding in
        let a = intact_lengths ready.intact n.row y.0 y.1 in
        let b = length_taken t n.finds n.row y.0 y.1 in
        omega arith

  -- ---- what a recorded row leaves: the table, the store and the counts once it is recorded

  module _
      (s : Shape C) (h : List C) (l : ℕ) (ready : Ready s n t h l) (a : Option (ℕ × C)) (answered : Answered s n t h a) (room : n.finds < length t)
      (k : ℕ) (x : C) (t' : List (Find C)) (set_is : t' ≡ set t n.finds (new_row n t k x)) (h' : List C) (put : Reordered (inserted s x h) h')
      (n' : Counts) (noted-is : n' ≡ noted n) (e : a ≡ Some (k, x)) where
    abbrev pub row : Find C
    row = new_row n t k x

    longer : row.length ≡ suc expanding.0.length
    longer = add-one (length_at t n.row) ∙ ap suc (length_taken t n.finds n.row expanding.0 expanding.1)

    follows : Follows s (take n.finds t) (length (take n.finds t)) row
    follows = record { from = expanding.0; there = expanding.1; earlier = omega (arith, took); longer = longer; move = found_move s h a answered k x e }

    rows : take n'.finds t' ≡ take n.finds t ++ row ∷ []
    rows = ap (λ (m : Counts). take m.finds t') noted-is ∙ ap (take (n.finds + 1)) set_is ∙ take_more_set t n.finds row room

    pub find_like : (v : Option Verdict) → v ≡ cond (s.goal x) (Some Matches) None → Like (stood n' v t' h') (query s (length t) (stood n None t h))
    find_like v q =
        let found_rows : take n'.finds t' ≡ take n.finds t ++ find_from n.row expanding.0 (k, x) ∷ [] =
        rows ∙ ap (λ (m : ℕ). take n.finds t ++ record { configuration = x; origin = n.row; via = k; length = m } ∷ []) longer in
        subst (Like (stood n' v t' h')) (sym (query_grows s (length t) (stood n None t h) refl expanding.0 expanding.1 (k, x) (found s h a answered ∙ e) (omega (arith, took))))
        record {
          same = λ i. record { finds = found_rows i; held = h'; row = (noted-is i).row; starts = (noted-is i).starts; queries = (ap (λ (m : Counts). m.queries) noted-is ∙ add-one n.queries) i; verdict = q i };
          held = put;
        }

    pub find_ready : n.starts ≤ n.finds → (l' : ℕ) → l' ≡ l → Ready s n' t' h' l'
    find_ready begun l' q =
        let long : length t' ≡ n.rows = ap length set_is ∙ length-set t n.finds row ∙ ready.long in
        let grown : Intact s n.starts (take n'.finds t') = subst (Intact s n.starts) (sym rows) (intact_more ready.intact (omega (arith, took)) row follows) in
        record {
          long = long ∙ sym (ap (λ (m : Counts). m.rows) noted-is);
          intact = subst (λ (f : ℕ). Intact s f (take n'.finds t')) (sym (ap (λ (m : Counts). m.starts) noted-is)) grown;
          size =
              let b = reordered_length put in
              let c = inserted_length s x h in
              let d = ready.size in
              let f = ap (λ (m : Counts). m.finds) noted-is in
              omega arith;
          limit = let b = ready.limit in let f = ap (λ (m : Counts). m.rows) noted-is in omega arith;
        }

    pub find_kept : (p : Progress) → counts_of p ≡ n' → Kept n t p t'
    find_kept p q = record {
      rows = ap (λ (m : Counts). m.rows) (q ∙ noted-is);
      more = let f = ap (λ (m : Counts). m.finds) (q ∙ noted-is) in omega arith;
      behind = subst (λ (m : ℕ). drop m t' ≡ drop m t) (sym (ap (λ (m : Counts). m.finds) (q ∙ noted-is))) (ap (drop (n.finds + 1)) set_is ∙ drop_set t n.finds row);
    }

-- what the finder found is not covered
pub found_new : {C : Type 0} {s : Shape C} {n : Counts} {t : List (Find C)} {h : List C} {l : ℕ} {a : Option (ℕ × C)} → Ready s n t h l → n.finds ≤ n.rows → n.row < n.finds → Answered s n t h a
    → (k : ℕ) (x : C) → a ≡ Some (k, x) → covered s h x ≡ false
found_new {s = s} {n = n} {t = t} {h = h} {a = a} ready room here answered k x e =
    let y = expanding n t (omega (arith, ready.long, room)) here in
    (something_new s h y.0.configuration (k, x) (sym (answered y.0 y.1) ∙ e)).2
