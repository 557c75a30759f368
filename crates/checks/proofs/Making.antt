-- What a query leaves, by what it was answered with. Assumes nothing.
use Rattle.std.proofs.Common.{◌≡◌, ℕ, ◌+◌, ◌<◌, ◌≤◌, Bool, true, false, cond, ltb, leb, List, length, set, Some, None, Option, sym, refl, ap, ◌∙◌, subst, arith}
use Rattle.std.proofs.lemmas.Bool.{leb-true, leb-false}
use Rattle.kinds.specs.Shape.{Shape}
use Rattle.inspector.specs.Inspected.{if_found}
use Rattle.search.specs.declared.Find.{Find}
use Rattle.search.specs.declared.Verdict.TheVariants.{Matches, Never, Full}
use Rattle.search.specs.Search.{query}
use Rattle.search.specs.Like.{Like}
use Rattle.checks.specs.declared.counts.Counts.{Counts}
use Rattle.checks.specs.declared.states.Progress.{Progress}
use Rattle.checks.specs.View.{counts_of, verdict_of, stood, view}
use Rattle.checks.specs.Calls.{Ready, NextReady, Kept, Answered, new_row, noted, passed, asked, made_counts, made_verdict, made_rows, made_item, Put}
use Rattle.checks.proofs.Stepping.{stands_as, ready_as, close_like, close_ready, full_like, find_like, find_ready, find_kept}

module _
    {C : Type 0} (s : Shape C) (n : Counts) (t : List (Find C)) (h : List C) (l : ℕ) (ready : Ready s n t h l)
    (fits : n.finds ≤ length t) (here : n.row < n.finds) (begun : n.starts ≤ n.finds) (p : Progress) where
  -- the check p, a table, what is held and the most that can be, once the query was made
  abbrev pub Left : List (Find C) → List C → ℕ → Type 0
  Left t' h' l' = Like (view p t' h') (query s (length t) (stood n None t h)) × Kept n t p t' × NextReady s p t' h' l'

  still : (t' : List (Find C)) (h' : List C) (l' : ℕ) → t' ≡ t → h' ≡ h → l' ≡ l → Left t h l → Left t' h' l'
  still t' h' l' e f q x =
      subst (λ (u : List (Find C)). Left u h' l') (sym e) (subst (λ (u : List C). Left t u l') (sym f) (subst (λ (m : ℕ). Left t h m) (sym q) x))

  kept_all : (m : Counts) → counts_of p ≡ m → m.rows ≡ n.rows → m.finds ≡ n.finds → Kept n t p t
  kept_all m e r f = record { rows = ap (λ (k : Counts). k.rows) e ∙ r; more = let d = ap (λ (k : Counts). k.finds) e in omega arith; behind = refl }

  left_by : (a : Option (ℕ × C)) → Answered s n t h a → (b : Bool) → leb (length t) n.finds ≡ b
      → counts_of p ≡ if_found a (λ (y : ℕ × C). cond b (asked n) (noted n)) (passed n)
      → verdict_of p ≡ if_found a (λ (y : ℕ × C). cond b (Some Full) (cond (s.goal y.1) (Some Matches) None)) (cond (ltb (n.row + 1) n.finds) None (Some Never))
      → (t' : List (Find C)) → t' ≡ if_found a (λ (y : ℕ × C). cond b t (set t n.finds (new_row n t y.0 y.1))) t
      → (h' : List C) → Put s (if_found a (λ (y : ℕ × C). cond b None (Some y.1)) None) h h' → (l' : ℕ) → l' ≡ l → Left t' h' l'
  left_by None answered b e counts verdict t' rows h' items l' same =
      still t' h' l' rows items same (
        stands_as p (passed n) t counts _ verdict h _ (close_like n t fits here s h None answered refl _ refl),
        kept_all (passed n) counts refl refl,
        ready_as p (passed n) t counts s h l (close_ready n t fits here s h l ready),
      )
  left_by (Some y) answered true e counts verdict t' rows h' items l' same =
      still t' h' l' rows items same (
        stands_as p (asked n) t counts (Some Full) verdict h _ (full_like n t fits here s h (Some y) answered y refl (leb-true (length t) n.finds e)),
        kept_all (asked n) counts refl refl,
        ready_as p (asked n) t counts s h l (record { long = ready.long; intact = ready.intact; size = ready.size; limit = ready.limit }),
      )
  left_by (Some y) answered false e counts verdict t' rows h' items l' same =
      let room = leb-false (length t) n.finds e in (
        stands_as p (noted n) t' counts _ verdict h' _
            (find_like n t fits here s h l ready (Some y) answered room y.0 y.1 t' rows h' items (noted n) refl refl (cond (s.goal y.1) (Some Matches) None) refl),
        find_kept n t fits here s h l ready (Some y) answered room y.0 y.1 t' rows h' items (noted n) refl refl p counts,
        ready_as p (noted n) t' counts s h' l'
            (find_ready n t fits here s h l ready (Some y) answered room y.0 y.1 t' rows h' items (noted n) refl refl begun l' same),
      )

  pub left : (a : Option (ℕ × C)) → Answered s n t h a → counts_of p ≡ made_counts n (length t) a → verdict_of p ≡ made_verdict s n (length t) a
      → (t' : List (Find C)) → t' ≡ made_rows n t a → (h' : List C) → Put s (made_item n (length t) a) h h' → (l' : ℕ) → l' ≡ l → Left t' h' l'
  left a answered counts verdict t' rows h' items l' same = left_by a answered (leb (length t) n.finds) refl counts verdict t' rows h' items l' same
