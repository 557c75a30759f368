-- How queries add up: each counts until there is a verdict, and none changes anything after it. Assumes nothing.
use Rattle.std.proofs.Common.{◌≡◌, ℕ, zero, suc, ◌+◌, ◌-◌, ◌*◌, ◌<◌, ◌≤◌, true, ltb, List, [], ◌∷◌, ◌++◌, length, is_some, Some, None, Option, refl, ap, ◌∙◌, subst, arith}
use Rattle.std.specs.List.{slice_get}
use Rattle.std.proofs.lemmas.Bool.{both_ways, cond_both, cond-true}
use Rattle.kinds.specs.Shape.{Shape}
use Rattle.kinds.specs.Laws.{Laws}
use Rattle.kinds.specs.Certificate.{covered}
use Rattle.kinds.proofs.Values.{none_some}
use Rattle.kinds.proofs.Searches.{entry_at}
use Rattle.stores.specs.Holding.{inserted}
use Rattle.search.specs.declared.Find.{Find}
use Rattle.search.specs.declared.Verdict.{Verdict}
use Rattle.search.specs.declared.Verdict.TheVariants.{Matches, Never, Full}
use Rattle.search.specs.Search.{State, start, opening, opened, least_move_of, expanded, query, queried}
use Rattle.search.proofs.Entries.{no_value, found_both}
use Rattle.search.proofs.Invariant.{Going, Stage, Sound}
use Rattle.search.proofs.Querying.{queried_sound}

module _ {C : Type 0} (s : Shape C) (r : ℕ) where
  -- ---- after a verdict

  pub query_ended : (t : State C) → is_some t.verdict ≡ true → query s r t ≡ t
  unfolding query
  query_ended t e = cond-true (is_some t.verdict) t _ e

  pub queried_ended : (n : ℕ) (t : State C) → is_some t.verdict ≡ true → queried s r n t ≡ t
  unfolding queried
  queried_ended zero t e = refl
  queried_ended (suc n) t e = ap (query s r) (queried_ended n t e) ∙ query_ended t e

  -- a search without a verdict had none before
  pub still_none : (t : State C) → (query s r t).verdict ≡ None → t.verdict ≡ None
  unfolding query
  still_none t = cond_both (is_some t.verdict) _ _ (λ (u : State C). u.verdict ≡ None → t.verdict ≡ None) (λ _ h. h) (λ e _. no_value t.verdict e)

  -- ---- queries made one after another

  pub queried_more : (n m : ℕ) (t : State C) → queried s r m (queried s r n t) ≡ queried s r (n + m) t
  unfolding queried
  queried_more n zero t = let q : n ≡ n + 0 = omega arith in ap (λ (k : ℕ). queried s r k t) q
  queried_more n (suc m) t = let q : suc (n + m) ≡ n + suc m = omega arith in ap (query s r) (queried_more n m t) ∙ ap (λ (k : ℕ). queried s r k t) q

  -- ---- queries counted

  expanded_counts : (t : State C) (y : Find C) → (expanded s r t y).queries ≡ suc t.queries
  expanded_counts t y = found_both (λ (u : State C). u.queries ≡ suc t.queries) (least_move_of s t.held y.configuration) _ _
      (λ a _. cond_both (ltb (length t.finds) r) _ _ (λ (u : State C). u.queries ≡ suc t.queries) (λ _. refl) (λ _. refl))
      (λ _. refl)

  pub query_counts : (t : State C) → Sound s r t → t.verdict ≡ None → (query s r t).queries ≡ suc t.queries
  unfolding query
  query_counts t sound e =
      let going : Going s t = subst (Stage s t) e sound.stage in
      let y = entry_at t.finds t.row going.here in
      cond_both (is_some t.verdict) _ _ (λ (u : State C). u.queries ≡ suc t.queries)
      (λ k. absurd (both_ways (is_some t.verdict) (ap is_some e) k))
      (λ _. found_both (λ (u : State C). u.queries ≡ suc t.queries) (slice_get t.finds t.row) _ _ (λ z _. expanded_counts t z) (λ n. none_some n y.1))

  opening_counts : (cs : List C) (fs : List (Find C)) (h : List C) → (opening s cs fs h).queries ≡ 0
  opening_counts [] fs h = refl
  opening_counts (c ∷ cs) fs h = cond_both (covered s h c) _ _ (λ (u : State C). u.queries ≡ 0)
      (λ _. opening_counts cs fs h)
      (λ _. cond_both (s.goal c) _ _ (λ (u : State C). u.queries ≡ 0) (λ _. refl) (λ _. opening_counts cs (fs ++ start c ∷ []) (inserted s c h)))

  pub opened_counts : (opened s).queries ≡ 0
  unfolding opened
  opened_counts = opening_counts s.firsts [] []

  -- at most 2 × r − f queries were made, and fewer where there is no verdict
  module _ (t : State C) (sound : Sound s r t) where
    pub few_queries : t.queries ≤ 2 * r - t.starts
    few_queries = at t.verdict sound.stage
      where
        at : (v : Option Verdict) → Stage s t v → t.queries ≤ 2 * r - t.starts
        at None g = let a = sound.room in let b = sound.starts in let c = g.here in let d = g.counted in omega arith
        at (Some Full) g = let a = sound.room in let b = sound.starts in let c = g.here in let d = g.counted in omega arith
        at (Some Never) g = let a = sound.room in let b = sound.starts in let c = g.past in let d = g.counted in omega arith
        at (Some Matches) g = let a = sound.room in let b = sound.starts in let c = g.here in let d = g.counted in omega arith

    -- each recorded a row or closed one, but for the last at FULL
    pub queries_within : t.queries ≤ length t.finds + t.row
    queries_within = at t.verdict sound.stage
      where
        at : (v : Option Verdict) → Stage s t v → t.queries ≤ length t.finds + t.row
        at None g = let a = g.counted in omega arith
        at (Some Full) g = let a = g.counted in let b = g.here in let c = sound.begins (omega arith) in omega arith
        at (Some Never) g = let a = g.counted in omega arith
        at (Some Matches) g = let a = g.counted in omega arith

    pub fewer_queries : Going s t → t.queries < 2 * r - t.starts
    fewer_queries g = let a = sound.room in let b = sound.starts in let c = g.here in let d = g.counted in omega arith

module _ {C : Type 0} (s : Shape C) (laws : Laws s) (r : ℕ) where
  pub queried_counts : (n : ℕ) (t : State C) → Sound s r t → (queried s r n t).verdict ≡ None → (queried s r n t).queries ≡ n + t.queries
  unfolding queried
  queried_counts zero t sound e = omega arith
  queried_counts (suc n) t sound e =
      let u = still_none s r (queried s r n t) e in
      let a = query_counts s r (queried s r n t) (queried_sound s laws r n t sound) u in
      let b = queried_counts n t sound u in
      omega arith
