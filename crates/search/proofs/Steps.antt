-- What a query does where there is no verdict and row e is recorded, case by case. Assumes nothing.
use Rattle.std.proofs.Common.{◌≡◌, ℕ, ◌<◌, ◌≤◌, cond, ltb, length, is_some, Some, None, ap, ◌∙◌}
use Rattle.std.specs.List.{slice_get}
use Rattle.std.proofs.lemmas.Bool.{cond-true, cond-false, lt-ltb, le-ltb}
use Rattle.kinds.specs.Shape.{Shape}
use Rattle.inspector.specs.Inspected.{if_found}
use Rattle.search.specs.declared.Find.{Find}
use Rattle.search.specs.Search.{State, least_move_of, find_from, closed, filled, grown, expanded, query}

module _ {C : Type 0} (s : Shape C) (r : ℕ) (t : State C) (going : t.verdict ≡ None) (y : Find C) (there : slice_get t.finds t.row ≡ Some y) where
  query_expands : query s r t ≡ expanded s r t y
  unfolding query
  query_expands = cond-false (is_some t.verdict) t _ (ap is_some going) ∙ ap (λ o. if_found o (expanded s r t) t) there

  pub query_closes : least_move_of s t.held y.configuration ≡ None → query s r t ≡ closed t
  query_closes e = query_expands ∙ ap (λ o. if_found o (λ a. cond (ltb (length t.finds) r) (grown s t (find_from t.row y a)) (filled t)) (closed t)) e

  module _ (a : ℕ × C) (found : least_move_of s t.held y.configuration ≡ Some a) where
    query_finds : query s r t ≡ cond (ltb (length t.finds) r) (grown s t (find_from t.row y a)) (filled t)
    query_finds = query_expands ∙ ap (λ o. if_found o (λ a. cond (ltb (length t.finds) r) (grown s t (find_from t.row y a)) (filled t)) (closed t)) found

    pub query_fills : r ≤ length t.finds → query s r t ≡ filled t
    query_fills l = query_finds ∙ cond-false _ _ _ (le-ltb (length t.finds) r l)

    pub query_grows : length t.finds < r → query s r t ≡ grown s t (find_from t.row y a)
    query_grows l = query_finds ∙ cond-true _ _ _ (lt-ltb (length t.finds) r l)
