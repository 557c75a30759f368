-- Queries one after another. Assumes nothing.
use Rattle.std.proofs.Common.{◌≡◌, ℕ, zero, suc, ◌+◌, ◌-◌, ◌≤◌, true, List, [], ◌∷◌, length, get_or, drop, is_some, None, Option, sym, refl, ap, ◌∙◌, subst, add-one, arith}
use Rattle.kinds.specs.Shape.{Shape}
use Rattle.kinds.specs.Laws.{Laws}
use Rattle.kinds.proofs.Searches.{read_at}
use Rattle.search.specs.declared.Find.{Find}
use Rattle.search.specs.Search.{State, least_move_of, query, queried, after}
use Rattle.search.specs.Like.{Like}
use Rattle.search.specs.Promise.{Admits}
use Rattle.search.proofs.Counting.{queried_ended, queried_more}
use Rattle.search.proofs.Orders.{like_refl, like_trans, query_like, queried_like, promise_like}
use Rattle.search.proofs.Promises.{keeps_promise}
use Rattle.checks.specs.declared.counts.Counts.{Counts}
use Rattle.checks.specs.declared.states.Running.{Running}
use Rattle.checks.specs.declared.states.Progress.{Progress}
use Rattle.checks.specs.declared.states.Progress.TheVariants as progress
use Rattle.checks.specs.declared.lending.Lent.{Lent}
use Rattle.checks.specs.Lending.{Same}
use Rattle.checks.specs.View.{counts_of, verdict_of, stood, view}
use Rattle.checks.specs.Calls.{NextReady, Answered, Kept, Stands, Advanced}
use Rattle.checks.proofs.Stepping.{nth_taken}

pub drop_past : {A : Type 0} (xs ys : List A) (m k : ℕ) → m ≤ k → drop m xs ≡ drop m ys → drop k xs ≡ drop k ys
drop_past {A = A} xs ys m k le e =
    let q : k ≡ m + (k - m) = omega arith in
    ap (λ (j : ℕ). drop j xs) q ∙ both xs m (k - m) ∙ ap (drop (k - m)) e ∙ sym (both ys m (k - m)) ∙ ap (λ (j : ℕ). drop j ys) (sym q)
  where
    nothing : (j : ℕ) → drop {A = A} j [] ≡ []
    nothing zero = refl
    nothing (suc j) = refl

    both : (xs : List A) (m j : ℕ) → drop (m + j) xs ≡ drop j (drop m xs)
    both xs zero j = let q : 0 + j ≡ j = omega arith in ap (λ (i : ℕ). drop i xs) q ∙ ap (drop j) (sym (whole xs))
      where
        whole : (xs : List A) → drop 0 xs ≡ xs
        whole [] = refl
        whole (v ∷ vs) = refl
    both [] (suc m) j = nothing (suc m + j) ∙ sym (nothing j)
    both (v ∷ vs) (suc m) j = let q : suc m + j ≡ suc (m + j) = omega arith in ap (λ (i : ℕ). drop i (v ∷ vs)) q ∙ both vs m j

-- what stays the same of what is lent
module _ {C S : Type 0} (m : S → ℕ) where
  pub same_refl : (a : Lent C S) → Same m a a
  same_refl a = record { table = refl; store = refl; limit = refl }

  pub same_trans : (a b c : Lent C S) → Same m a b → Same m b c → Same m a c
  same_trans a b c p q = record { table = q.table ∙ p.table; store = q.store ∙ p.store; limit = q.limit ∙ p.limit }

-- a check that is not running has a verdict
pub has_ended : (p : Progress) → ((r : Running) → p ≡ progress.Running r → ⊥) → is_some (verdict_of p) ≡ true
has_ended (progress.Running r) n = absurd (n r refl)
has_ended (progress.Matched r) n = refl
has_ended (progress.Never r) n = refl
has_ended (progress.Full r) n = refl

module _ {C : Type 0} where
  pub kept_same : (n : Counts) (t : List (Find C)) (p : Progress) → counts_of p ≡ n → Kept n t p t
  kept_same n t p e = record { rows = ap (λ (m : Counts). m.rows) e; more = let f = ap (λ (m : Counts). m.finds) e in omega arith; behind = refl }

  pub kept_trans : (n : Counts) (t : List (Find C)) (p : Progress) (t' : List (Find C)) → Kept n t p t' → (q : Progress) (t'' : List (Find C)) → Kept (counts_of p) t' q t'' → Kept n t q t''
  kept_trans n t p t' a q t'' b = record {
    rows = b.rows ∙ a.rows;
    more = let u = a.more in let v = b.more in omega arith;
    behind = b.behind ∙ drop_past t' t (counts_of p).finds (counts_of q).finds b.more a.behind;
  }

  pub answered_at : (s : Shape C) (n : Counts) (t : List (Find C)) (h : List C) (d : Find C) (a : Option (ℕ × C)) → a ≡ least_move_of s h (get_or t n.row d).configuration → Answered s n t h a
  answered_at s n t h d a e y there = e ∙ ap (λ (z : Find C). least_move_of s h z.configuration) (read_at t n.row y d (nth_taken t n.finds n.row y there))

module _ {C : Type 0} (s : Shape C) (r : ℕ) where
  pub none_made : (u : State C) → Like u (queried s r 0 u)
  unfolding queried
  none_made u = like_refl u

  pub one_made : (r' : ℕ) → r' ≡ r → (m : ℕ) (a b u : State C) → Like a (query s r' b) → Like b (queried s r m u) → Like a (queried s r (m + 1) u)
  unfolding queried
  one_made r' e m a b u p q =
      subst (λ (n : ℕ). Like a (queried s r n u)) (sym (add-one m))
      (like_trans a (query s r b) (query s r (queried s r m u)) (subst (λ (n : ℕ). Like a (query s n b)) e p) (query_like s r b (queried s r m u) q))

  -- once there is a verdict, further queries make no difference
  pub rest_made : (m n : ℕ) (a u : State C) → m ≤ n → is_some a.verdict ≡ true → Like a (queried s r m u) → Like a (queried s r n u)
  rest_made m n a u le ended l =
      let q : m + (n - m) ≡ n = omega arith in
      let v : is_some (queried s r m u).verdict ≡ true = sym (ap (λ (w : State C). is_some w.verdict) l.same) ∙ ended in
      subst (λ (k : ℕ). Like a (queried s r k u)) q
      (subst (Like a) (sym (queried_ended s r (n - m) (queried s r m u) v) ∙ queried_more s r m (n - m) u) l)

  pub goes_on : Laws s → Admits s r → (q g : ℕ) (a u : State C) → Like a (queried s r g u) → Like u (after s r q) → Stands s r (q + g) a
  goes_on laws admits q g a u l m =
      let k : Like a (after s r (q + g)) = like_trans a (queried s r g u) _ l (subst (Like (queried s r g u)) (queried_more s r q g _) (queried_like s r g u (after s r q) m)) in
      record { like = k; promise = promise_like s r (q + g) a (after s r (q + g)) k (keeps_promise s laws r (q + g) admits) }

-- a check that was advanced
pub advanced : {C : Type 0} (s : Shape C) → Laws s → (n : Counts) (t : List (Find C)) (h : List C) (g : ℕ) (p : Progress) (t' : List (Find C)) (h' : List C) (l : ℕ)
    → Like (view p t' h') (queried s (length t) g (stood n None t h)) → Kept n t p t' → NextReady s p t' h' l → Advanced s n t h g p t' h' l
advanced s laws n t h g p t' h' l like kept ready =
    record { like = like; kept = kept; ready = ready; goes_on = λ q admits m. goes_on s (length t) laws admits q g (view p t' h') (stood n None t h) like m }
