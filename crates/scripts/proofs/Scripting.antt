-- Calls one after another. Assumes nothing.
use Rattle.std.proofs.Common.{◌≡◌, ℕ, zero, suc, ◌+◌, ◌<◌, ◌≤◌, List, [], ◌∷◌, ◌++◌, length, get_or, take, drop, set, Some, Result, sym, refl, ap, ◌∙◌, subst, append_assoc, add-one, arith, length-set, length-take}
use Rattle.std.specs.List.{slice_get}
use Rattle.std.proofs.lemmas.List.{take_more_set, take_all, append-nil}
use Rattle.std.proofs.lemmas.Option.{slice_get-get_or}
use Rattle.kinds.specs.Shape.{Shape}
use Rattle.kinds.specs.Laws.{Laws}
use Rattle.search.specs.declared.Find.{Find}
use Rattle.search.specs.Search.{queried, after}
use Rattle.search.specs.Like.{Like}
use Rattle.search.specs.Promise.{Admits}
use Rattle.search.proofs.Invariant.{Sound}
use Rattle.search.proofs.Querying.{after_sound}
use Rattle.search.proofs.Orders.{sound_like, promise_like}
use Rattle.search.proofs.Promises.{keeps_promise}
use Rattle.finds.proofs.Intacts.{sound_intact}
use Rattle.checks.specs.declared.states.Progress.{Progress}
use Rattle.checks.specs.View.{counts_of, view}
use Rattle.checks.specs.Calls.{Ready, Kept, Stands, Opened}
use Rattle.checks.proofs.Stepping.{drop_set}
use Rattle.checks.proofs.Starting.{entry_left, none_left}
use Rattle.checks.proofs.Turning.{drop_past, kept_same, kept_trans, goes_on}
use Rattle.finds.specs.declared.refusals.Refused.{Refused}
use Rattle.scripts.specs.declared.Reply.{Reply}
use Rattle.scripts.specs.declared.Step.{Step}
use Rattle.scripts.specs.Scripts.{grant_of, granted, answer_to, made, Acted, Ran}
use Rattle.scripts.proofs.Acting.{answer_like}

module _ {A : Type 0} where
  nth_first : (zs : List A) (i : ℕ) (z : A) (rest : List A) → drop i zs ≡ z ∷ rest → slice_get zs i ≡ Some z
  nth_first [] zero z rest e = cc
  nth_first [] (suc i) z rest e = cc
  nth_first (v ∷ vs) zero z rest e = cc
  nth_first (v ∷ vs) (suc i) z rest e = nth_first vs i z rest e

  take_entry : (zs : List A) (i : ℕ) (z : A) → slice_get zs i ≡ Some z → take (i + 1) zs ≡ take i zs ++ z ∷ []
  take_entry zs i z e = ap (λ (m : ℕ). take m zs) (add-one i) ∙ go zs i e
    where
      go : (zs : List A) (i : ℕ) → slice_get zs i ≡ Some z → take (suc i) zs ≡ take i zs ++ z ∷ []
      go [] i e = cc
      go (v ∷ vs) zero e = let q : v ≡ z = cc in ap (λ u. u ∷ []) q
      go (v ∷ vs) (suc i) e = ap (λ us. v ∷ us) (go vs i e)

module _ {C : Type 0} where
  granted_one : (xs : List (Step C)) (x : Step C) → granted (xs ++ x ∷ []) ≡ granted xs + grant_of x.call
  granted_one [] x = omega arith
  granted_one (v ∷ vs) x = let h = granted_one vs x in omega arith

-- p₀ is the check that was opened, t₀ its table then
module _ {C : Type 0} (s : Shape C) (laws : Laws s) (p₀ : Progress) (t₀ : List (Find C)) (admits : Admits s (length t₀)) (xs : List (Step C)) where
  -- i calls of the script xs were made; the check is p over the table t and a store that holds h and may hold l, and ys is the script since
  pub record Underway (i : ℕ) (p : Progress) (t : List (Find C)) (h : List C) (l : ℕ) (ys : List (Step C)) : Type 0 where
    pub like : Like (view p t h) (after s (length t₀) (granted (take i xs)))
    pub rows : (counts_of p).rows ≡ length t₀
    pub kept : Kept (counts_of p₀) t₀ p t
    pub long : length t ≡ length t₀
    pub room : length t₀ ≤ l
    pub answers : made s (length t₀) 0 xs ≡ take i ys ++ made s (length t₀) (granted (take i xs)) (drop i xs)
    pub rest : drop i ys ≡ drop i xs
    pub as_many : length ys ≡ length xs

  module _ (i : ℕ) (p : Progress) (t : List (Find C)) (h : List C) (l : ℕ) (ys : List (Step C)) (under : Underway i p t h l ys) where
    sound : Sound s (length t₀) (view p t h)
    sound = sound_like s (length t₀) (view p t h) _ under.like (after_sound s laws (length t₀) admits.firsts_fit (granted (take i xs)))

    pub under_ready : Ready s (counts_of p) t h l
    under_ready = record {
      long = under.long ∙ sym under.rows;
      intact = sound_intact sound;
      size = let a = sound.rows.size in let b = length-take (counts_of p).finds t in omega arith;
      limit = let a = under.rows in let b = under.room in omega arith;
    }

    -- one call more
    module _ (lt : i < length ys) (d : Step C) (p' : Progress) (t' : List (Find C)) (h' : List C) (a : Result (Reply C) Refused) (acted : Acted s p t h (get_or ys i d).call p' t' h' a) where
      abbrev now : Step C
      now = get_or ys i d

      abbrev q : ℕ
      q = granted (take i xs)

      here : drop i xs ≡ now ∷ drop (i + 1) xs
      here =
          sym under.rest ∙ entry_left ys i now (slice_get-get_or ys i d lt)
          ∙ ap (λ zs. now ∷ zs) (drop_past ys xs i (i + 1) (omega arith) under.rest)

      more_granted : granted (take (i + 1) xs) ≡ q + grant_of now.call
      more_granted = ap granted (take_entry xs i now (nth_first xs i now (drop (i + 1) xs) here)) ∙ granted_one (take i xs) now

      more_like : Like (view p' t' h') (after s (length t₀) (q + grant_of now.call))
      more_like =
          (goes_on s (length t₀) laws admits q (grant_of now.call) (view p' t' h') (view p t h)
          (subst (λ (r : ℕ). Like (view p' t' h') (queried s r (grant_of now.call) (view p t h))) under.long acted.like) under.like).like

      abbrev next : Step C
      next = record now { answer = Some a }

      more_answers : made s (length t₀) 0 xs ≡ take (i + 1) (set ys i next) ++ made s (length t₀) (granted (take (i + 1) xs)) (drop (i + 1) xs)
      more_answers =
          let b : a ≡ answer_to (after s (length t₀) (q + grant_of now.call)) now.call = acted.answer ∙ answer_like now.call (view p' t' h') _ more_like in
          under.answers
          ∙ ap (λ zs. take i ys ++ made s (length t₀) q zs) here
          ∙ ap (λ (v : Result (Reply C) Refused). take i ys ++ record { call = now.call; answer = Some v } ∷ made s (length t₀) (q + grant_of now.call) (drop (i + 1) xs)) (sym b)
          ∙ sym (append_assoc (take i ys) (next ∷ []) (made s (length t₀) (q + grant_of now.call) (drop (i + 1) xs)))
          ∙ ap (λ zs. zs ++ made s (length t₀) (q + grant_of now.call) (drop (i + 1) xs)) (sym (take_more_set ys i next lt))
          ∙ ap (λ (n : ℕ). take (i + 1) (set ys i next) ++ made s (length t₀) n (drop (i + 1) xs)) (sym more_granted)

      pub under_more : (l' : ℕ) → l' ≡ l → length t' ≡ length t → Underway (i + 1) p' t' h' l' (set ys i next)
      under_more l' e f = record {
        like = subst (λ (n : ℕ). Like (view p' t' h') (after s (length t₀) n)) (sym more_granted) more_like;
        rows = acted.kept.rows ∙ under.rows;
        kept = kept_trans (counts_of p₀) t₀ p t under.kept p' t' acted.kept;
        long = f ∙ under.long;
        room = let b = under.room in omega arith;
        answers = more_answers;
        rest = drop_set ys i next ∙ drop_past ys xs i (i + 1) (omega arith) under.rest;
        as_many = length-set ys i next ∙ under.as_many;
      }

    -- all calls were made, on a check that was opened over t₋
    pub under_done : length ys ≤ i → (t₋ : List (Find C)) (h₀ : List C) (l₀ : ℕ) → Opened s t₋ p₀ t₀ h₀ l₀ → length t₀ ≡ length t₋ → Ran s t₋ xs p t h l ys
    under_done le t₋ h₀ l₀ opened same =
        let n : length xs ≤ i = let b = under.as_many in omega arith in
        let all : take i xs ≡ xs = take_all i xs n in
        let like : Like (view p t h) (after s (length t₀) (granted xs)) = subst (λ zs. Like (view p t h) (after s (length t₀) (granted zs))) all under.like in
        let stands : Stands s (length t₀) (granted xs) (view p t h) =
        record { like = like; promise = promise_like s (length t₀) (granted xs) (view p t h) _ like (keeps_promise s laws (length t₀) (granted xs) admits) } in
        let answered : made s (length t₀) 0 xs ≡ ys =
        under.answers
        ∙ ap (λ zs. take i ys ++ made s (length t₀) (granted (take i xs)) zs) (none_left xs i n)
        ∙ append-nil (take i ys)
        ∙ take_all i ys le in
        record {
          stands = subst (λ (r : ℕ). Stands s r (granted xs) (view p t h)) same stands;
          answers = sym (subst (λ (r : ℕ). made s r 0 xs ≡ ys) same answered);
          rows = under.rows ∙ same;
          behind = under.kept.behind ∙ drop_past t₀ t₋ (counts_of p₀).finds (counts_of p).finds under.kept.more opened.behind;
          ready = under_ready;
        }

  pub under_none : (h : List C) (l : ℕ) (t₋ : List (Find C)) → Opened s t₋ p₀ t₀ h l → length t₀ ≡ length t₋ → length t₀ ≤ l → Underway 0 p₀ t₀ h l xs
  under_none h l t₋ opened same room = record {
    like = subst (λ zs. Like (view p₀ t₀ h) (after s (length t₀) (granted zs))) (sym (take_none xs)) (subst (λ (r : ℕ). Like (view p₀ t₀ h) (after s r 0)) (sym same) opened.stands.like);
    rows = opened.rows ∙ sym same;
    kept = kept_same (counts_of p₀) t₀ p₀ refl;
    long = refl;
    room = room;
    answers =
        ap (made s (length t₀) 0) (sym (drop_none xs))
        ∙ ap (λ zs. zs ++ made s (length t₀) (granted zs) (drop 0 xs)) (sym (take_none xs));
    rest = refl;
    as_many = refl;
  }
    where
      take_none : (zs : List (Step C)) → take 0 zs ≡ []
      take_none [] = refl
      take_none (v ∷ vs) = refl

      drop_none : (zs : List (Step C)) → drop 0 zs ≡ zs
      drop_none [] = refl
      drop_none (v ∷ vs) = refl
