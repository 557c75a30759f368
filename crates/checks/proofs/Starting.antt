-- Opening, one first configuration after another. Assumes nothing.
use Rattle.std.proofs.Common.{◌≡◌, ℕ, zero, suc, ◌+◌, ◌<◌, ◌≤◌, Bool, true, false, cond, ltb, List, [], ◌∷◌, ◌++◌, length, take, drop, set, Some, None, Option, sym, refl, ap, ◌∙◌, subst, add-one, arith, length-set, length-take}
use Rattle.std.specs.List.{slice_get}
use Rattle.std.proofs.lemmas.Option.{slice_get_within}
use Rattle.std.proofs.lemmas.List.{take_more_set}
use Rattle.std.proofs.lemmas.Bool.{cond-true, cond-false}
use Rattle.kinds.specs.Shape.{Shape}
use Rattle.kinds.specs.Laws.{Laws}
use Rattle.kinds.specs.Certificate.{covered}
use Rattle.kinds.proofs.Values.{none_some}
use Rattle.stores.specs.Holding.{Reordered, inserted}
use Rattle.stores.proofs.Reorderings.{reordered_refl, reordered_length, covered_reordered, inserted_reordered}
use Rattle.stores.proofs.Insertions.{inserted_length}
use Rattle.search.specs.declared.Find.{Find}
use Rattle.search.specs.declared.Verdict.{Verdict}
use Rattle.search.specs.declared.Verdict.TheVariants.{Matches, Never}
use Rattle.search.specs.Search.{State, start, begun, opening, opened, queried}
use Rattle.search.specs.Like.{Like}
use Rattle.search.specs.Promise.{Admits}
use Rattle.search.proofs.Entries.{Each, each_more}
use Rattle.search.proofs.Orders.{like_refl, like_trans, promise_like}
use Rattle.search.proofs.Promises.{keeps_promise}
use Rattle.checks.specs.View.{stood}
use Rattle.checks.specs.Calls.{Ready, begun_with, Stands}
use Rattle.checks.proofs.Stepping.{drop_set}

-- the entry at i is the first of what is left from i on
pub entry_left : {A : Type 0} (xs : List A) (i : ℕ) (x : A) → slice_get xs i ≡ Some x → drop i xs ≡ x ∷ drop (i + 1) xs
entry_left {A = A} xs i x e = go xs i e ∙ ap (λ (m : ℕ). x ∷ drop m xs) (sym (add-one i))
  where
    go : (xs : List A) (i : ℕ) → slice_get xs i ≡ Some x → drop i xs ≡ x ∷ drop (suc i) xs
    go [] i e = none_some refl e
    go (v ∷ vs) zero e = let q : v ≡ x = cc in ap (λ u. u ∷ vs) q
    go (v ∷ vs) (suc i) e = go vs i e

pub none_left : {A : Type 0} (xs : List A) (i : ℕ) → length xs ≤ i → drop i xs ≡ []
none_left [] zero l = refl
none_left [] (suc i) l = refl
none_left (v ∷ vs) zero l = absurd (omega arith)
none_left (v ∷ vs) (suc i) l = none_left vs i (omega arith)

drop_further : {A : Type 0} (xs ys : List A) (n : ℕ) → drop n xs ≡ drop n ys → drop (n + 1) xs ≡ drop (n + 1) ys
drop_further {A = A} xs ys n e = one xs n ∙ ap (drop 1) e ∙ sym (one ys n)
  where
    nothing : (k : ℕ) → drop {A = A} k [] ≡ []
    nothing zero = refl
    nothing (suc k) = refl

    go : (xs : List A) (n : ℕ) → drop (suc n) xs ≡ drop 1 (drop n xs)
    go [] n = sym (ap (drop 1) (nothing n))
    go (v ∷ vs) zero = refl
    go (v ∷ vs) (suc n) = go vs n

    one : (xs : List A) (n : ℕ) → drop (n + 1) xs ≡ drop 1 (drop n xs)
    one xs n = ap (λ (m : ℕ). drop m xs) (add-one n) ∙ go xs n

module _ {C : Type 0} (s : Shape C) where
  -- the order of what is held makes no difference to what opening goes on to do
  opening_like : (cs : List C) (fs : List (Find C)) (h h' : List C) → Reordered h h' → Like (opening s cs fs h') (opening s cs fs h)
  opening_like [] fs h h' p = record { same = refl; held = p }
  opening_like (c ∷ cs) fs h h' p =
      subst (λ (b : Bool). Like (cond b (opening s cs fs h') (cond (s.goal c) (matched h') (opening s cs (fs ++ start c ∷ []) (inserted s c h')))) (opening s (c ∷ cs) fs h)) (covered_reordered s c p)
      (two (covered s h c) (s.goal c) (opening_like cs fs h h' p) (opening_like cs (fs ++ start c ∷ []) (inserted s c h) (inserted s c h') (inserted_reordered s c p)))
    where
      matched : List C → State C
      matched k = begun (fs ++ start c ∷ []) (inserted s c k) (Some Matches)

      two : (b g : Bool) → Like (opening s cs fs h') (opening s cs fs h) → Like (opening s cs (fs ++ start c ∷ []) (inserted s c h')) (opening s cs (fs ++ start c ∷ []) (inserted s c h))
          → Like (cond b (opening s cs fs h') (cond g (matched h') (opening s cs (fs ++ start c ∷ []) (inserted s c h')))) (cond b (opening s cs fs h) (cond g (matched h) (opening s cs (fs ++ start c ∷ []) (inserted s c h))))
      two true g x y = x
      two false true x y = record { same = refl; held = inserted_reordered s c p }
      two false false x y = y

  -- i first configurations were taken, n of them recorded in t, which was t₀; h is held
  pub record Taken (t₀ : List (Find C)) (i n : ℕ) (t : List (Find C)) (h : List C) : Type 0 where
    pub few : n ≤ i
    pub size : length h ≤ n
    pub long : length t ≡ length t₀
    pub zeros : Each (λ y. y.length ≡ 0) (take n t)
    pub behind : drop n t ≡ drop n t₀
    pub like : Like (opening s (drop i s.firsts) (take n t) h) (opened s)

  pub taken_none : (t : List (Find C)) (h : List C) → length h ≡ 0 → Taken t 0 0 t h
  unfolding opened
  taken_none t [] e = record {
    few = omega arith;
    size = omega arith;
    long = refl;
    zeros = λ i y q. none_some refl (sym (ap (λ (xs : List (Find C)). slice_get xs i) (none_taken t)) ∙ q);
    behind = refl;
    like = subst (λ (xs : List (Find C)). Like (opening s (drop 0 s.firsts) xs []) (opening s s.firsts [] [])) (sym (none_taken t)) (like_refl (opening s s.firsts [] []));
  }
    where
      none_taken : (t : List (Find C)) → take 0 t ≡ []
      none_taken [] = refl
      none_taken (v ∷ vs) = refl
  taken_none t (x ∷ xs) e = absurd (omega arith)

  module _ (t₀ : List (Find C)) (i n : ℕ) (t : List (Find C)) (h : List C) (taken : Taken t₀ i n t h) (x : C) (e : slice_get s.firsts i ≡ Some x) where
    next : opening s (drop i s.firsts) (take n t) h ≡ opening s (x ∷ drop (i + 1) s.firsts) (take n t) h
    next = ap (λ cs. opening s cs (take n t) h) (entry_left s.firsts i x e)

    -- one that is covered is passed over
    pub taken_covered : covered s h x ≡ true → Taken t₀ (i + 1) n t h
    taken_covered c = record {
      few = let a = taken.few in omega arith;
      size = taken.size;
      long = taken.long;
      zeros = taken.zeros;
      behind = taken.behind;
      like = subst (λ (u : State C). Like u (opened s)) (next ∙ cond-true (covered s h x) _ _ c) taken.like;
    }

    -- any other is recorded
    module _ (new : covered s h x ≡ false) (room : n < length t) (t' : List (Find C)) (set_is : t' ≡ set t n (start x)) (h' : List C) (put : Reordered (inserted s x h) h') where
      rows : take (n + 1) t' ≡ take n t ++ start x ∷ []
      rows = ap (take (n + 1)) set_is ∙ take_more_set t n (start x) room

      more_size : length h' ≤ n + 1
      more_size = let a = reordered_length put in let b = inserted_length s x h in let c = taken.size in omega arith

      more_long : length t' ≡ length t₀
      more_long = ap length set_is ∙ length-set t n (start x) ∙ taken.long

      more_behind : drop (n + 1) t' ≡ drop (n + 1) t₀
      more_behind = ap (drop (n + 1)) set_is ∙ drop_set t n (start x) ∙ drop_further t t₀ n taken.behind

      more_zeros : Each (λ y. y.length ≡ 0) (take (n + 1) t')
      more_zeros = subst (Each (λ y. y.length ≡ 0)) (sym rows) (each_more (λ y. y.length ≡ 0) (take n t) (start x) taken.zeros refl)

      pub taken_more : s.goal x ≡ false → Taken t₀ (i + 1) (n + 1) t' h'
      taken_more g = record {
        few = let a = taken.few in omega arith;
        size = more_size;
        long = more_long;
        zeros = more_zeros;
        behind = more_behind;
        like =
            like_trans _ (opening s (drop (i + 1) s.firsts) (take n t ++ start x ∷ []) (inserted s x h)) _
            (subst (λ fs. Like (opening s (drop (i + 1) s.firsts) fs h') (opening s (drop (i + 1) s.firsts) (take n t ++ start x ∷ []) (inserted s x h))) (sym rows)
            (opening_like (drop (i + 1) s.firsts) (take n t ++ start x ∷ []) (inserted s x h) h' put))
            (subst (λ (u : State C). Like u (opened s)) (next ∙ cond-false (covered s h x) _ _ new ∙ cond-false (s.goal x) _ _ g) taken.like);
      }

      -- and a goal ends opening
      pub met_like : s.goal x ≡ true → Like (stood (begun_with (length t₀) (n + 1)) (Some Matches) t' h') (opened s)
      met_like g =
          let m : length (take n t ++ start x ∷ []) ≡ n + 1 = ap length (sym rows) ∙ length-take (n + 1) t' ∙ (let u = ap length set_is in let v = length-set t n (start x) in omega arith) in
          like_trans _ (begun (take n t ++ start x ∷ []) (inserted s x h) (Some Matches)) _
          record {
            same = λ j. record { finds = rows j; held = h'; row = 0; starts = sym m j; queries = 0; verdict = Some Matches };
            held = put;
          }
          (subst (λ (u : State C). Like u (opened s)) (next ∙ cond-false (covered s h x) _ _ new ∙ cond-true (s.goal x) _ _ g) taken.like)

      pub met_behind : drop (n + 1) t' ≡ drop (n + 1) t₀
      met_behind = more_behind

  -- all were taken
  module _ (t₀ : List (Find C)) (i n : ℕ) (t : List (Find C)) (h : List C) (taken : Taken t₀ i n t h) (all : length s.firsts ≤ i) (fits : n ≤ length t) where
    recorded : length (take n t) ≡ n
    recorded = let b = length-take n t in omega arith

    pub done_like : (v : Option Verdict) → v ≡ cond (ltb 0 n) None (Some Never) → Like (stood (begun_with (length t₀) n) v t h) (opened s)
    done_like v e =
        like_trans _ (opening s (drop i s.firsts) (take n t) h) _
        (subst (λ cs. Like (stood (begun_with (length t₀) n) v t h) (opening s cs (take n t) h)) (sym (none_left s.firsts i all))
        record {
          same = λ j. record { finds = take n t; held = h; row = 0; starts = sym recorded j; queries = 0; verdict = (e ∙ ap (λ (m : ℕ). cond (ltb 0 m) None (Some Never)) (sym recorded)) j };
          held = reordered_refl h;
        })
        taken.like

    pub done_ready : (l : ℕ) → length t ≤ l → Ready s (begun_with (length t₀) n) t h l
    done_ready l room = record {
      long = taken.long;
      intact = record {
        starts = λ j y q _. taken.zeros j y q;
        follows = λ j y q m. let w = slice_get_within (take n t) j y q in absurd (omega (arith, recorded));
      };
      size = taken.size;
      limit = let a = taken.long in omega arith;
    }

-- where a check stands that was just opened
pub opened_stands : {C : Type 0} (s : Shape C) → Laws s → (r : ℕ) → Admits s r → (u : State C) → Like u (opened s) → Stands s r 0 u
unfolding queried
opened_stands s laws r admits u l = record { like = l; promise = promise_like s r 0 u (opened s) l (keeps_promise s laws r 0 admits) }
