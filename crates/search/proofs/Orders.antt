-- The order of what is held makes no difference. Assumes nothing.
use Rattle.std.proofs.Common.{◌≡◌, ℕ, zero, suc, Bool, true, false, cond, not, ltb, List, map, length, is_some, Some, None, Ok, filter, Option, sym, refl, ap, ◌∙◌, subst, arith}
use mathlib.Core.Path.{fun_ext}
use Rattle.std.specs.List.{slice_get}
use Rattle.std.specs.Option.{option_map}
use Rattle.kinds.specs.Shape.{Shape}
use Rattle.kinds.specs.Accepted.{and_then}
use Rattle.inspector.specs.declared.answers.Inspection.TheVariants.{Passed}
use Rattle.inspector.specs.Inspected.{least, has_such, if_found, inspected}
use Rattle.stores.specs.Holding.{Reordered, next, alike}
use Rattle.stores.proofs.Reorderings.{reordered_refl, reordered_length, reordered_entry, covered_reordered, alike_reordered, inserted_reordered, apart_reordered}
use Rattle.search.specs.declared.Find.{Find}
use Rattle.search.specs.declared.Verdict.{Verdict}
use Rattle.search.specs.declared.Verdict.TheVariants.{Matches, Never, Full}
use Rattle.search.specs.Search.{State, least_move_of, find_from, closed, filled, grown, expanded, query, queried, tally, sequence, certificate}
use Rattle.search.specs.Promise.{Promise}
use Rattle.search.specs.Like.{holding, Like, OrderFree}
use Rattle.search.proofs.Invariant.{Rows, Stage, Sound}

module _ {C : Type 0} where
  pub like_refl : (t : State C) → Like t t
  like_refl t = record { same = refl; held = reordered_refl t.held }

  pub like_trans : (t u v : State C) → Like t u → Like u v → Like t v
  like_trans t u v a b = record { same = a.same ∙ ap (λ (w : State C). holding w t.held) b.same; held = next b.held a.held }

  -- whichever way a test or a search comes out
  cond_like : (b : Bool) (t u t' u' : State C) → Like t u → Like t' u' → Like (cond b t t') (cond b u u')
  cond_like true t u t' u' a b = a
  cond_like false t u t' u' a b = b

  found_like : {A : Type 0} (o : Option A) (f g : A → State C) (t u : State C) → ((a : A) → Like (f a) (g a)) → Like t u → Like (if_found o f t) (if_found o g u)
  found_like None f g t u a b = b
  found_like (Some x) f g t u a b = a x

module _ {C : Type 0} (s : Shape C) where
  module _ (xs ys : List C) (p : Reordered xs ys) where
    pub least_move_reordered : (y : C) → least_move_of s xs y ≡ least_move_of s ys y
    least_move_reordered y =
        ap (λ (u : C → Bool). and_then (least (λ k. has_such u (s.back k y)) s.moves) (λ k. option_map (λ x. (k, x)) (s.back k y)))
        (fun_ext (λ x. ap not (covered_reordered s x p)))

    kept_reordered : (zs : List C) → filter (alike s xs) zs ≡ filter (alike s ys) zs
    kept_reordered zs = ap (λ (a : C → Bool). filter a zs) (fun_ext (λ x. alike_reordered s x p))

  module _ (r : ℕ) where
    expanded_like : (u : State C) (h : List C) → Reordered u.held h → (y : Find C) → Like (expanded s r (holding u h) y) (expanded s r u y)
    expanded_like u h p y =
        subst (λ o. Like (if_found o (λ a. cond (ltb (length u.finds) r) (grown s (holding u h) (find_from u.row y a)) (filled (holding u h))) (closed (holding u h))) (expanded s r u y))
        (least_move_reordered u.held h p y.configuration)
        (found_like (least_move_of s u.held y.configuration) _ _ _ _
        (λ a. cond_like (ltb (length u.finds) r) _ _ _ _ (record { same = refl; held = inserted_reordered s a.1 p }) (record { same = refl; held = p }))
        (record { same = refl; held = p }))

    pub query_like : (t u : State C) → Like t u → Like (query s r t) (query s r u)
    unfolding query
    query_like t u l =
        subst (λ (v : State C). Like (query s r v) (query s r u)) (sym l.same)
        (cond_like (is_some u.verdict) _ _ _ _ (record { same = refl; held = l.held })
        (found_like (slice_get u.finds u.row) _ _ _ _ (expanded_like u t.held l.held) (record { same = refl; held = l.held })))

    pub queried_like : (n : ℕ) (t u : State C) → Like t u → Like (queried s r n t) (queried s r n u)
    unfolding queried
    queried_like zero t u l = l
    queried_like (suc n) t u l = query_like (queried s r n t) (queried s r n u) (queried_like n t u l)

  pub certificate_like : (t u : State C) → Like t u → certificate s t ≡ certificate s u
  certificate_like t u l = ap (certificate s) l.same ∙ sym (kept_reordered u.held t.held l.held (map (λ y. y.configuration) u.finds))

  pub promise_like : (r q : ℕ) (t u : State C) → Like t u → Promise s r q u → Promise s r q t
  promise_like r q t u l p = subst (Promise s r q) (sym l.same) record {
    matches = p.matches;
    shortest = p.shortest;
    never = λ e. subst (λ xs. inspected s xs ≡ Ok Passed) (kept_reordered u.held t.held l.held (map (λ y. y.configuration) u.finds)) (p.never e);
    sound = p.sound;
    longer = p.longer;
    few = p.few;
    ends = p.ends;
  }

  -- ---- and a search stays sound

  rows_reordered : (fs : List (Find C)) (g h : List C) → Reordered g h → Rows s fs g → Rows s fs h
  rows_reordered fs g h p rows = record {
    fits = rows.fits;
    ascends = rows.ascends;
    covers = λ i y e. sym (covered_reordered s y.configuration p) ∙ rows.covers i y e;
    recorded = λ i x e. let m = reordered_entry p i x e in rows.recorded m.0 x m.1;
    apart = apart_reordered s p rows.apart;
    size = let a = rows.size in let b = reordered_length p in omega arith;
  }

  stage_like : (u : State C) (h : List C) (v : Option Verdict) → Stage s u v → Stage s (holding u h) v
  stage_like u h None g = record { clear = g.clear; here = g.here; near = g.near; counted = g.counted }
  stage_like u h (Some Full) g = record { clear = g.clear; here = g.here; counted = g.counted }
  stage_like u h (Some Never) g = record { clear = g.clear; past = g.past; counted = g.counted }
  stage_like u h (Some Matches) g = record { entry = g.entry; there = g.there; goal = g.goal; shortest = g.shortest; here = g.here; counted = g.counted }

  pub sound_like : (r : ℕ) (t u : State C) → Like t u → Sound s r u → Sound s r t
  sound_like r t u l sound = subst (Sound s r) (sym l.same) record {
    rows = rows_reordered u.finds u.held t.held l.held sound.rows;
    origins = sound.origins;
    starts = sound.starts;
    begins = sound.begins;
    room = sound.room;
    stage = stage_like u t.held u.verdict sound.stage;
  }

  pub order_free : OrderFree s
  order_free = record {
    query = query_like;
    queried = queried_like;
    tally = λ t u l. ap tally l.same;
    sequence = λ t u l. ap (sequence s) l.same;
    certificate = certificate_like;
    promise = promise_like;
  }
