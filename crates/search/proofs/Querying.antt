-- A query keeps a search sound. Assumes nothing.
use Rattle.std.proofs.Common.{◌≡◌, ℕ, zero, suc, ◌<◌, ◌≤◌, false, ltb, [], ◌∷◌, ◌++◌, length, is_some, Some, None, refl, ap, ◌∙◌, subst, inl, inr, ⊎_elim, arith}
use Rattle.std.specs.List.{slice_get}
use Rattle.std.proofs.lemmas.Bool.{cases_lt, cond_both, ltb-true, ltb-false}
use Rattle.kinds.specs.Shape.{Shape}
use Rattle.kinds.specs.Laws.{Laws}
use Rattle.search.specs.declared.Find.{Find}
use Rattle.search.specs.declared.Verdict.TheVariants.{Matches, Never}
use Rattle.search.specs.Search.{State, least_move_of, find_from, closed, filled, grown, expanded, query, queried, opened, after}
use Rattle.search.proofs.Entries.{Each, no_value, found_both, same_entry, one_longer, earlier_entry, last_entry, either_entry, each_more}
use Rattle.search.proofs.Moves.{nothing_new, something_new}
use Rattle.search.proofs.Invariant.{ByRow, Clear, Going, Stage, Sound}
use Rattle.search.proofs.Growing.{by_row, by_row_still, origins_came, rows_more}
use Rattle.search.proofs.Reaching.{accepted_longer}
use Rattle.search.proofs.Opening.{opened_sound}

module _ {C : Type 0} (s : Shape C) (laws : Laws s) (r : ℕ) where
  module _ (t : State C) (sound : Sound s r t) (going : Going s t) (y : Find C) (there : slice_get t.finds t.row ≡ Some y) where
    near : Each (λ z. z.length ≤ suc y.length) t.finds
    near = going.near y there

    -- ---- a row is closed

    module _ (none : least_move_of s t.held y.configuration ≡ None) where
      led_to : (k : ℕ) (x : C) → s.back k y.configuration ≡ Some x → ByRow s t.finds (suc y.length) x
      led_to k x b = by_row s t.finds t.held sound.rows (suc y.length) near x (nothing_new s t.held y.configuration laws none k x b)

      one_closed : Clear s t.finds (suc t.row)
      one_closed = record {
        firsts = going.clear.firsts;
        closed = λ i z e l. elim (cases_lt i t.row) [
          | inl m ↦ going.clear.closed i z e m
          | inr m ↦
              let q : i ≡ t.row = omega arith in
              subst (λ (v : Find C). (k : ℕ) (x : C) → s.back k v.configuration ≡ Some x → ByRow s t.finds (suc v.length) x)
              (same_entry t.finds i y z (ap (slice_get t.finds) q ∙ there) e) led_to
        ];
        goalless = going.clear.goalless;
      }

      closed_sound : Sound s r (closed t)
      closed_sound = record {
        rows = sound.rows;
        origins = sound.origins;
        starts = sound.starts;
        begins = sound.begins;
        room = sound.room;
        stage = cond_both (ltb (suc t.row) (length t.finds)) None (Some Never) (Stage s (closed t))
            (λ l. record {
              clear = one_closed;
              here = ltb-true (suc t.row) (length t.finds) l;
              near = λ o e i z q. let a = near i z q in let b = sound.rows.ascends t.row (suc t.row) y o (omega arith) there e in omega arith;
              counted = let c = going.counted in omega arith;
            })
            (λ l.
            let m = ltb-false (suc t.row) (length t.finds) l in
            let n = going.here in
            let c = going.counted in
            record { clear = one_closed; past = omega arith; counted = omega arith });
      }

    -- ---- the table is full

    filled_sound : Sound s r (filled t)
    filled_sound = record {
      rows = sound.rows;
      origins = sound.origins;
      starts = sound.starts;
      begins = sound.begins;
      room = sound.room;
      stage = record { clear = going.clear; here = going.here; counted = let c = going.counted in omega arith };
    }

    -- ---- a find is recorded

    module _ (a : ℕ × C) (found : least_move_of s t.held y.configuration ≡ Some a) (room : length t.finds < r) where
      abbrev new : Find C
      new = find_from t.row y a

      clear_still : s.goal a.1 ≡ false → Clear s (t.finds ++ new ∷ []) t.row
      clear_still g = record {
        firsts = λ i c e. by_row_still s t.finds new 0 c (going.clear.firsts i c e);
        closed = λ i z e l k x b. ⊎_elim
            (λ (q : slice_get t.finds i ≡ Some z). by_row_still s t.finds new (suc z.length) x (going.clear.closed i z q l k x b))
            (λ (q : (i ≡ length t.finds) × (new ≡ z)). let p = q.0 in let m = going.here in absurd (omega arith))
            (either_entry t.finds new i z e);
        goalless = each_more (λ z. s.goal z.configuration ≡ false) t.finds new going.clear.goalless g;
      }

      near_still : (o : Find C) → slice_get (t.finds ++ new ∷ []) t.row ≡ Some o → Each (λ z. z.length ≤ suc o.length) (t.finds ++ new ∷ [])
      near_still o e =
          subst (λ (v : Find C). Each (λ z. z.length ≤ suc v.length) (t.finds ++ new ∷ []))
          (same_entry (t.finds ++ new ∷ []) t.row y o (earlier_entry t.finds (new ∷ []) t.row y there) e)
          (each_more (λ z. z.length ≤ suc y.length) t.finds new near (omega arith))

      grown_sound : Sound s r (grown s t new)
      grown_sound =
          let f = something_new s t.held y.configuration a found in
          let longer = one_longer t.finds new in
          let fewer = sound.starts in
          let here = going.here in
          let counted = going.counted in
          record {
            rows = rows_more s laws t.finds t.held sound.rows new (laws.back_fits a.0 y.configuration a.1 (sound.rows.fits t.row y there) f.1) f.2 near;
            origins = origins_came s t.finds new t.starts sound.starts sound.origins
                record { from = y; there = there; earlier = here; longer = refl; move = f.0; back = f.1 };
            starts = omega arith;
            begins = λ _. sound.begins (omega arith);
            room = omega arith;
            stage = cond_both (s.goal a.1) (Some Matches) None (Stage s (grown s t new))
                (λ g. record {
                  entry = new;
                  there = last_entry t.finds new;
                  goal = g;
                  shortest = accepted_longer s laws t.finds t.held sound.rows t.row going.clear y there;
                  here = omega arith;
                  counted = omega arith;
                })
                (λ g. record { clear = clear_still g; here = omega arith; near = near_still; counted = omega arith });
          }

    expanded_sound : Sound s r (expanded s r t y)
    expanded_sound = found_both (Sound s r) (least_move_of s t.held y.configuration) _ _
        (λ a e. cond_both (ltb (length t.finds) r) _ _ (Sound s r) (λ l. grown_sound a e (ltb-true (length t.finds) r l)) (λ _. filled_sound))
        closed_sound

  pub query_sound : (t : State C) → Sound s r t → Sound s r (query s r t)
  unfolding query
  query_sound t sound = cond_both (is_some t.verdict) _ _ (Sound s r) (λ _. sound)
      (λ e. found_both (Sound s r) (slice_get t.finds t.row) _ _
      (expanded_sound t sound (subst (Stage s t) (no_value t.verdict e) sound.stage))
      (λ _. sound))

  pub queried_sound : (n : ℕ) (t : State C) → Sound s r t → Sound s r (queried s r n t)
  unfolding queried
  queried_sound zero t sound = sound
  queried_sound (suc n) t sound = query_sound (queried s r n t) (queried_sound n t sound)

  pub after_sound : length s.firsts ≤ r → (q : ℕ) → Sound s r (after s r q)
  after_sound room q = queried_sound q (opened s) (opened_sound s laws r room)
