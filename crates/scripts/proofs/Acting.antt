-- One call on a check. Assumes nothing.
use Rattle.std.proofs.Common.{◌≡◌, ℕ, Bool, true, false, cond, ◌&&◌, List, length, is_some, Some, None, Ok, Err, Option, Result, sym, refl, ap, ◌∙◌, subst}
use Rattle.std.proofs.lemmas.Bool.{cond-true, cond-false, and_from}
use Rattle.kinds.specs.Shape.{Shape}
use Rattle.kinds.proofs.Values.{none_some}
use Rattle.search.specs.declared.Find.{Find}
use Rattle.search.specs.declared.Verdict.{Verdict}
use Rattle.search.specs.Search.{State, queried}
use Rattle.search.specs.Like.{Like, holding}
use Rattle.search.proofs.Counting.{queried_ended}
use Rattle.search.proofs.Orders.{like_refl}
use Rattle.finds.specs.declared.refusals.Refused.{Refused}
use Rattle.finds.specs.declared.refusals.Refused.TheVariants.{Grant}
use Rattle.checks.specs.declared.counts.Counts.{Counts}
use Rattle.checks.specs.declared.states.Progress.{Progress}
use Rattle.checks.specs.View.{counts_of, verdict_of, view}
use Rattle.checks.specs.Questions.{is_grant, unaltered, store_kept, advance_refusal}
use Rattle.checks.specs.Calls.{Ready}
use Rattle.checks.proofs.Refusing.{ready_unaltered, ready_kept}
use Rattle.checks.proofs.Turning.{none_made, kept_same}
use Rattle.scripts.specs.declared.Call.{Call}
use Rattle.scripts.specs.declared.Call.TheVariants.{Advance, Tally, Look}
use Rattle.scripts.specs.declared.Reply.{Reply}
use Rattle.scripts.specs.declared.Reply.TheVariants.{Advanced}
use Rattle.scripts.specs.Scripts.{grant_of, answer_to, Acted}

-- the answer does not depend on the order of what is held
pub answer_like : {C : Type 0} (c : Call) (t u : State C) → Like t u → answer_to t c ≡ answer_to u c
answer_like {C = C} c t u l = ap (λ (w : State C). answer_to w c) l.same ∙ whatever c
  where
    whatever : (c : Call) → answer_to (holding u t.held) c ≡ answer_to u c
    whatever (Advance g) = refl
    whatever Tally = refl
    whatever (Look i) = refl

module _ {C : Type 0} (s : Shape C) where
  -- a call that grants nothing
  pub acted_idle : (p : Progress) (t : List (Find C)) (h : List C) (c d : Call) (a : Result (Reply C) Refused) → c ≡ d → grant_of d ≡ 0 → a ≡ answer_to (view p t h) d → Acted s p t h c p t h a
  acted_idle p t h c d a e z q = record {
    like = subst (λ (n : ℕ). Like (view p t h) (queried s (length t) n (view p t h))) (sym (ap grant_of e ∙ z)) (none_made s (length t) (view p t h));
    kept = kept_same (counts_of p) t p refl;
    answer = q ∙ ap (answer_to (view p t h)) (sym e);
  }

  -- a grant after the verdict
  pub acted_ended : (g : ℕ) (p : Progress) (t : List (Find C)) (h : List C) (a : Result (Reply C) Refused) → is_some (verdict_of p) ≡ true
      → (v : Option Verdict) → v ≡ verdict_of p → a ≡ cond (is_grant g) (Ok (Advanced v)) (Err Grant) → Acted s p t h (Advance g) p t h a
  acted_ended g p t h a ended v e q = record {
    like = subst (Like (view p t h)) (sym (queried_ended s (length t) (grant_of (Advance g)) (view p t h) ended)) (like_refl (view p t h));
    kept = kept_same (counts_of p) t p refl;
    answer = q ∙ ap (λ (w : Option Verdict). cond (is_grant g) (Ok (Advanced w)) (Err Grant)) e;
  }

  -- a grant that is refused, though table and store are ready, is no grant
  module _ (n : Counts) (t : List (Find C)) (h : List C) (l g : ℕ) (ready : Ready s n t h l) where
    asked : (unaltered s n t && store_kept n h l) ≡ true
    asked = and_from _ _ (ready_unaltered s n t h l g ready) (ready_kept s n t h l g ready)

    opens : advance_refusal s n t h l g ≡ cond (is_grant g) None (Some Grant)
    opens = cond-true _ _ _ asked

    pub no_grant : (e : Refused) → advance_refusal s n t h l g ≡ Some e → (is_grant g ≡ false) × (e ≡ Grant)
    no_grant e q = go (is_grant g) (sym opens ∙ q)
      where
        go : (b : Bool) → cond b None (Some Grant) ≡ Some e → (b ≡ false) × (e ≡ Grant)
        go true r = none_some refl r
        go false r = (refl, cc)

  pub acted_refused : (g : ℕ) (p p' : Progress) (t t' : List (Find C)) (h h' : List C) (e : Refused) → p' ≡ p → t' ≡ t → h' ≡ h → is_grant g ≡ false → e ≡ Grant
      → Acted s p t h (Advance g) p' t' h' (Err e)
  acted_refused g p p' t t' h h' e a b c d f =
      subst (λ (v : Progress). Acted s p t h (Advance g) v t' h' (Err e)) (sym a)
      (subst (λ (v : List (Find C)). Acted s p t h (Advance g) p v h' (Err e)) (sym b)
      (subst (λ (v : List C). Acted s p t h (Advance g) p t v (Err e)) (sym c)
      (acted_idle p t h (Advance g) (Advance g) (Err e) refl (cond-false _ _ _ d) (ap Err f ∙ sym (cond-false _ _ _ d)))))
