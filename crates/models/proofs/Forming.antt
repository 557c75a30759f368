-- A table meets every question exactly if it is a model.
use Rattle.std.proofs.Common.{◌≡◌, ℕ, zero, suc, ◌+◌, ◌*◌, ◌^◌, ◌<◌, ◌≤◌, Bool, true, false, ltb, leb, List, [], ◌∷◌, length, get_or, is_some, is_ok, Some, None, Ok, Err, Decides, Option, Result, sym, refl, ap, ◌∙◌, pow-suc, arith, MatchResult}
use Rattle.std.proofs.lemmas.Bool.{false≢true, leb-true, le-leb}
use Rattle.std.proofs.lemmas.Bool.Decides.{Decides-and, Decides-like, Decides-ltb}
use Rattle.sets.specs.Sets.{Below}
use Rattle.sets.proofs.Members.{decides_below, decides_within}
use Rattle.models.specs.declared.arrow.Arrow.{Arrow}
use Rattle.models.specs.declared.fault.ModelFault.{ModelFault}
use Rattle.models.specs.declared.fault.ModelFault.TheVariants.{Sizes, Arrow as BadArrow}
use Rattle.models.specs.Machine.{Machine, idle}
use Rattle.models.specs.Questions.{judged, sized, proper, arrows_fault, first, unless}
use Rattle.models.specs.Formed.{Joined, Formed}

below_power : (n : ℕ) → n < 2 ^ n
below_power zero = omega arith
below_power (suc n) = let h = below_power n in let p : 2 ^ suc n ≡ 2 ^ n * 2 = pow-suc 2 n in omega arith

decides_leb : (a b : ℕ) → Decides (leb a b) (a ≤ b)
decides_leb a b = (leb-true a b, le-leb a b)

none_from : {X : Type 0} (o : Option X) → is_some o ≡ false → o ≡ None
none_from None e = refl
none_from (Some x) e = let z : ◌≡◌ {A = Bool} true false = e in cc

-- there is no fault exactly if the first question is answered yes and the others show none
no_fault : {X : Type 0} (b : Bool) (f : X) (o : Option X) → first (unless b f) o ≡ None → (b ≡ true) × (o ≡ None)
no_fault true f o e = (refl, e)
no_fault false f o e = (cc, cc)

met : {X : Type 0} (b : Bool) (f : X) (o : Option X) → b ≡ true → o ≡ None → first (unless b f) o ≡ None
met true f o t e = e
met false f o t e = absurd (false≢true t)

module _ (n m : ℕ) where
  pub decides_joined : (t : Arrow) → Decides (proper n m t) (Joined n m t)
  decides_joined t = Decides-like (proper n m t)
      (λ p. record { leaves = p.0; enters = p.1.0; masked = p.1.1.0; inside = p.1.1.1 })
      (λ J. (J.leaves, (J.enters, (J.masked, J.inside))))
      (Decides-and (ltb t.from n) _ (Decides-ltb t.from n)
      (Decides-and (ltb t.to n) _ (Decides-ltb t.to n)
      (Decides-and (ltb t.mask (2 ^ m)) _ (Decides-ltb t.mask (2 ^ m))
      (decides_within t.value t.value t.mask (below_power t.value)))))

  each_joined : (i : ℕ) (ts : List Arrow) → arrows_fault n m i ts ≡ None → (k : ℕ) → k < length ts → Joined n m (get_or ts k idle)
  each_joined i [] e k h = absurd (omega arith)
  each_joined i (t ∷ ts) e zero h = (decides_joined t).0 (no_fault (proper n m t) (BadArrow i) _ e).0
  each_joined i (t ∷ ts) e (suc k) h =
      each_joined (i + 1) ts (no_fault (proper n m t) (BadArrow i) _ e).1 k (omega arith)

  arrows_met : (i : ℕ) (ts : List Arrow) → ((k : ℕ) → k < length ts → Joined n m (get_or ts k idle)) → arrows_fault n m i ts ≡ None
  arrows_met i [] J = refl
  arrows_met i (t ∷ ts) J =
      met (proper n m t) (BadArrow i) _ ((decides_joined t).1 (J 0 (omega arith)))
      (arrows_met (i + 1) ts (λ k h. J (suc k) (omega arith)))

-- the first question, as what a model has of it
decides_sized : (n start ends k : ℕ)
    → Decides (sized n start ends k) ((0 < n) × ((n ≤ 64) × ((k ≤ 256) × ((start < n) × Below ends n))))
decides_sized n start ends k =
    Decides-and (ltb 0 n) _ (Decides-ltb 0 n)
    (Decides-and (leb n 64) _ (decides_leb n 64)
    (Decides-and (leb k 256) _ (decides_leb k 256)
    (Decides-and (ltb start n) _ (Decides-ltb start n)
    (decides_below ends ends n (below_power ends)))))

module _ (m : ℕ) (M : Machine) where
  pub formed : is_some (judged m M) ≡ false → Formed m M
  unfolding judged
  formed none =
      let n = M.states in
      let a = no_fault (sized n M.start M.ends (length M.arrows)) Sizes _ (none_from (judged m M) none) in
      let s = (decides_sized n M.start M.ends (length M.arrows)).0 a.0 in
      record {
        some_states = s.0;
        few_states = s.1.0;
        few_arrows = s.1.1.0;
        starts = s.1.1.1.0;
        finishes = s.1.1.1.1;
        joined = each_joined n m 0 M.arrows a.1;
      }

  pub meets : Formed m M → judged m M ≡ None
  unfolding judged
  meets F =
      let n = M.states in
      met (sized n M.start M.ends (length M.arrows)) Sizes _
      ((decides_sized n M.start M.ends (length M.arrows)).1
      (F.some_states, (F.few_states, (F.few_arrows, (F.starts, F.finishes)))))
      (arrows_met n m 0 M.arrows F.joined)

  -- the answer to all the questions says whether the table is a model
  pub decides_formed : (r : Result (Unit {0}) ModelFault)
      → MatchResult r (λ _. judged m M ≡ None) (λ f. judged m M ≡ Some f) → Decides (is_ok r) (Formed m M)
  decides_formed (Ok _) e = ((λ _. formed (ap is_some e)), λ _. refl)
  decides_formed (Err f) e = (
    (λ z. let t : ◌≡◌ {A = Bool} false true = z in absurd (false≢true t)),
    λ F. let t : ◌≡◌ {A = Option ModelFault} None (Some f) = sym (meets F) ∙ e in absurd (let y : ◌≡◌ {A = ℕ} 0 1 = cc in omega arith),
  )
