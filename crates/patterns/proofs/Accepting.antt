-- Working back from the final set finds exactly the accepted sequences.
use Rattle.std.proofs.Common.{◌≡◌, ℕ, ◌+◌, ◌%◌, ◌^◌, true, List, [], ◌∷◌, Decides, fold, reverse, sym, refl, ap, ◌∙◌, arith}
use Rattle.std.proofs.lemmas.Bool.Decides.{Decides-at}
use Rattle.std.proofs.lemmas.Grind.{reverse_onto, fold-append}
use Rattle.sets.specs.Sets.{has, Within}
use Rattle.sets.proofs.Members.{has_set_of, in_set_of, has_one, in_one, set_of_lt, same_set, has_low_mod}
use Rattle.patterns.specs.Automaton.{Automaton, states, root}
use Rattle.patterns.specs.Values.{value, back}
pub use Rattle.patterns.specs.Values.{backs}
use Rattle.patterns.specs.Formed.{Formed}
use Rattle.sets.specs.Events.{lowered}
use Rattle.patterns.specs.Accepted.{Step, Leads, done, step, Accepted}
use Rattle.patterns.proofs.Depending.{value_grows, value_same}

-- going over the events from the last works them back
pub backs_folded : (A : Automaton) (es : List ℕ) (d : ℕ) → backs A es d ≡ fold (λ x a. back A a x) d (reverse es)
backs_folded A [] d = refl
backs_folded A (a ∷ es) d =
    let f : ℕ → ℕ → ℕ = λ x b. back A b x in
    ap (back A a) (backs_folded A es d)
    ∙ sym (ap (fold f d) (reverse_onto es a []) ∙ fold-append f d (reverse es) (a ∷ []))

module _ (A : Automaton) where
  -- back holds every set from which one step leads to d, and only states of such sets
  pub step_back : (a c d : ℕ) → Step A a c d → Within c (back A a d)
  step_back a c d s q h =
      let p = s q h in has_set_of (λ (j : ℕ). value A a d (root A j)) (states A) q p.0 ∙ p.1

  pub back_step : (a c d : ℕ) → Within c (back A a d) → Step A a c d
  back_step a c d w q h = in_set_of (λ (j : ℕ). value A a d (root A j)) (states A) q (w q h)

  pub back_leads : (es : List ℕ) (d : ℕ) → Leads A es (backs A es d) d
  back_leads [] d = done
  back_leads (a ∷ es) d = step (back_step a _ (backs A es d) (λ q h. h)) (back_leads es d)

  module _ (F : Formed A) where
    pub back_grows : (a d d' : ℕ) → Within d d' → Within (back A a d) (back A a d')
    back_grows a d d' w q h =
        let i = in_set_of (λ (j : ℕ). value A a d (root A j)) (states A) q h in
        has_set_of (λ (j : ℕ). value A a d' (root A j)) (states A) q i.0
        ∙ value_grows A F a d d' w (1 + root A q) (root A q) (omega arith) i.1

    -- back looks at the signals below m alone
    pub back_lowered : (a d : ℕ) → back A a d ≡ back A (a % 2 ^ A.signals) d
    back_lowered a d = same_set (states A) (back A a d) (back A (a % 2 ^ A.signals) d)
        (set_of_lt (λ (j : ℕ). value A a d (root A j)) (states A))
        (set_of_lt (λ (j : ℕ). value A (a % 2 ^ A.signals) d (root A j)) (states A))
        (λ q h.
        has_set_of (λ (j : ℕ). value A a d (root A j)) (states A) q h
        ∙ value_same A F a (a % 2 ^ A.signals) d d (λ s l. sym (has_low_mod A.signals a s l)) (λ p l. refl)
        (1 + root A q) (root A q) (omega arith) (F.rooted q h)
        ∙ sym (has_set_of (λ (j : ℕ). value A (a % 2 ^ A.signals) d (root A j)) (states A) q h))

    pub backs_lowered : (es : List ℕ) (d : ℕ) → backs A es d ≡ backs A (lowered A.signals es) d
    backs_lowered [] d = refl
    backs_lowered (a ∷ es) d =
        back_lowered a (backs A es d) ∙ ap (back A (a % 2 ^ A.signals)) (backs_lowered es d)

    leads_within : {es : List ℕ} {c d : ℕ} → Leads A es c d → Within d A.finals → Within c (backs A es A.finals)
    leads_within done w = w
    leads_within (step {a = a} {es = es} {c = c} {d = d} s l) w = λ q h.
        back_grows a d (backs A es A.finals) (leads_within l w) q (step_back a c d s q h)

    found : (es : List ℕ) → has (backs A es A.finals) A.start ≡ true → Accepted A es
    found [] h = (2 ^ A.start, done, λ q e. ap (has A.finals) (in_one A.start q e) ∙ h)
    found (a ∷ es) h = (
      A.finals,
      step (back_step a (2 ^ A.start) (backs A es A.finals)
          (λ q e. ap (has (back A a (backs A es A.finals))) (in_one A.start q e) ∙ h)) (back_leads es A.finals),
      λ q e. e,
    )

    pub decides_accepted : (es : List ℕ) → Decides (has (backs A es A.finals) A.start) (Accepted A es)
    decides_accepted es = (found es, λ x. leads_within x.1 x.2 A.start (has_one A.start))

    -- bits from m up make no difference
    pub decides_lowered : (es : List ℕ) → Decides (has (backs A es A.finals) A.start) (Accepted A (lowered A.signals es))
    decides_lowered es =
        Decides-at _ _ (ap (λ (d : ℕ). has d A.start) (backs_lowered es A.finals)) (decides_accepted (lowered A.signals es))
