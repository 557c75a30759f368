-- One step backwards, arrow by arrow, and what is found by it.
use Rattle.std.proofs.Common.{◌≡◌, ℕ, ◌+◌, ◌<◌, Bool, true, false, ◌&&◌, ◌||◌, eqb, List, [], ◌∷◌, ◌++◌, length, get_or, take, Decides, sym, refl, ap, ◌∙◌}
use mathlib.Core.Bool.{or-false, or_assoc}
use Rattle.std.proofs.lemmas.List.{take_more, get_or_default}
use Rattle.std.proofs.lemmas.Bool.{and_parts, and_from, eqb-true, eq-eqb}
use Rattle.std.proofs.lemmas.Bool.Decides.{Decides-by_or}
use Rattle.std.specs.List.{HoldsAt}
use Rattle.sets.specs.Sets.{has, set_of}
use Rattle.sets.proofs.Members.{has_set_of, in_set_of, set_of_same}
use Rattle.models.specs.declared.arrow.Arrow.{Arrow}
use Rattle.models.specs.Machine.{idle}
use Rattle.models.specs.Sent.{admits}
use Rattle.models.specs.Sources.{leads, any_leads, sources}

module _ (a d : ℕ) where
  any_push : (q : ℕ) (ts : List Arrow) (t : Arrow) → any_leads a d q (ts ++ t ∷ []) ≡ (any_leads a d q ts || leads a d q t)
  any_push q [] t = or-false (leads a d q t)
  any_push q (u ∷ ts) t =
      ap (λ (b : Bool). leads a d q u || b) (any_push q ts t)
      ∙ sym (or_assoc (leads a d q u) (any_leads a d q ts) (leads a d q t))

  module _ (ts : List Arrow) (i : ℕ) (x : Arrow) (h : i < length ts) where
    any_more : (q : ℕ) → any_leads a d q (take (i + 1) ts) ≡ (any_leads a d q (take i ts) || leads a d q (get_or ts i x))
    any_more q = ap (any_leads a d q) (take_more ts i x h) ∙ any_push q (take i ts) (get_or ts i x)

    -- one arrow more is asked: the state that it leaves joins the set, or the set stays
    pub sources_more : (admits (get_or ts i x) a && has d (get_or ts i x).to) ≡ true
        → set_of (λ q. has (sources (take i ts) a d) q || eqb q (get_or ts i x).from) 64 ≡ sources (take (i + 1) ts) a d
    sources_more e =
        let t = get_or ts i x in
        let before : ℕ → Bool = λ q. any_leads a d q (take i ts) in
        set_of_same (λ q. has (set_of before 64) q || eqb q t.from) (λ q. any_leads a d q (take (i + 1) ts)) 64
        (λ q l.
        ap (λ (b : Bool). b || eqb q t.from) (has_set_of before 64 q l)
        ∙ ap (λ (b : Bool). before q || (b && eqb q t.from)) (sym e)
        ∙ sym (any_more q))

    pub sources_skip : (admits (get_or ts i x) a && has d (get_or ts i x).to) ≡ false
        → sources (take i ts) a d ≡ sources (take (i + 1) ts) a d
    sources_skip e =
        let t = get_or ts i x in
        set_of_same (λ q. any_leads a d q (take i ts)) (λ q. any_leads a d q (take (i + 1) ts)) 64
        (λ q l. sym (any_more q ∙ ap (λ (b : Bool). any_leads a d q (take i ts) || (b && eqb q t.from)) e ∙ or-false (any_leads a d q (take i ts))))

  -- an arrow that admits a and leads from q into d
  pub record Led (ts : List Arrow) (q : ℕ) : Type 0 where
    pub place : ℕ
    pub there : place < length ts
    pub leaves : (get_or ts place idle).from ≡ q
    pub admitted : admits (get_or ts place idle) a ≡ true
    pub into : has d (get_or ts place idle).to ≡ true

  decides_any : (q : ℕ) (ts : List Arrow)
      → Decides (any_leads a d q ts) ((k : ℕ) × (k < length ts) × HoldsAt (λ t. leads a d q t ≡ true) ts k)
  decides_any q ts =
      Decides-by_or (leads a d q) (λ t. leads a d q t ≡ true) (any_leads a d q) (λ t. ((λ e. e), (λ e. e))) refl (λ _ _. refl) ts

  pub led : (ts : List Arrow) (q : ℕ) → has (sources ts a d) q ≡ true → Led ts q
  led ts q e =
      let y = (decides_any q ts).0 (in_set_of (λ (p : ℕ). any_leads a d p ts) 64 q e).1 in
      let t = get_or ts y.0 idle in
      let b = and_parts (admits t a && has d t.to) (eqb q t.from) (y.2 idle) in
      let g = and_parts (admits t a) (has d t.to) b.0 in
      record { place = y.0; there = y.1; leaves = sym (eqb-true q t.from b.1); admitted = g.0; into = g.1 }

  pub leads_back : (ts : List Arrow) (q : ℕ) → q < 64 → Led ts q → has (sources ts a d) q ≡ true
  leads_back ts q l L =
      let t = get_or ts L.place idle in
      let e : leads a d q t ≡ true =
      and_from (admits t a && has d t.to) (eqb q t.from)
      (and_from (admits t a) (has d t.to) L.admitted L.into) (eq-eqb q t.from (sym L.leaves)) in
      has_set_of (λ (p : ℕ). any_leads a d p ts) 64 q l
      ∙ (decides_any q ts).1
      (L.place, L.there, λ x. ap (leads a d q) (get_or_default ts L.place x idle L.there) ∙ e)
