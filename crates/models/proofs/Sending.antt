-- Working back from the end states finds exactly what is sent, and only bits below m count.
use Rattle.std.proofs.Common.{◌≡◌, ℕ, ◌<◌, true, List, [], ◌∷◌, length, reverse, Decides, sym, refl, ap, ◌∙◌, arith}
use mathlib.Core.List.{reverse-cons}
use Rattle.std.specs.List.{fold}
use Rattle.std.proofs.lemmas.List.Sums.{fold_push}
use Rattle.sets.specs.Sets.{has}
use Rattle.models.specs.Machine.{Machine, arrow}
use Rattle.models.specs.Formed.{Formed}
use Rattle.sets.specs.Events.{lowered}
use Rattle.models.specs.Sent.{Walks, done, step, Sends}
use Rattle.models.specs.Sources.{sources}
use Rattle.models.proofs.Admitting.{admits_lowered}
use Rattle.models.proofs.Stepping.{led, leads_back}

-- the events worked back from a set, the last first
abbrev pub worked : Machine → List ℕ → ℕ → ℕ
worked M [] d = d
worked M (a ∷ es) d = sources M.arrows a (worked M es d)

-- which is to fold over them from the last to the first
pub worked_is : (M : Machine) (es : List ℕ) (d : ℕ) → fold (λ d a. sources M.arrows a d) d (reverse es) ≡ worked M es d
worked_is M [] d = refl
worked_is M (a ∷ es) d =
    let f = λ (d a : ℕ). sources M.arrows a d in
    ap (fold f d) (reverse-cons a es) ∙ fold_push f d (reverse es) a ∙ ap (sources M.arrows a) (worked_is M es d)

module _ (m : ℕ) (M : Machine) (F : Formed m M) where
  walks_lowered : {es : List ℕ} {s t : ℕ} → Walks M es s t → Walks M (lowered m es) s t
  walks_lowered done = done
  walks_lowered (step {a = a} i h l e w) =
      step i h l (sym (admits_lowered m (arrow M i) a (F.joined i h).masked) ∙ e) (walks_lowered w)

  walks_raised : (es : List ℕ) {s t : ℕ} → Walks M (lowered m es) s t → Walks M es s t
  walks_raised [] done = done
  walks_raised (a ∷ es) (step i h l e w) =
      step i h l (admits_lowered m (arrow M i) a (F.joined i h).masked ∙ e) (walks_raised es w)

  -- bits from m up make no difference
  pub sends_lowered : (es : List ℕ) → (Sends M es → Sends M (lowered m es)) × (Sends M (lowered m es) → Sends M es)
  sends_lowered es = ((λ x. (x.0, walks_lowered x.1, x.2)), λ x. (x.0, walks_raised es x.1, x.2))

module _ (M : Machine) (few : (i : ℕ) → i < length M.arrows → (arrow M i).from < 64) where
  found : (es : List ℕ) (s : ℕ) → has (worked M es M.ends) s ≡ true → (t : ℕ) × Walks M es s t × (has M.ends t ≡ true)
  found [] s e = (s, done, e)
  found (a ∷ es) s e =
      let L = led a (worked M es M.ends) M.arrows s e in
      let x = found es (arrow M L.place).to L.into in
      (x.0, step L.place L.there L.leaves L.admitted x.1, x.2)

  reaches : {es : List ℕ} {s t : ℕ} → Walks M es s t → has M.ends t ≡ true → has (worked M es M.ends) s ≡ true
  reaches done e = e
  reaches (step {a = a} {s = s} {es = es} i h l g w) e =
      leads_back a (worked M es M.ends) M.arrows s (let p = few i h in omega arith)
      (record { place = i; there = h; leaves = l; admitted = g; into = reaches w e })

  pub decides_sends : (es : List ℕ) → Decides (has (worked M es M.ends) M.start) (Sends M es)
  decides_sends es = (found es M.start, λ x. reaches x.1 x.2)
