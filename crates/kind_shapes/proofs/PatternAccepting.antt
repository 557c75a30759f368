-- The pattern kind accepts exactly what the pattern does.
use Rattle.std.proofs.Common.{◌≡◌, ℕ, ◌%◌, ◌^◌, ◌<◌, ltb, List, [], ◌∷◌, Some, None, Option, sym, refl, ap, ◌∙◌, subst, ap₂, mod-eq_of_lt, arith}
use Rattle.std.proofs.lemmas.Nat.{mod_below, pow_pos}
use Rattle.std.proofs.lemmas.Bool.{cond-true, ltb-true, lt-ltb}
use Rattle.sets.specs.Events.{lowered}
use Rattle.sets.specs.Sets.{has}
use Rattle.patterns.specs.Accepted as pattern
use Rattle.patterns.specs.Automaton.{Automaton}
use Rattle.patterns.specs.Formed.{Formed}
use Rattle.patterns.specs.Values.{back}
use Rattle.patterns.proofs.Accepting.{backs, decides_accepted, decides_lowered}
use Rattle.kinds.specs.Accepted.{and_then, worked_back, AcceptedEvents, NothingAccepted}
use Rattle.kinds.proofs.Values.{from_value}
use Rattle.kind_shapes.specs.Acceptance.{Exactly, Plain, PatternAcceptance, NeverMatches}
use Rattle.kind_shapes.specs.Shapes.{pattern_shape}
use Rattle.kind_shapes.proofs.PatternLaws.{only}
use Rattle.kind_shapes.proofs.Taking.{tested}

-- a first plain event is below 2 ^ m, and the others are plain
pub plain_parts : (m a : ℕ) (es : List ℕ) → Plain m (a ∷ es) → (a < 2 ^ m) × Plain m es
plain_parts m a es p =
    let e : a % 2 ^ m ≡ a = cc in
    let l = mod_below a (2 ^ m) (pow_pos m) in
    (omega arith, cc)

-- events with their bits from m up cleared are plain
pub lowered_plain : (m : ℕ) (es : List ℕ) → Plain m (lowered m es)
lowered_plain m [] = refl
lowered_plain m (a ∷ es) =
    ap₂ (λ (x : ℕ) (xs : List ℕ). x ∷ xs) (mod-eq_of_lt (mod_below a (2 ^ m) (pow_pos m))) (lowered_plain m es)

module _ (A : Automaton) where
  -- moves that can be worked back are plain events, and work as those
  worked : (ms : List ℕ) (c g : ℕ) → worked_back (pattern_shape A) ms c ≡ Some g → Plain A.signals ms × (backs A ms c ≡ g)
  worked [] c g e = (refl, cc)
  worked (k ∷ ms) c g e =
      let y = from_value (worked_back (pattern_shape A) ms c) ((pattern_shape A).back k) g e in
      let r = worked ms c y.0 y.1 in
      let t = tested (ltb k (2 ^ A.signals)) (back A k y.0) g y.2 in (
        ap₂ (λ (x : ℕ) (xs : List ℕ). x ∷ xs) (mod-eq_of_lt (ltb-true k (2 ^ A.signals) t.0)) r.0,
        ap (back A k) r.1 ∙ t.1,
      )

  -- and plain events can be worked back
  works : (es : List ℕ) (c : ℕ) → Plain A.signals es → worked_back (pattern_shape A) es c ≡ Some (backs A es c)
  works [] c p = refl
  works (a ∷ es) c p =
      let q = plain_parts A.signals a es p in
      ap (λ (o : Option ℕ). and_then o ((pattern_shape A).back a)) (works es c q.1)
      ∙ cond-true (ltb a (2 ^ A.signals)) (Some (back A a (backs A es c))) None (lt-ltb a (2 ^ A.signals) q.0)

  module _ (F : Formed A) where
    -- bits from m up make no difference to the pattern
    pub accepted_cleared : (es : List ℕ) → Exactly (pattern.Accepted A es) (pattern.Accepted A (lowered A.signals es))
    accepted_cleared es =
        let d = decides_accepted A F es in
        let l = decides_lowered A F es in
        ((λ x. l.0 (d.1 x)), λ x. d.0 (l.1 x))

    kind_to_pattern : (es : List ℕ) → AcceptedEvents (pattern_shape A) es → Plain A.signals es × pattern.Accepted A es
    kind_to_pattern es x =
        let a = x.accepted in
        let w = worked x.moves a.first a.end a.leads in
        let same : x.moves ≡ es = sym w.0 ∙ x.stands_for in
        let first : A.finals ≡ a.first = only A.finals a.first a.place a.is_first in
        let end : backs A es A.finals ≡ a.end =
        ap (λ (c : ℕ). backs A es c) first ∙ ap (λ (ms : List ℕ). backs A ms a.first) (sym same) ∙ w.1 in (
          subst (Plain A.signals) same w.0,
          (decides_accepted A F es).0 (ap (λ (c : ℕ). has c A.start) end ∙ a.is_goal),
        )

    pattern_to_kind : (es : List ℕ) → Plain A.signals es × pattern.Accepted A es → AcceptedEvents (pattern_shape A) es
    pattern_to_kind es x = record {
      moves = es;
      accepted = record {
        place = 0;
        first = A.finals;
        end = backs A es A.finals;
        is_first = refl;
        leads = works es A.finals x.0;
        is_goal = (decides_accepted A F es).1 x.1;
      };
      stands_for = x.0;
    }

    pub pattern_acceptance : PatternAcceptance A
    pattern_acceptance = record { plain = λ es. (kind_to_pattern es, pattern_to_kind es); cleared = accepted_cleared }

    -- where the kind accepts nothing, the pattern does not
    pub never_matches : NothingAccepted (pattern_shape A) → NeverMatches A
    never_matches n es x =
        n.no_events (lowered A.signals es)
        (pattern_to_kind (lowered A.signals es) (lowered_plain A.signals es, (accepted_cleared es).0 x))
