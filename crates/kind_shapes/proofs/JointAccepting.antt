-- The joint kind accepts exactly what the pattern accepts and the model sends.
use Rattle.std.proofs.Common.{◌≡◌, ℕ, ◌+◌, ◌*◌, ◌/◌, ◌%◌, ◌^◌, eqb, List, [], ◌∷◌, length, Some, Option, sym, refl, ap, ◌∙◌, subst, ap₂}
use Rattle.std.specs.List.{slice_get}
use Rattle.std.specs.Option.{option_map}
use Rattle.std.proofs.lemmas.Nat.{div-mul-add, mod-mul-add}
use Rattle.std.proofs.lemmas.Option.{slice_get-get_or, slice_get-map}
use Rattle.std.proofs.lemmas.Bool.{and_parts, and_from, eqb-true, eq-eqb}
use Rattle.sets.specs.Events.{lowered}
use Rattle.sets.specs.Sets.{has}
use Rattle.patterns.specs.Accepted as pattern
use Rattle.patterns.specs.Automaton.{Automaton}
use Rattle.patterns.specs.Formed as pattern_formed
use Rattle.patterns.specs.Values.{back}
use Rattle.patterns.proofs.Accepting.{backs, decides_accepted}
use Rattle.models.specs.Formed as model-formed
use Rattle.models.specs.Machine.{Machine, arrow, idle}
use Rattle.models.specs.Sent.{Walks, done, step, Sends, admits}
use Rattle.models.proofs.Sending.{sends_lowered}
use Rattle.kinds.specs.Accepted.{and_then, worked_back, events, AcceptedEvents, NothingAccepted}
use Rattle.kinds.proofs.Values.{from_value}
use Rattle.kind_shapes.specs.declared.JointConfig.{JointConfig}
use Rattle.kind_shapes.specs.Acceptance.{Plain, JointAcceptance, NeverTogether}
use Rattle.kind_shapes.specs.Shapes.{members, joined, joint_shape}
use Rattle.kind_shapes.proofs.JointLaws.{crossing, crosses, first_is}
use Rattle.kind_shapes.proofs.Listing.{member_listed}
use Rattle.kind_shapes.proofs.PatternAccepting.{plain_parts, lowered_plain, accepted_cleared}

module _ (A : Automaton) (M : Machine) where
  -- moves that can be worked back follow a walk of the model, and work on the set as their events do
  worked : (ms : List ℕ) (c g : JointConfig) → worked_back (joint_shape A M) ms c ≡ Some g
      → Walks M (events (joint_shape A M) ms) g.state c.state × (backs A (events (joint_shape A M) ms) c.set ≡ g.set)
  worked [] c g e =
      let q : c ≡ g = cc in
      (subst (λ (v : JointConfig). Walks M [] v.state c.state) q done, ap (λ (v : JointConfig). v.set) q)
  worked (k ∷ ms) c g e =
      let y = from_value (worked_back (joint_shape A M) ms c) ((joint_shape A M).back k) g e in
      let r = worked ms c y.0 y.1 in
      let x = crossing A M k y.0 g y.2 in
      let a = k % 2 ^ A.signals in (
        step (k / 2 ^ A.signals) x.there (ap (λ (v : JointConfig). v.state) x.left) x.admitted
            (subst (λ (q : ℕ). Walks M (events (joint_shape A M) ms) q c.state) (sym x.entered) r.0),
        ap (back A a) r.1 ∙ ap (λ (v : JointConfig). v.set) x.left,
      )

  -- moves that stand for events and lead back from one configuration to another
  record Led (es : List ℕ) (c g : JointConfig) : Type 0 where
    moves : List ℕ
    stands_for : events (joint_shape A M) moves ≡ es
    leads : worked_back (joint_shape A M) moves c ≡ Some g

  -- and a walk under plain events gives such moves
  walked : {es : List ℕ} {s t : ℕ} → Walks M es s t → Plain A.signals es → (d : ℕ) → Led es (joined t d) (joined s (backs A es d))
  walked done p d = record { moves = []; stands_for = refl; leads = refl }
  walked (step {a = a} {s = s} {t = t} {es = es} i h from admitted w) p d =
      let m = A.signals in
      let q = plain_parts m a es p in
      let r = walked w q.1 d in
      let k = i * 2 ^ m + a in
      let number : k / 2 ^ m ≡ i = div-mul-add i (2 ^ m) a q.0 in
      let event : k % 2 ^ m ≡ a = mod-mul-add i (2 ^ m) a q.0 in
      let u = arrow M i in
      let found : slice_get M.arrows (k / 2 ^ m) ≡ Some u = ap (slice_get M.arrows) number ∙ slice_get-get_or M.arrows i idle h in
      let back_u = crosses A M k (joined u.to (backs A es d)) u found (ap (admits u) event ∙ admitted) refl in
      record {
        moves = k ∷ r.moves;
        stands_for = ap₂ (λ (x : ℕ) (xs : List ℕ). x ∷ xs) event r.stands_for;
        leads =
            ap (λ (o : Option JointConfig). and_then o ((joint_shape A M).back k)) r.leads
            ∙ back_u
            ∙ ap (λ (x : ℕ). Some (joined u.from (back A x (backs A es d)))) event
            ∙ ap (λ (x : ℕ). Some (joined x (back A a (backs A es d)))) from;
      }

  -- events of moves are plain
  events_plain : (ms : List ℕ) → Plain A.signals (events (joint_shape A M) ms)
  events_plain = lowered_plain A.signals

  module _ (F : pattern_formed.Formed A) (G : model-formed.Formed A.signals M) where
    kind_to_both : (es : List ℕ) → AcceptedEvents (joint_shape A M) es → Plain A.signals es × pattern.Accepted A es × Sends M es
    kind_to_both es x =
        let a = x.accepted in
        let w = worked x.moves a.first a.end a.leads in
        let f = first_is A M a.place a.first a.is_first in
        let g = and_parts (eqb a.end.state M.start) (has a.end.set A.start) a.is_goal in
        let es' = events (joint_shape A M) x.moves in
        let end : backs A es' A.finals ≡ a.end.set = ap (backs A es') (sym f.2) ∙ w.1 in
        let accepted : pattern.Accepted A es' =
        (decides_accepted A F es').0 (ap (λ (c : ℕ). has c A.start) end ∙ g.1) in
        let walk : Walks M es' M.start a.first.state =
        subst (λ (q : ℕ). Walks M es' q a.first.state) (eqb-true a.end.state M.start g.0) w.0 in (
          subst (Plain A.signals) x.stands_for (events_plain x.moves),
          subst (pattern.Accepted A) x.stands_for accepted,
          subst (Sends M) x.stands_for (a.first.state, walk, f.1),
        )

    both_to_kind : (es : List ℕ) → Plain A.signals es × pattern.Accepted A es × Sends M es → AcceptedEvents (joint_shape A M) es
    both_to_kind es x =
        let t = x.2.0 in
        let L = walked x.2.1 x.0 A.finals in
        let f : ℕ → JointConfig = λ q. joined q A.finals in
        let here = member_listed M.ends M.states t (G.finishes t x.2.2) x.2.2 in
        record {
          moves = L.moves;
          accepted = record {
            place = length (members M.ends t);
            first = joined t A.finals;
            end = joined M.start (backs A es A.finals);
            is_first = slice_get-map f (members M.ends M.states) (length (members M.ends t)) ∙ ap (option_map f) here;
            leads = L.leads;
            is_goal = and_from (eqb M.start M.start) (has (backs A es A.finals) A.start)
                (eq-eqb M.start M.start refl) ((decides_accepted A F es).1 x.1);
          };
          stands_for = L.stands_for;
        }

    pub joint_acceptance : JointAcceptance A M
    joint_acceptance = record {
      plain = λ es. (kind_to_both es, both_to_kind es);
      cleared = accepted_cleared A F;
      sent = sends_lowered A.signals M G;
    }

    -- where the kind accepts nothing, the model sends nothing that the pattern accepts
    pub never_together : NothingAccepted (joint_shape A M) → NeverTogether A M
    never_together n es x y =
        n.no_events (lowered A.signals es)
        (both_to_kind (lowered A.signals es)
        (lowered_plain A.signals es, (accepted_cleared A F es).0 x, (sends_lowered A.signals M G es).0 y))
