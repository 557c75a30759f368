-- Every state of a search keeps the promise. Assumes nothing.
use Rattle.std.proofs.Common.{◌≡◌, ℕ, ◌<◌, ◌≤◌, List, length, is_some, Some, None, Option, sym, refl, ap, ◌∙◌, subst, inl, inr, arith}
use lib.ListN.{length-map}
use Rattle.kinds.specs.Shape.{Shape}
use Rattle.kinds.specs.Laws.{Laws}
use Rattle.kinds.specs.Accepted.{AcceptedEvents}
use Rattle.kinds.proofs.Values.{none_or_some}
use Rattle.kinds.proofs.Searches.{entry_at}
use Rattle.inspector.specs.Inspected.{if_found, inspected}
use Rattle.inspector.proofs.Account.{account}
use Rattle.search.specs.declared.Find.{Find}
use Rattle.search.specs.declared.Verdict.{Verdict}
use Rattle.search.specs.declared.Verdict.TheVariants.{Matches, Never, Full}
use Rattle.search.specs.Search.{State, opened, after, length_at, cleared_at, moves_back, sequence}
use Rattle.search.specs.Promise.{Undecided, Promise, KeepsPromise}
use Rattle.search.proofs.Invariant.{Clear, Stage, Sound}
use Rattle.search.proofs.Reaching.{accepted_longer}
use Rattle.search.proofs.Opening.{opened_sound}
use Rattle.search.proofs.Querying.{after_sound}
use Rattle.search.proofs.Counting.{opened_counts, queried_counts, few_queries, fewer_queries}
use Rattle.search.proofs.Sequences.{met_accepted}
use Rattle.search.proofs.Certifying.{kept_passes}

module _ {C : Type 0} (s : Shape C) (laws : Laws s) (r : ℕ) where
  -- a sequence is as long as the moves that it stands for
  as_long : (es : List ℕ) (a : AcceptedEvents s es) → length es ≡ length a.moves
  as_long es a = sym (ap length a.stands_for) ∙ length-map a.moves s.event

  -- of a sound state
  module _ (t : State C) (sound : Sound s r t) where
    at_verdict : (v : Option Verdict) → t.verdict ≡ v → Stage s t v
    at_verdict v e = subst (Stage s t) e sound.stage

    sequence_accepted : t.verdict ≡ Some Matches → AcceptedEvents s (sequence s t)
    sequence_accepted e = record { moves = moves_back t; accepted = (met_accepted s r t sound (at_verdict (Some Matches) e)).0; stands_for = refl }

    sequence_shortest : t.verdict ≡ Some Matches → (es : List ℕ) → AcceptedEvents s es → length (sequence s t) ≤ length es
    sequence_shortest e es a =
        let m = at_verdict (Some Matches) e in
        let l = (met_accepted s r t sound m).1 in
        let n = m.shortest a.moves a.accepted in
        omega (arith, as_long es a, length-map (moves_back t) s.event)

    longer_than_row : Clear s t.finds t.row → t.row < length t.finds → (es : List ℕ) → AcceptedEvents s es → length_at t.finds t.row < length es
    longer_than_row clear here es a =
        let y = entry_at t.finds t.row here in
        let l = ap (λ o. if_found o (λ (z : Find C). z.length) 0) y.1 in
        let n = accepted_longer s laws t.finds t.held sound.rows t.row clear y.0 y.1 a.moves a.accepted in
        omega (arith, as_long es a)

    longer_at : (v : Option Verdict) → Stage s t v → Undecided v → (es : List ℕ) → AcceptedEvents s es → cleared_at v (length_at t.finds t.row) < length es
    longer_at None g u = longer_than_row g.clear g.here
    longer_at (Some Full) g u = longer_than_row g.clear g.here
    longer_at (Some Matches) g u = absurd u
    longer_at (Some Never) g u = absurd u

    pub promised : (q : ℕ) → r ≤ 4096 → (t.verdict ≡ None → t.queries ≡ q) → Promise s r q t
    promised q short counted = record {
      matches = sequence_accepted;
      shortest = sequence_shortest;
      never = λ e.
          let g = at_verdict (Some Never) e in
          let n = sound.room in
          kept_passes s laws t.finds t.held sound.rows (subst (Clear s t.finds) g.past g.clear) (omega arith);
      sound = λ xs e. (account s laws xs (inspected s xs) refl).ok e;
      longer = longer_at t.verdict sound.stage;
      few = few_queries s r t sound;
      ends = λ l. elim (none_or_some t.verdict) [
        | inl e ↦ let n = fewer_queries s r t sound (at_verdict None e) in let c = counted e in absurd (omega arith)
        | inr v ↦ ap is_some v.1
      ];
    }

pub keeps_promise : {C : Type 0} (s : Shape C) → Laws s → KeepsPromise s
keeps_promise s laws r q admits =
    promised s laws r (after s r q) (after_sound s laws r admits.firsts_fit q) q admits.few_rows
    (λ e. let a = queried_counts s laws r q (opened s) (opened_sound s laws r admits.firsts_fit) e in let b = opened_counts s r in omega arith)
