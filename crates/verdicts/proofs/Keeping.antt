-- What searches of every kind promise, said of sequences of events. Assumes only that the kind speaks the language.
use Rattle.std.proofs.Common.{◌≡◌, ℕ, ◌%◌, ◌^◌, List, length, arith}
use lib.ListN.{length-map}
use Rattle.sets.specs.Events.{lowered}
use Rattle.patterns.specs.Automaton.{Automaton}
use Rattle.kinds.specs.Shape.{Shape}
use Rattle.kinds.specs.Accepted.{AcceptedEvents}
use Rattle.kinds.specs.Language.{Speaks}
use Rattle.kind_shapes.specs.Shapes.{pattern_shape}
use Rattle.kind_shapes.specs.Acceptance.{PatternAcceptance}
use Rattle.kind_shapes.proofs.PatternAccepting.{lowered_plain}
use Rattle.search.specs.Search.{after, sequence, certificate}
use Rattle.search.specs.Promise.{KeepsPromise}
use Rattle.verdicts.specs.Promises.{EventKeeps, EventSearches, PatternSearches}

-- clearing bits leaves the number of events
as_many : (m : ℕ) (es : List ℕ) → length (lowered m es) ≡ length es
as_many m es = length-map es (λ a. a % 2 ^ m)

module _ {C : Type 0} (s : Shape C) (m : ℕ) (L : List ℕ → Type 0) (speaks : Speaks s m L) where
  -- what is in the language, the kind accepts once the bits from m up are cleared
  for_kind : (es : List ℕ) → L es → AcceptedEvents s (lowered m es)
  for_kind es x = (speaks.plain (lowered m es)).1 (lowered_plain m es, (speaks.cleared es).0 x)

  pub event_promise : EventKeeps s m L
  event_promise r q t p =
      let found = (speaks.plain (sequence s t)).0 in
      record {
        matches = λ e. (found (p.matches e)).1;
        plain = λ e. (found (p.matches e)).0;
        shortest = λ e es x.
            let l = p.shortest e (lowered m es) (for_kind es x) in
            omega (arith, as_many m es);
        passes = p.never;
        never = λ e es x. (p.sound (certificate s t) (p.never e)).no_events (lowered m es) (for_kind es x);
        sound = λ xs i es x. (p.sound xs i).no_events (lowered m es) (for_kind es x);
        longer = λ u es x.
            let l = p.longer u (lowered m es) (for_kind es x) in
            omega (arith, as_many m es);
        few = p.few;
        ends = p.ends;
      }

  -- and so every state of every search for the kind keeps it
  pub event_searches : KeepsPromise s → EventSearches s m L
  event_searches keeps r q admits = event_promise r q (after s r q) (keeps r q admits)

pub pattern_searches : (A : Automaton) → PatternAcceptance A → KeepsPromise (pattern_shape A) → PatternSearches A
pattern_searches A accepting =
    event_searches (pattern_shape A) A.signals _ (record { plain = accepting.plain; cleared = accepting.cleared })
