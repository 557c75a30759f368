-- What a search promises of a kind whose language is known, in the words of sequences of events; and so of a pattern, and
-- of a pattern with a model.
--
-- A search goes backwards over a table of r rows and is granted q queries; t is the state that it has come to. A
-- sequence may have any events, of any length and with any bits: those that stand for no signal make no difference.
--
-- EventPromise s m L r q t   what is promised of the shape s, whose language over m signals is L
-- EventKeeps s m L           the theorem: where a search for s keeps what searches of every kind promise, it keeps this
-- EventSearches s m L        the theorem: every state of every search for s keeps it, over every table that is admitted
--
-- PatternPromise A r q t     what is promised of the pattern A: its language is what it accepts
-- JointPromise A M r q t     what is promised of the pattern A with the model M: what the one accepts and the other sends
-- PatternKeeps A             the theorem: where a search for A keeps what searches of every kind promise, it keeps this
-- JointKeeps A M             the same for the pattern A with the model M
-- PatternSearches A          the theorem: every state of every search for A keeps it, over every table that is admitted
-- JointSearches A M          the same for the pattern A with the model M
use Rattle.std.specs.Prelude.{◌≡◌, ℕ, ◌-◌, ◌*◌, ◌<◌, ◌≤◌, true, List, length, is_some, Some, Ok}
use Rattle.patterns.specs.Automaton.{Automaton}
use Rattle.patterns.specs.Accepted.{Accepted}
use Rattle.models.specs.Machine.{Machine}
use Rattle.kinds.specs.Shape.{Shape}
use Rattle.kind_shapes.specs.declared.JointConfig.{JointConfig}
use Rattle.kind_shapes.specs.Shapes.{pattern_shape, joint_shape}
use Rattle.kind_shapes.specs.Acceptance.{Plain}
use Rattle.joint_kinds.specs.Language.{Together}
use Rattle.inspector.specs.declared.answers.Inspection.TheVariants.{Passed}
use Rattle.inspector.specs.Inspected.{inspected}
use Rattle.search.specs.declared.Verdict.TheVariants.{Matches, Never}
use Rattle.search.specs.Search.{State, after, cleared, sequence, certificate}
use Rattle.search.specs.Promise.{Admits, Undecided, Promise}

module _ {C : Type 0} (s : Shape C) (m : ℕ) (L : List ℕ → Type 0) where
  pub record EventPromise (r q : ℕ) (t : State C) : Type 0 where
    -- At MATCHES the sequence is in the language, and has no bits but those of the signals; and every sequence in the
    -- language has at least as many events.
    pub matches : t.verdict ≡ Some Matches → L (sequence s t)
    pub plain : t.verdict ≡ Some Matches → Plain m (sequence s t)
    pub shortest : t.verdict ≡ Some Matches → (es : List ℕ) → L es → length (sequence s t) ≤ length es
    -- At NEVER the inspector passes the certificate, and the language is empty; so it is if the inspector passes any
    -- other list.
    pub passes : t.verdict ≡ Some Never → inspected s (certificate s t) ≡ Ok Passed
    pub never : t.verdict ≡ Some Never → (es : List ℕ) → L es → ⊥
    pub sound : (xs : List C) → inspected s xs ≡ Ok Passed → (es : List ℕ) → L es → ⊥
    -- Without a verdict, and at FULL, every sequence in the language has more events than the cleared length.
    pub longer : Undecided t.verdict → (es : List ℕ) → L es → cleared t < length es
    -- At most 2 × r − f queries were made, and once that many are granted there is a verdict.
    pub few : t.queries ≤ 2 * r - t.starts
    pub ends : 2 * r - t.starts ≤ q → is_some t.verdict ≡ true

  abbrev pub EventKeeps : Type 0
  EventKeeps = (r q : ℕ) (t : State C) → Promise s r q t → EventPromise r q t

  abbrev pub EventSearches : Type 0
  EventSearches = (r q : ℕ) → Admits s r → EventPromise r q (after s r q)

abbrev pub PatternPromise : Automaton → ℕ → ℕ → State ℕ → Type 0
PatternPromise A r q t = EventPromise (pattern_shape A) A.signals (Accepted A) r q t

abbrev pub JointPromise : Automaton → Machine → ℕ → ℕ → State JointConfig → Type 0
JointPromise A M r q t = EventPromise (joint_shape A M) A.signals (Together A M) r q t

abbrev pub PatternKeeps : Automaton → Type 0
PatternKeeps A = (r q : ℕ) (t : State ℕ) → Promise (pattern_shape A) r q t → PatternPromise A r q t

abbrev pub JointKeeps : Automaton → Machine → Type 0
JointKeeps A M = (r q : ℕ) (t : State JointConfig) → Promise (joint_shape A M) r q t → JointPromise A M r q t

abbrev pub PatternSearches : Automaton → Type 0
PatternSearches A = (r q : ℕ) → Admits (pattern_shape A) r → PatternPromise A r q (after (pattern_shape A) r q)

abbrev pub JointSearches : Automaton → Machine → Type 0
JointSearches A M = (r q : ℕ) → Admits (joint_shape A M) r → JointPromise A M r q (after (joint_shape A M) r q)
