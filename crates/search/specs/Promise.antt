-- What a search promises, in the words of the kind and of the inspector.
--
-- A search goes backwards over a table of r rows and is granted q queries. It ends in a verdict: MATCHES, with a
-- sequence; NEVER, with a certificate; FULL, if the table could not hold the next find. Until then, and at FULL, it
-- has a cleared length. The kind's laws are all that is assumed.
--
-- max_rows       the most rows that a table may have
-- RowsFor        tables of r rows for n first configurations: there are 1 to max_rows rows, and no fewer than n
-- Admits         the tables that a search of the kind may be made over
-- Undecided      no verdict yet, or FULL
-- Promise        what is promised of the state t that q queries lead to
-- KeepsPromise   the theorem: every state of every search that the kind admits keeps the promise
use Rattle.std.specs.Prelude.{◌≡◌, ℕ, ◌-◌, ◌*◌, ◌<◌, ◌≤◌, true, List, length, is_some, Some, None, Ok, Option}
use Rattle.kinds.specs.Shape.{Shape}
use Rattle.kinds.specs.Accepted.{AcceptedEvents, NothingAccepted}
use Rattle.inspector.specs.declared.answers.Inspection.TheVariants.{Passed}
use Rattle.inspector.specs.Inspected.{inspected}
use Rattle.search.specs.declared.Verdict.{Verdict}
use Rattle.search.specs.declared.Verdict.TheVariants.{Matches, Never, Full}
use Rattle.search.specs.Search.{State, after, cleared, sequence, certificate}

abbrev pub max_rows : ℕ
max_rows = 4096

pub record RowsFor (n r : ℕ) : Type 0 where
  pub some_row : 1 ≤ r
  pub few_rows : r ≤ max_rows
  pub firsts_fit : n ≤ r

abbrev pub Admits : {C : Type 0} → Shape C → ℕ → Type 0
Admits s r = RowsFor (length s.firsts) r

abbrev pub Undecided : Option Verdict → Type 0
Undecided None = Unit {0}
Undecided (Some Full) = Unit {0}
Undecided (Some Matches) = ⊥
Undecided (Some Never) = ⊥

pub record Promise {C : Type 0} (s : Shape C) (r q : ℕ) (t : State C) : Type 0 where
  -- At MATCHES the sequence is accepted, and every accepted sequence has at least as many events.
  pub matches : t.verdict ≡ Some Matches → AcceptedEvents s (sequence s t)
  pub shortest : t.verdict ≡ Some Matches → (es : List ℕ) → AcceptedEvents s es → length (sequence s t) ≤ length es
  -- At NEVER the inspector passes the certificate; and whatever list the inspector passes, nothing is accepted.
  pub never : t.verdict ≡ Some Never → inspected s (certificate s t) ≡ Ok Passed
  pub sound : (xs : List C) → inspected s xs ≡ Ok Passed → NothingAccepted s
  -- Without a verdict, and at FULL, every accepted sequence has more events than the cleared length.
  pub longer : Undecided t.verdict → (es : List ℕ) → AcceptedEvents s es → cleared t < length es
  -- At most 2 × r − f queries were made, and once that many are granted there is a verdict.
  pub few : t.queries ≤ 2 * r - t.starts
  pub ends : 2 * r - t.starts ≤ q → is_some t.verdict ≡ true

abbrev pub KeepsPromise : {C : Type 0} → Shape C → Type 0
KeepsPromise s = (r q : ℕ) → Admits s r → Promise s r q (after s r q)
