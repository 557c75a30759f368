-- What is read from a table of finds into a list that the caller lends: the sequence and the certificate.
--
-- Of the state of a search, whose finds are the recorded rows, these are its sequence and its certificate; but they
-- are defined for rows of any contents, and for any store.
--
-- last_of               the row that was recorded last
-- sequence_of           the events from the last row along the origins, as many as that row's length
-- sequence_refusal      why the sequence is not written into a list of n entries, if it is not: the rows are not intact, or else the list is too short
-- certificate_of        every row's configuration that the store holds, in the table's order; h is what the store holds
-- certificate_refusal   why the certificate is not written into a list of n entries, if it is not: the list is too short
-- Chained               every row of some length has a row as its origin that is one shorter
-- Written               n entries of xs were written into the front of a list, and what stood behind them stands there still
-- Untouched             a call was refused, and the list is as it was
-- Answered              what a call that writes xs answers, and what it leaves in the list
use Rattle.std.specs.Prelude.{◌≡◌, ℕ, suc, ◌-◌, ◌<◌, cond, List, ◌++◌, map, length, drop, Some, None, filter, Option, Result, MatchResult, nat_lt}
use Rattle.std.specs.List.{slice_get}
use Rattle.kinds.specs.Shape.{Shape}
use Rattle.kinds.specs.Accepted.{events}
use Rattle.stores.specs.Holding.{alike}
use Rattle.search.specs.declared.Find.{Find}
use Rattle.search.specs.Search.{length_at, along}
use Rattle.finds.specs.declared.refusals.Refused.{Refused}
use Rattle.finds.specs.declared.refusals.Refused.TheVariants.{Altered, SequenceRoom, CertificateRoom}
use Rattle.finds.specs.Intact.{intact}

module _ {C : Type 0} where
  abbrev pub last_of : List (Find C) → ℕ
  last_of fs = length fs - 1

  abbrev pub Chained : List (Find C) → Type 0
  Chained fs = (i : ℕ) (y : Find C) → slice_get fs i ≡ Some y → 0 < y.length → (z : Find C) × (slice_get fs y.origin ≡ Some z) × (y.length ≡ suc z.length)

module _ {C : Type 0} (s : Shape C) where
  abbrev pub sequence_of : List (Find C) → List ℕ
  sequence_of fs = events s (along fs (length_at fs (last_of fs)) (last_of fs))

  abbrev pub sequence_refusal : ℕ → List (Find C) → ℕ → Option Refused
  sequence_refusal f fs n = cond (intact s f fs) (cond (nat_lt n (length (sequence_of fs))) (Some SequenceRoom) None) (Some Altered)

  abbrev pub certificate_of : List C → List (Find C) → List C
  certificate_of h fs = filter (alike s h) (map (λ y. y.configuration) fs)

  abbrev pub certificate_refusal : List C → List (Find C) → ℕ → Option Refused
  certificate_refusal h fs n = cond (nat_lt n (length (certificate_of h fs))) (Some CertificateRoom) None

-- ---- a list that is written to

pub record Written {X : Type 0} (xs : List X) (o : Option Refused) (before after : List X) (n : ℕ) : Type 0 where
  pub unrefused : o ≡ None
  pub count : n ≡ length xs
  pub items : after ≡ xs ++ drop n before

pub record Untouched {X : Type 0} (o : Option Refused) (before after : List X) (e : Refused) : Type 0 where
  pub refused : o ≡ Some e
  pub same : after ≡ before

abbrev pub Answered : {X : Type 0} → List X → Option Refused → List X → List X → Result ℕ Refused → Type 0
Answered xs o before after r = MatchResult r (Written xs o before after) (Untouched o before after)
