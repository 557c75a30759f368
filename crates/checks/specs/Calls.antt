-- What a check needs for its next query, and what the calls leave.
--
-- Ready s n t h l                table and store, of a check with counts n, are as an advance asks them to be
-- Answered s n t h a             a is the least move from the row that is being expanded, with where it leads
-- new_row n t k x                the row that is recorded for move k and where it led, x
-- begun_with r n                 the counts of a check that was opened over r rows and recorded n of them
-- noted n                        the counts once a row is recorded
-- passed n                       the counts once the row that is being expanded is closed
-- asked n                        the counts once a query was made that neither records nor closes a row
-- made_counts n r a              the counts after a query over r rows that was answered with a
-- made_verdict s n r a           the verdict after it
-- made_rows n t a                the table after it
-- made_item n r a                what it puts into the store, if anything
-- Put s o h h'                   h' is what is held once o was put into a store that held h, or as before if o is none
-- NextReady s p t h l            table and store are ready for another query, where the check p has no verdict
-- Stands s r q u                 the state u is that of a search over r rows after q queries, but for the order of what is held, and keeps the promise
-- Opened s t p t' h l            the check p was opened over the table t, which is t' since; the store holds h and may hold l
-- Kept n t p t'                  p has as many rows as n, no fewer finds, and behind them the table is as it was
-- Advanced s n t h g p t' h' l   the check with counts n was advanced by g queries and is p; the table t is t' since, the store holds h' in place of h and may hold l
-- like                           the queries are those of the defined search, from whatever table and store stand for
-- goes_on                        where the check stood q queries after opening, it stands q + g queries after it, and keeps the promise
use Rattle.std.specs.Prelude.{◌≡◌, ℕ, ◌+◌, ◌≤◌, cond, List, length, take, drop, Some, None, Option, nat_le, nat_lt, slice_set}
use Rattle.std.specs.List.{slice_get}
use Rattle.kinds.specs.Shape.{Shape}
use Rattle.inspector.specs.Inspected.{if_found}
use Rattle.stores.specs.Holding.{Reordered, inserted}
use Rattle.search.specs.declared.Find.{Find}
use Rattle.search.specs.declared.Verdict.{Verdict}
use Rattle.search.specs.declared.Verdict.TheVariants as verdict
use Rattle.search.specs.Search.{State, least_move_of, queried, after, length_at}
use Rattle.search.specs.Like.{Like}
use Rattle.search.specs.Promise.{Admits, Promise}
use Rattle.finds.specs.Intact.{Intact}
use Rattle.checks.specs.declared.counts.Counts.{Counts}
use Rattle.checks.specs.declared.states.Progress.{Progress}
use Rattle.checks.specs.declared.states.Progress.TheVariants.{Running, Matched, Never, Full}
use Rattle.checks.specs.View.{counts_of, stood, view}

abbrev pub begun_with : ℕ → ℕ → Counts
begun_with r n = record { rows = r; finds = n; row = 0; starts = n; queries = 0 }

abbrev pub noted : Counts → Counts
noted n = record { rows = n.rows; finds = n.finds + 1; row = n.row; starts = n.starts; queries = n.queries + 1 }

abbrev pub passed : Counts → Counts
passed n = record { rows = n.rows; finds = n.finds; row = n.row + 1; starts = n.starts; queries = n.queries + 1 }

abbrev pub asked : Counts → Counts
asked n = record { rows = n.rows; finds = n.finds; row = n.row; starts = n.starts; queries = n.queries + 1 }

module _ {C : Type 0} where
  abbrev pub new_row : Counts → List (Find C) → ℕ → C → Find C
  new_row n t k x = record { configuration = x; origin = n.row; via = k; length = length_at t n.row + 1 }

  abbrev pub made_counts : Counts → ℕ → Option (ℕ × C) → Counts
  made_counts n r a = if_found a (λ (b : ℕ × C). cond (nat_le r n.finds) (asked n) (noted n)) (passed n)

  abbrev pub made_rows : Counts → List (Find C) → Option (ℕ × C) → List (Find C)
  made_rows n t a = if_found a (λ (b : ℕ × C). cond (nat_le (length t) n.finds) t (slice_set t n.finds (new_row n t b.0 b.1))) t

  abbrev pub made_item : Counts → ℕ → Option (ℕ × C) → Option C
  made_item n r a = if_found a (λ (b : ℕ × C). cond (nat_le r n.finds) None (Some b.1)) None

  pub record Kept (n : Counts) (t : List (Find C)) (p : Progress) (t' : List (Find C)) : Type 0 where
    pub rows : (counts_of p).rows ≡ n.rows
    pub more : n.finds ≤ (counts_of p).finds
    pub behind : drop (counts_of p).finds t' ≡ drop (counts_of p).finds t

  module _ (s : Shape C) where
    pub record Ready (n : Counts) (t : List (Find C)) (h : List C) (l : ℕ) : Type 0 where
      pub long : length t ≡ n.rows
      pub intact : Intact s n.starts (take n.finds t)
      pub size : length h ≤ n.finds
      pub limit : n.rows ≤ l

    abbrev pub made_verdict : Counts → ℕ → Option (ℕ × C) → Option Verdict
    made_verdict n r a = if_found a (λ (b : ℕ × C). cond (nat_le r n.finds) (Some verdict.Full) (cond (s.goal b.1) (Some verdict.Matches) None)) (cond (nat_lt (n.row + 1) n.finds) None (Some verdict.Never))

    abbrev pub Put : Option C → List C → List C → Type 0
    Put None h h' = h' ≡ h
    Put (Some x) h h' = Reordered (inserted s x h) h'

    abbrev pub Answered : Counts → List (Find C) → List C → Option (ℕ × C) → Type 0
    Answered n t h a = (y : Find C) → slice_get (take n.finds t) n.row ≡ Some y → a ≡ least_move_of s h y.configuration

    abbrev pub NextReady : Progress → List (Find C) → List C → ℕ → Type 0
    NextReady (Running p) t h l = Ready p.counts t h l
    NextReady (Matched p) t h l = Unit {0}
    NextReady (Never p) t h l = Unit {0}
    NextReady (Full p) t h l = Unit {0}

    pub record Stands (r q : ℕ) (u : State C) : Type 0 where
      pub like : Like u (after s r q)
      pub promise : Promise s r q u

    pub record Opened (t : List (Find C)) (p : Progress) (t' : List (Find C)) (h : List C) (l : ℕ) : Type 0 where
      pub stands : Stands (length t) 0 (view p t' h)
      pub rows : (counts_of p).rows ≡ length t
      pub behind : drop (counts_of p).finds t' ≡ drop (counts_of p).finds t
      pub ready : NextReady p t' h l

    pub record Advanced (n : Counts) (t : List (Find C)) (h : List C) (g : ℕ) (p : Progress) (t' : List (Find C)) (h' : List C) (l : ℕ) : Type 0 where
      pub like : Like (view p t' h') (queried s (length t) g (stood n None t h))
      pub kept : Kept n t p t'
      pub ready : NextReady p t' h' l
      pub goes_on : (q : ℕ) → Admits s (length t) → Like (stood n None t h) (after s (length t) q) → Stands (length t) (q + g) (view p t' h')
