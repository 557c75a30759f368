-- What the calls of a check ask of the table, the store and the number that they are given.
--
-- admitted s r                  r rows will do: there are 1 to max_rows, and no fewer than first configurations
-- open_refusal s r h l          why no check can be opened over r rows and a store that holds h and may hold l
-- unaltered s n t               the table t is as long as at opening, and its recorded rows are as a search records them
-- store_kept n h l              the store holds no more than rows are recorded, and may hold as many as the table has rows
-- max_grant                     the most queries that a call may grant
-- is_grant g                    g is 1 to max_grant
-- advance_refusal s n t h l g   why a check with counts n is not advanced by g queries
use Rattle.std.specs.Prelude.{ℕ, Bool, cond, ◌&&◌, List, length, take, Some, None, Option, ◌==◌, nat_le}
use Rattle.kinds.specs.Shape.{Shape}
use Rattle.search.specs.declared.Find.{Find}
use Rattle.search.specs.Promise.{max_rows}
use Rattle.finds.specs.declared.refusals.Refused.{Refused}
use Rattle.finds.specs.declared.refusals.Refused.TheVariants.{Rows, Store, Altered, Grant}
use Rattle.finds.specs.Intact.{intact}
use Rattle.checks.specs.declared.counts.Counts.{Counts}

abbrev pub max_grant : ℕ
max_grant = 65535

abbrev pub is_grant : ℕ → Bool
is_grant g = nat_le 1 g && nat_le g max_grant

abbrev pub store_kept : {C : Type 0} → Counts → List C → ℕ → Bool
store_kept n h l = nat_le (length h) n.finds && nat_le n.rows l

module _ {C : Type 0} (s : Shape C) where
  abbrev pub admitted : ℕ → Bool
  admitted r = nat_le 1 r && (nat_le r max_rows && nat_le (length s.firsts) r)

  abbrev pub open_refusal : ℕ → List C → ℕ → Option Refused
  open_refusal r h l =
      cond (admitted r)
      (cond (length h == 0 && nat_le r l) None (Some Store))
      (Some Rows)

  abbrev pub unaltered : Counts → List (Find C) → Bool
  unaltered n t = length t == n.rows && intact s n.starts (take n.finds t)

  abbrev pub advance_refusal : Counts → List (Find C) → List C → ℕ → ℕ → Option Refused
  advance_refusal n t h l g =
      cond (unaltered n t && store_kept n h l)
      (cond (is_grant g) None (Some Grant))
      (Some Altered)
