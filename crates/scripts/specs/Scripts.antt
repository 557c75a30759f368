-- Scripts of calls on a check, and what the search gives to them.
--
-- grant_of c      how many queries the call c grants: those of an advance that is not refused, otherwise none
-- granted xs      how many the steps xs grant together
-- answer_to t c   what the call c answers where the search stands at t once it is made
-- made s r q xs   the steps xs with their answers, in a search over r rows that was granted q queries before them
-- Acted           one call, which answered a, took the check p, its table t and its held configurations h to p', t' and h'
-- Ran             a script xs over the table t: where it leaves the check p, the table t', the store, and the script ys with its answers
use Rattle.std.specs.Prelude.{◌≡◌, ℕ, ◌+◌, cond, List, [], ◌∷◌, length, drop, Some, Ok, Err, Result}
use Rattle.std.specs.List.{slice_get}
use Rattle.kinds.specs.Shape.{Shape}
use Rattle.inspector.specs.Inspected.{if_found}
use Rattle.search.specs.declared.Find.{Find}
use Rattle.search.specs.Search.{State, queried, after, tally}
use Rattle.search.specs.Like.{Like}
use Rattle.finds.specs.declared.refusals.Refused.{Refused}
use Rattle.finds.specs.declared.refusals.Refused.TheVariants.{Grant, NoRow}
use Rattle.checks.specs.declared.states.Progress.{Progress}
use Rattle.checks.specs.View.{counts_of, view}
use Rattle.checks.specs.Questions.{is_grant}
use Rattle.checks.specs.Calls.{Ready, Kept, Stands}
use Rattle.scripts.specs.declared.Call.{Call}
use Rattle.scripts.specs.declared.Call.TheVariants.{Advance, Tally, Look}
use Rattle.scripts.specs.declared.Reply.{Reply}
use Rattle.scripts.specs.declared.Reply.TheVariants.{Advanced, Tallied, Looked}
use Rattle.scripts.specs.declared.Step.{Step}

abbrev pub grant_of : Call → ℕ
grant_of (Advance g) = cond (is_grant g) g 0
grant_of Tally = 0
grant_of (Look i) = 0

module _ {C : Type 0} where
  abbrev pub granted : List (Step C) → ℕ
  granted [] = 0
  granted (x ∷ xs) = grant_of x.call + granted xs

  abbrev pub answer_to : State C → Call → Result (Reply C) Refused
  answer_to t (Advance g) = cond (is_grant g) (Ok (Advanced t.verdict)) (Err Grant)
  answer_to t Tally = Ok (Tallied (tally t))
  answer_to t (Look i) = if_found (slice_get t.finds i) (λ y. Ok (Looked y)) (Err NoRow)

  module _ (s : Shape C) where
    abbrev pub made : ℕ → ℕ → List (Step C) → List (Step C)
    made r q [] = []
    made r q (x ∷ xs) = record { call = x.call; answer = Some (answer_to (after s r (q + grant_of x.call)) x.call) } ∷ made r (q + grant_of x.call) xs

    pub record Acted (p : Progress) (t : List (Find C)) (h : List C) (c : Call) (p' : Progress) (t' : List (Find C)) (h' : List C) (a : Result (Reply C) Refused) : Type 0 where
      pub like : Like (view p' t' h') (queried s (length t) (grant_of c) (view p t h))
      pub kept : Kept (counts_of p) t p' t'
      pub answer : a ≡ answer_to (view p' t' h') c

    pub record Ran (t : List (Find C)) (xs : List (Step C)) (p : Progress) (t' : List (Find C)) (h : List C) (l : ℕ) (ys : List (Step C)) : Type 0 where
      -- the search stands as many queries after opening as were granted, and keeps the promise
      pub stands : Stands s (length t) (granted xs) (view p t' h)
      -- each call answered what the search gave where it stood
      pub answers : ys ≡ made (length t) 0 xs
      -- the table has its rows, and behind the recorded ones it is as it was
      pub rows : (counts_of p).rows ≡ length t
      pub behind : drop (counts_of p).finds t' ≡ drop (counts_of p).finds t
      -- table and store are as later calls ask
      pub ready : Ready s (counts_of p) t' h l
