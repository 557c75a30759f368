-- What the inspector answers to any list, by the questions that it asks in their order. Meaning.antt says the same of each answer by itself.
--
-- max_entries       the most entries that a list may have
-- least             the least number below n that passes a test
-- has_such          whether there is a value that passes a test
-- if_found          the answer to what was found, or else what comes next
-- uncovered         whether xs does not cover x
-- leads_out         whether move k leads back from y to what xs does not cover
-- unfit_entry       the least entry that does not fit
-- uncovered_first   the least first configuration that the list does not cover
-- goal_entry        the least entry that is a goal
-- escaping_move     the least move that leads out from entry i
-- escape            the least entry from which a move leads out, with its least such move
-- examined          the answer to a list whose entries fit
-- inspected         the answer to any list
use Rattle.std.specs.Prelude.{ℕ, zero, suc, Bool, false, cond, not, List, length, is_some, Some, None, Ok, Err, Option, Result, nat_lt}
use Rattle.std.specs.List.{slice_get}
use Rattle.std.specs.Option.{option_map, option_or}
use Rattle.std.specs.Bool.{then_some}
use Rattle.kinds.specs.Shape.{Shape}
use Rattle.kinds.specs.Accepted.{and_then}
use Rattle.kinds.specs.Certificate.{covered}
use Rattle.inspector.specs.declared.answers.Inspection.{Inspection}
use Rattle.inspector.specs.declared.answers.Inspection.TheVariants.{Passed, First, Goal, Back}
use Rattle.inspector.specs.declared.answers.Refused.{Refused}
use Rattle.inspector.specs.declared.answers.Refused.TheVariants.{TooLong, Unfit}

abbrev pub max_entries : ℕ
max_entries = 4096

unfoldable pub least : (ℕ → Bool) → ℕ → Option ℕ
least p zero = None
least p (suc n) = option_or (least p n) (then_some (p n) n)

abbrev pub has_such : {A : Type 0} → (A → Bool) → Option A → Bool
has_such p None = false
has_such p (Some x) = p x

abbrev pub if_found : {A B : Type 0} → Option A → (A → B) → B → B
if_found None f b = b
if_found (Some a) f b = f a

module _ {C : Type 0} (s : Shape C) (xs : List C) where
  abbrev pub uncovered : C → Bool
  uncovered x = not (covered s xs x)

  abbrev pub leads_out : ℕ → C → Bool
  leads_out k y = has_such uncovered (s.back k y)

  abbrev pub unfit_entry : Option ℕ
  unfit_entry = least (λ i. has_such (λ y. not (s.fits y)) (slice_get xs i)) (length xs)

  abbrev pub uncovered_first : Option ℕ
  uncovered_first = least (λ i. has_such uncovered (slice_get s.firsts i)) (length s.firsts)

  abbrev pub goal_entry : Option ℕ
  goal_entry = least (λ i. has_such s.goal (slice_get xs i)) (length xs)

  abbrev pub escaping_move : ℕ → Option ℕ
  escaping_move i = least (λ k. has_such (leads_out k) (slice_get xs i)) s.moves

  abbrev pub escape : Option (ℕ × ℕ)
  escape = and_then (least (λ i. is_some (escaping_move i)) (length xs)) (λ i. option_map (λ k. (i, k)) (escaping_move i))

  abbrev pub examined : Inspection
  examined =
      if_found uncovered_first First
      (if_found goal_entry Goal
      (if_found escape (λ p. Back p.0 p.1)
      Passed))

  abbrev pub inspected : Result Inspection Refused
  inspected =
      cond (nat_lt max_entries (length xs)) (Err TooLong)
      (if_found unfit_entry (λ i. Err (Unfit i))
      (Ok examined))
