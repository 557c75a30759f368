-- The backward antichain search of a kind: its states, one query, and what a state gives.
--
-- State           the finds in the table's order; what the store holds; the row e that is being expanded; the number f of finds that opening recorded; how many queries were made; the verdict, if there is one
-- start           the find that opening records for a first configuration
-- never_past      NEVER if no row e is recorded, otherwise no verdict yet
-- begun           the state that opening ends in
-- opening         the same, where the first configurations cs are still to be taken
-- opened          the state after opening
-- least_move_of   the least move that leads back from y to a configuration that h does not cover, with that configuration
-- find_from       the find of a, a move and where it led back to, from row e with y in it
-- closed          row e is closed: no move leads from it to anything new
-- filled          something new was found and the table is full
-- grown           the find y is recorded and its configuration put into the store
-- expanded        what a query makes of a search whose row e has y
-- query           one query over a table of r rows; nothing changes once there is a verdict
-- queried         n queries more
-- after           q queries after opening
-- length_at       the length of row i
-- cleared_at      n without a verdict and at FULL, otherwise 0
-- cleared         the cleared length: everything accepted is longer
-- tally           the verdict and the counts
-- along           the moves of n rows, from row i along the origins
-- last_row_of     the row that was recorded last, which at MATCHES is the goal's
-- moves_back      the moves from the goal's row along its origins; they end before the row of length 0, being as many as the goal's length
-- sequence        their events
-- certificate every row's configuration that the store still holds, in the table's order
use Rattle.std.specs.Prelude.{ℕ, zero, suc, ◌-◌, cond, List, [], ◌∷◌, ◌++◌, map, length, is_some, Some, None, filter, Option, nat_lt}
use Rattle.std.specs.List.{slice_get}
use Rattle.std.specs.Option.{option_map}
use Rattle.kinds.specs.Shape.{Shape}
use Rattle.kinds.specs.Accepted.{and_then, events}
use Rattle.kinds.specs.Certificate.{covered}
use Rattle.inspector.specs.Inspected.{least, if_found, leads_out}
use Rattle.stores.specs.Holding.{inserted, alike}
use Rattle.search.specs.declared.Find.{Find}
use Rattle.search.specs.declared.Tally.{Tally}
use Rattle.search.specs.declared.Verdict.{Verdict}
use Rattle.search.specs.declared.Verdict.TheVariants.{Matches, Never, Full}

pub record State (C : Type 0) : Type 0 where
  pub finds : List (Find C)
  pub held : List C
  pub row : ℕ
  pub starts : ℕ
  pub queries : ℕ
  pub verdict : Option Verdict

-- ---- opening

module _ {C : Type 0} where
  abbrev pub start : C → Find C
  start c = record { configuration = c; origin = 0; via = 0; length = 0 }

  abbrev pub never_past : List (Find C) → ℕ → Option Verdict
  never_past fs e = cond (nat_lt e (length fs)) None (Some Never)

  abbrev pub begun : List (Find C) → List C → Option Verdict → State C
  begun fs h v = record { finds = fs; held = h; row = 0; starts = length fs; queries = 0; verdict = v }

module _ {C : Type 0} (s : Shape C) where
  -- each is recorded unless it is covered, and the first goal that is recorded ends opening
  abbrev pub opening : List C → List (Find C) → List C → State C
  opening [] fs h = begun fs h (never_past fs 0)
  opening (c ∷ cs) fs h =
      cond (covered s h c) (opening cs fs h)
      (cond (s.goal c) (begun (fs ++ start c ∷ []) (inserted s c h) (Some Matches))
      (opening cs (fs ++ start c ∷ []) (inserted s c h)))

  unfoldable pub opened : State C
  opened = opening s.firsts [] []

-- ---- a query

module _ {C : Type 0} where
  abbrev pub find_from : ℕ → Find C → ℕ × C → Find C
  find_from e y a = record { configuration = a.1; origin = e; via = a.0; length = suc y.length }

  abbrev pub closed : State C → State C
  closed t = record {
    finds = t.finds;
    held = t.held;
    row = suc t.row;
    starts = t.starts;
    queries = suc t.queries;
    verdict = never_past t.finds (suc t.row);
  }

  abbrev pub filled : State C → State C
  filled t = record { finds = t.finds; held = t.held; row = t.row; starts = t.starts; queries = suc t.queries; verdict = Some Full }

module _ {C : Type 0} (s : Shape C) where
  abbrev pub least_move_of : List C → C → Option (ℕ × C)
  least_move_of h y = and_then (least (λ k. leads_out s h k y) s.moves) (λ k. option_map (λ x. (k, x)) (s.back k y))

  abbrev pub grown : State C → Find C → State C
  grown t y = record {
    finds = t.finds ++ y ∷ [];
    held = inserted s y.configuration t.held;
    row = t.row;
    starts = t.starts;
    queries = suc t.queries;
    verdict = cond (s.goal y.configuration) (Some Matches) None;
  }

  module _ (r : ℕ) where
    -- the least move is looked for anew in every query, and whether or not the store still holds what row e has
    abbrev pub expanded : State C → Find C → State C
    expanded t y =
        if_found (least_move_of t.held y.configuration)
        (λ a. cond (nat_lt (length t.finds) r) (grown t (find_from t.row y a)) (filled t))
        (closed t)

    unfoldable pub query : State C → State C
    query t = cond (is_some t.verdict) t (if_found (slice_get t.finds t.row) (expanded t) t)

    unfoldable pub queried : ℕ → State C → State C
    queried zero t = t
    queried (suc n) t = query (queried n t)

    abbrev pub after : ℕ → State C
    after q = queried q (opened s)

-- ---- what a state gives

abbrev pub cleared_at : Option Verdict → ℕ → ℕ
cleared_at None n = n
cleared_at (Some Full) n = n
cleared_at (Some Matches) n = 0
cleared_at (Some Never) n = 0

module _ {C : Type 0} where
  abbrev pub length_at : List (Find C) → ℕ → ℕ
  length_at fs i = if_found (slice_get fs i) (λ y. y.length) 0

  abbrev pub cleared : State C → ℕ
  cleared t = cleared_at t.verdict (length_at t.finds t.row)

  abbrev pub tally : State C → Tally
  tally t = record { verdict = t.verdict; finds = length t.finds; starts = t.starts; queries = t.queries; cleared = cleared t }

  abbrev pub along : List (Find C) → ℕ → ℕ → List ℕ
  along fs zero i = []
  along fs (suc n) i = if_found (slice_get fs i) (λ y. y.via ∷ along fs n y.origin) []

  abbrev pub last_row_of : State C → ℕ
  last_row_of t = length t.finds - 1

  abbrev pub moves_back : State C → List ℕ
  moves_back t = along t.finds (length_at t.finds (last_row_of t)) (last_row_of t)

module _ {C : Type 0} (s : Shape C) where
  abbrev pub sequence : State C → List ℕ
  sequence t = events s (moves_back t)

  abbrev pub certificate : State C → List C
  certificate t = filter (alike s t.held) (map (λ y. y.configuration) t.finds)
