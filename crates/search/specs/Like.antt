-- States that differ at most in the order of what is held. A store may keep any order, so a search over one store
-- and a search over another go through states that are alike in this way.
--
-- holding     the state t with h for what is held
-- Like        t is u but for the order of what is held
-- OrderFree   the theorem: states that are alike stay so under any number of queries, give the same, and keep the same promise
use Rattle.std.specs.Prelude.{◌≡◌, ℕ, List}
use Rattle.kinds.specs.Shape.{Shape}
use Rattle.stores.specs.Holding.{Reordered}
use Rattle.search.specs.Search.{State, query, queried, tally, sequence, certificate}
use Rattle.search.specs.Promise.{Promise}

abbrev pub holding : {C : Type 0} → State C → List C → State C
holding t h = record { finds = t.finds; held = h; row = t.row; starts = t.starts; queries = t.queries; verdict = t.verdict }

pub record Like {C : Type 0} (t u : State C) : Type 0 where
  pub same : t ≡ holding u t.held
  pub held : Reordered u.held t.held

pub record OrderFree {C : Type 0} (s : Shape C) : Type 0 where
  pub query : (r : ℕ) (t u : State C) → Like t u → Like (query s r t) (query s r u)
  pub queried : (r n : ℕ) (t u : State C) → Like t u → Like (queried s r n t) (queried s r n u)
  pub tally : (t u : State C) → Like t u → tally t ≡ tally u
  pub sequence : (t u : State C) → Like t u → sequence s t ≡ sequence s u
  pub certificate : (t u : State C) → Like t u → certificate s t ≡ certificate s u
  pub promise : (r q : ℕ) (t u : State C) → Like t u → Promise s r q u → Promise s r q t
