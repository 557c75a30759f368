-- What a call is lent.
--
-- Same m a b   b lends the same table and the same store as a, and the store's m, how many it may hold, is the same
use Rattle.std.specs.Prelude.{◌≡◌, ℕ}
use Rattle.checks.specs.declared.lending.Lent.{Lent}

module _ {C S : Type 0} where
  pub record Same (m : S → ℕ) (a b : Lent C S) : Type 0 where
    pub table : b.table.ghost_name ≡ a.table.ghost_name
    pub store : b.store.ghost_name ≡ a.store.ghost_name
    pub limit : m b.store.now ≡ m a.store.now
