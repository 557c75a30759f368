-- The sequence and the certificate of a search's state are those of its rows and its store. Assumes nothing.
use Rattle.std.proofs.Common.{◌≡◌, refl}
use Rattle.kinds.specs.Shape.{Shape}
use Rattle.search.specs.Search.{State, sequence, certificate}
use Rattle.finds.specs.Results.{sequence_of, certificate_of}

module _ {C : Type 0} (s : Shape C) (t : State C) where
  pub state_sequence : sequence_of s t.finds ≡ sequence s t
  state_sequence = refl

  pub state_certificate : certificate_of s t.held t.finds ≡ certificate s t
  state_certificate = refl
