use Rattle.std.proofs.Common.{◌≡◌, ℕ, List, take, Some, None, Option, IfSome, ap, ◌∙◌, arith}
use Rattle.std.proofs.lemmas.List.{take-take}
use Rattle.std.specs.Option.{option_map}
use Rattle.without.proofs.read_front.Goals as goal

-- what is taken of what is left, if that is known, and cut once more
front_taken : (left : Option (List ℕ)) (n : ℕ) (front cut : List ℕ) → IfSome (option_map (take n) left) (λ bytes. front ≡ bytes) → cut ≡ take n front → IfSome left (λ bytes. cut ≡ take n bytes)
front_taken None n front cut h e = tt
front_taken (Some bytes) n front cut h e = e ∙ ap (take n) h ∙ take-take n n bytes (omega arith)

pub returns-clause-items : goal.returns-clause-items
returns-clause-items g c = let h = rw (c.take.ensures.limit, c.take.ensures.inner, c.in_ok-front.ensures.items) at c.in_ok-read_to_end.ensures.bytes in
    front_taken (g.R.Read.remaining c.args.reader) 6657 _ _ h c.truncate.ensures.items
