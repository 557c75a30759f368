use Rattle.std.proofs.Common.{◌≡◌, Bool, true, false, cond, [], None, Some, sym, refl, ap, ◌∙◌}
use Rattle.std.specs.Option.{option_map}
use Rattle.std.proofs.lemmas.Option.{none-some}
use Rattle.keys.specs.declared.key.Key.{Key}
use Rattle.keys.specs.Listed.{numbers}
use Rattle.tries.specs.Rows.{paths}
use Rattle.tries.specs.Forests.{in_use}
use Rattle.tries.proofs.Stores.{put_root}
use Rattle.tries.proofs.forest.Forest.change.Goals as goal

no_word : (b : Bool) (k : Key) → None ≡ cond b None (Some k) → b ≡ true
no_word true k e = refl
no_word false k e = absurd (none-some k e)

pub returns-in_default-clause-items : goal.returns-in_default-clause-items
returns-in_default-clause-items c =
    let e = sym (ap (option_map (λ w. w.key)) c.in_default.is) ∙ c.of.ensures in
    put_root (numbers c.args.key) (paths [] (in_use c.args.self.now)) (no_word _ _ e)
