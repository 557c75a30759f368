use Rattle.std.proofs.Common.{drop, ◌∙◌}
use Rattle.std.proofs.lemmas.List.{length-take-le, take_at}
use Rattle.tries.proofs.exchanging.release_used.Goals as goal

pub returns-clause-rows : goal.returns-clause-rows
returns-clause-rows c =
    let rows = c.args.rows.now in
    let used = c.args.used in
    let k = length-take-le used rows c.requires.within in
    take_at c.release.new.rows (drop used rows) used (c.release.auto.rows ∙ k) ∙ c.release.ensures.rows
