use Rattle.std.proofs.Common.{not, ◌&&◌, sym, ap, ◌∙◌, arith}
use Rattle.std.proofs.lemmas.Bool.{lt-ltb, le-ltb}
use Rattle.sets.specs.Sets.{has}
use Rattle.keys.proofs.Numbers.{among_missing}
use Rattle.keys.proofs.key.is_missing.Goals as goal

pub returns-then-number-lt64 : goal.returns-then-number-lt64
returns-then-number-lt64 c = c.lacks.ensures ∙ sym (among_missing c.args.set 64 c.args.number ∙ ap (λ b. b && not (has c.args.set c.args.number)) (lt-ltb c.args.number 64 (omega arith)))

pub returns-else-number-lt64 : goal.returns-else-number-lt64
returns-else-number-lt64 c =
    let above = le-ltb c.args.number 64 (omega arith) in
    above ∙ sym (among_missing c.args.set 64 c.args.number ∙ ap (λ b. b && not (has c.args.set c.args.number)) above)
