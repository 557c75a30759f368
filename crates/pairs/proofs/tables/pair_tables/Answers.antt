use Rattle.std.proofs.Common.{length, sym, subst}
use Rattle.patterns.specs.Automaton.{Automaton, read}
use Rattle.patterns.specs.Formed.{Formed}
use Rattle.patterns.specs.View.{automaton}
use Rattle.patterns.proofs.Forming.{formed}
use Rattle.pairs.specs.Paired.{Paired}
use Rattle.pairs.specs.Questions.{pair_fault}
use Rattle.pairs.proofs.tables.pair_tables.Goals as goal

pub pair_parts-requires : goal.pair_parts-requires
pair_parts-requires c =
    let P : Automaton → Type 0 = λ A. Formed A in
    let B = automaton c.args.later.now in
    let A = automaton c.args.earlier.now in
    record {
      later = subst P (sym c.parts.ensures) (formed B c.args.later.now.formed);
      earlier = subst P (sym c.parts-2.ensures) (formed A c.args.earlier.now.formed);
    }

pub returns : goal.returns
returns c =
    let n = length c.args.roots.now in
    let N = length c.args.rows.now in
    let P : Automaton → Automaton → Type 0 = λ B A. Paired B A (pair_fault B A n N) c.pair_parts.result
    c.args.roots.now c.pair_parts.new.roots c.args.rows.now c.pair_parts.new.rows in
    let Q : Automaton → Type 0 = λ B. P B (read c.parts-2.result) in
    let R : Automaton → Type 0 = λ A. P (automaton c.args.later.now) A in
    subst R c.parts-2.ensures (subst Q c.parts.ensures c.pair_parts.ensures)
