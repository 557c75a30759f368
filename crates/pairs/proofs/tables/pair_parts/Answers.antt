use Rattle.std.proofs.Common.{length, ap, ◌∙◌}
use Rattle.patterns.specs.Automaton.{Automaton, read}
use Rattle.files.specs.Layout.{fronted}
use Rattle.duals.specs.Without.{without}
use Rattle.pairs.specs.Paired.{pair_heading_of}
use Rattle.pairs.specs.Questions.{pair_fault}
use Rattle.pairs.proofs.Promise.{paired_ok, sized_from}
use Rattle.pairs.proofs.tables.pair_parts.Goals as goal

pub returns : goal.returns
returns c =
    let B = read c.args.later in
    let A = read c.args.earlier in
    let n = length c.args.roots.now in
    let N = length c.args.rows.now in
    let p = c.in_ok-pair.ensures in
    let A' = read c.in_ok-pair.pair.earlier in
    paired_ok B A (pair_fault B A n N) c.heading.result c.args.roots.now c.fill_roots.new.roots
    c.args.rows.now c.fill_rows.new.rows c.requires.later c.requires.earlier p.0 (sized_from B A n N p.0).fits
    (c.heading.ensures ∙ ap (λ (C : Automaton). pair_heading_of C A') p.1 ∙ ap (pair_heading_of B) p.2)
    (c.fill_roots.ensures ∙ ap (λ (C : Automaton). fronted (without C A').roots c.args.roots.now) p.1
    ∙ ap (λ (C : Automaton). fronted (without B C).roots c.args.roots.now) p.2)
    (c.fill_rows.ensures ∙ ap (λ (C : Automaton). fronted (without C A').rows c.args.rows.now) p.1
    ∙ ap (λ (C : Automaton). fronted (without B C).rows c.args.rows.now) p.2)
