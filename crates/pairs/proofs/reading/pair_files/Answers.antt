use Rattle.std.proofs.Common.{length}
use Rattle.std.proofs.lemmas.Result.{err_from_is_err_and}
use Rattle.patterns.specs.Automaton.{read}
use Rattle.pairs.specs.declared.fault.FilesFault.{FilesFault}
use Rattle.pairs.proofs.Rereading.{reread, read_formed, files_ok, files_err}
use Rattle.pairs.proofs.reading.pair_files.Goals as goal

pub pair_parts-requires : goal.pair_parts-requires
pair_parts-requires c =
    let a = c.args.earlier.now in
    let b = c.args.later.now in
    let A = read c.parts-earlier_parts.result in
    let B = read c.parts-later_parts.result in
    let in_a = c.in_ok-earlier_heading in
    let in_b = c.in_ok-later_heading in
    let ha = reread FilesFault A c.read_pattern.result in_a.earlier_heading a _ c.read_pattern.new.roots _ c.read_pattern.new.rows _
    c.parts-earlier_parts.ensures c.read_pattern.ensures.cases c.read_pattern.ensures.roots c.read_pattern.ensures.rows
    in_a.ensures.cases in_a.ensures.variant in
    let hb = reread FilesFault B c.read_pattern-2.result in_b.later_heading b _ c.read_pattern-2.new.roots _ c.read_pattern-2.new.rows _
    c.parts-later_parts.ensures c.read_pattern-2.ensures.cases c.read_pattern-2.ensures.roots c.read_pattern-2.ensures.rows
    in_b.ensures.cases in_b.ensures.variant in
    record { later = read_formed B b hb.0 hb.1; earlier = read_formed A a ha.0 ha.1 }

pub returns-in_err-pair_parts : goal.returns-in_err-pair_parts
returns-in_err-pair_parts c =
    let a = c.args.earlier.now in
    let b = c.args.later.now in
    let A = read c.parts-earlier_parts.result in
    let B = read c.parts-later_parts.result in
    let in_a = c.in_ok-earlier_heading in
    let in_b = c.in_ok-later_heading in
    let ha = reread FilesFault A c.read_pattern.result in_a.earlier_heading a _ c.read_pattern.new.roots _ c.read_pattern.new.rows _
    c.parts-earlier_parts.ensures c.read_pattern.ensures.cases c.read_pattern.ensures.roots c.read_pattern.ensures.rows
    in_a.ensures.cases in_a.ensures.variant in
    let hb = reread FilesFault B c.read_pattern-2.result in_b.later_heading b _ c.read_pattern-2.new.roots _ c.read_pattern-2.new.rows _
    c.parts-later_parts.ensures c.read_pattern-2.ensures.cases c.read_pattern-2.ensures.roots c.read_pattern-2.ensures.rows
    in_b.ensures.cases in_b.ensures.variant in
    let p = err_from_is_err_and c.from_residual-in_err-pair_parts.result c.from_residual-in_err-pair_parts.ensures.1 in
    rw (p.1, p.2)
    (files_err a b (length c.args.roots.now) (length c.args.rows.now) ha.0 hb.0 B A hb.1 ha.1
    c.args.roots.now c.pair_parts.new.roots c.args.rows.now c.pair_parts.new.rows
    c.in_err-pair_parts.field-0.0 c.in_err-pair_parts.ensures)

pub returns : goal.returns
returns c =
    let a = c.args.earlier.now in
    let b = c.args.later.now in
    let A = read c.parts-earlier_parts.result in
    let B = read c.parts-later_parts.result in
    let in_a = c.in_ok-earlier_heading in
    let in_b = c.in_ok-later_heading in
    let ha = reread FilesFault A c.read_pattern.result in_a.earlier_heading a _ c.read_pattern.new.roots _ c.read_pattern.new.rows _
    c.parts-earlier_parts.ensures c.read_pattern.ensures.cases c.read_pattern.ensures.roots c.read_pattern.ensures.rows
    in_a.ensures.cases in_a.ensures.variant in
    let hb = reread FilesFault B c.read_pattern-2.result in_b.later_heading b _ c.read_pattern-2.new.roots _ c.read_pattern-2.new.rows _
    c.parts-later_parts.ensures c.read_pattern-2.ensures.cases c.read_pattern-2.ensures.roots c.read_pattern-2.ensures.rows
    in_b.ensures.cases in_b.ensures.variant in
    files_ok a b (length c.args.roots.now) (length c.args.rows.now) ha.0 hb.0 B A hb.1 ha.1
    c.args.roots.now c.pair_parts.new.roots c.args.rows.now c.pair_parts.new.rows
    c.in_ok-pair_parts.field-0 c.in_ok-pair_parts.ensures
