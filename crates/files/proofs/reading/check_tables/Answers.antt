use Rattle.std.proofs.Common.{ℕ, ◌+◌, ◌*◌, true, false, List, [], length, Some, None, sym, refl, ap, ◌∙◌, arith}
use Rattle.std.proofs.lemmas.List.{length-drop}
use Rattle.std.proofs.lemmas.Result.{err_from_is_err_and}
use Rattle.std.proofs.lemmas.Bool.Decides.{nat_tests}
use Rattle.blocks.specs.Layout.{payload}
use Rattle.patterns.specs.Questions.{roots_fault, rows_fault}
use Rattle.files.specs.Layout.{each, root_of, row_of}
use Rattle.files.proofs.Asking.{judged_as}
use Rattle.files.proofs.Portions.{rows_next}
use Rattle.files.proofs.reading.check_tables.Goals as goal

pub returns-then-not-is_sized : goal.returns-then-not-is_sized
returns-then-not-is_sized c =
    judged_as c.args.heading (payload c.args.file.now) false _ _ _ (sym c.if-not-is_sized.ensures) refl refl refl

pub returns-then-not-is_ended : goal.returns-then-not-is_ended
returns-then-not-is_ended c =
    judged_as c.args.heading (payload c.args.file.now) true false _ _
    (sym c.if-not-is_sized.ensures) (sym c.if-not-is_ended.ensures) refl refl

pub check_roots-requires : goal.check_roots-requires
check_roots-requires c =
    let l = length-drop 16 (payload c.args.file.now) in
    let e = ap length c.tables_reader-reader.ensures in
    let g = c.requires in
    omega arith

pub returns-in_err-check_roots : goal.returns-in_err-check_roots
returns-in_err-check_roots c =
    let h = c.args.heading in
    let p = err_from_is_err_and c.from_residual.result c.from_residual.ensures.1 in
    rw (p.1, p.2)
    (judged_as h (payload c.args.file.now) true true (Some _) _
    (sym c.if-not-is_sized.ensures) (sym c.if-not-is_ended.ensures)
    (sym (ap (λ (q : List ℕ). roots_fault h.rows 0 (each 2 root_of h.states q)) c.tables_reader-reader.ensures)
    ∙ c.in_err-check_roots.ensures)
    refl)

pub check_rows-requires : goal.check_rows-requires
check_rows-requires c =
    let n = c.args.heading.states in
    let p = payload c.args.file.now in
    let e = rows_next n p _ _ c.tables_reader-reader.ensures c.in_ok-check_roots.ensures.1 in
    let l = length-drop (16 + 2 * n) p in
    let m = ap length e in
    let g = c.requires in
    let s = c.if-not-is_sized.ensures in
    record { few = grind (arith, nat_tests); long = omega arith }

pub returns-in_err-check_rows : goal.returns-in_err-check_rows
returns-in_err-check_rows c =
    let h = c.args.heading in
    let f = payload c.args.file.now in
    let p = err_from_is_err_and c.from_residual-in_err-check_rows.result c.from_residual-in_err-check_rows.ensures.1 in
    let e = rows_next h.states f _ _ c.tables_reader-reader.ensures c.in_ok-check_roots.ensures.1 in
    rw (p.1, p.2)
    (judged_as h f true true None (Some _)
    (sym c.if-not-is_sized.ensures) (sym c.if-not-is_ended.ensures)
    (sym (ap (λ (q : List ℕ). roots_fault h.rows 0 (each 2 root_of h.states q)) c.tables_reader-reader.ensures)
    ∙ c.in_ok-check_roots.ensures.0)
    (sym (ap (λ (q : List ℕ). rows_fault h.states h.signals [] (each 6 row_of h.rows q)) e)
    ∙ c.in_err-check_rows.ensures))

pub returns : goal.returns
returns c =
    let h = c.args.heading in
    let f = payload c.args.file.now in
    let e = rows_next h.states f _ _ c.tables_reader-reader.ensures c.in_ok-check_roots.ensures.1 in
    judged_as h f true true None None
    (sym c.if-not-is_sized.ensures) (sym c.if-not-is_ended.ensures)
    (sym (ap (λ (q : List ℕ). roots_fault h.rows 0 (each 2 root_of h.states q)) c.tables_reader-reader.ensures)
    ∙ c.in_ok-check_roots.ensures.0)
    (sym (ap (λ (q : List ℕ). rows_fault h.states h.signals [] (each 6 row_of h.rows q)) e)
    ∙ c.in_ok-check_rows.ensures)
