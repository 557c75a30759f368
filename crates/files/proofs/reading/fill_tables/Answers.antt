use Rattle.std.proofs.Common.{ℕ, ◌+◌, ◌*◌, List, ◌++◌, length, drop, refl, ap, ◌∙◌, arith}
use Rattle.std.proofs.lemmas.List.{length-drop, length-take-le}
use Rattle.blocks.specs.Layout.{payload}
use Rattle.blocks.specs.Reading.{rest}
use Rattle.patterns.specs.Questions.{known}
use Rattle.files.specs.Layout.{each, root_of, row_of}
use Rattle.files.proofs.Portions.{rows_next, known_small}
use Rattle.files.proofs.reading.fill_tables.Goals as goal

pub fill-requires : goal.fill-requires
fill-requires c =
    let n = c.args.heading.states in
    let l = length-drop 16 (payload c.args.file.now) in
    let e = ap length c.tables_reader-reader.ensures in
    let g = c.requires.long in
    let t = length-take-le n c.args.roots.now c.requires.room.0 in
    record { long = omega arith; stand = λ i h. refl }

pub fill-requires-2 : goal.fill-requires-2
fill-requires-2 c =
    let n = c.args.heading.states in
    let p = payload c.args.file.now in
    let t = length-take-le n c.args.roots.now c.requires.room.0 in
    let u = length-take-le c.args.heading.rows c.args.rows.now c.requires.room.1 in
    let e = rows_next n p _ _ c.tables_reader-reader.ensures (c.fill.ensures.after ∙ ap (λ (k : ℕ). drop (2 * k) (rest c.tables_reader-reader.result)) t) in
    let l = length-drop (16 + 2 * n) p in
    let m = ap length e in
    let g = c.requires.long in
    record {
      long = omega arith;
      stand = λ i h. known_small (row_of (drop (6 * i) (rest c.fill.new.reader)))
          (ap (λ (q : List ℕ). known (row_of (drop (6 * i) q))) e ∙ c.requires.known i (omega arith));
    }

pub returns : goal.returns
returns c =
    let h = c.args.heading in
    let p = payload c.args.file.now in
    let t = length-take-le h.states c.args.roots.now c.requires.room.0 in
    let u = length-take-le h.rows c.args.rows.now c.requires.room.1 in
    let e = rows_next h.states p _ _ c.tables_reader-reader.ensures (c.fill.ensures.after ∙ ap (λ (k : ℕ). drop (2 * k) (rest c.tables_reader-reader.result)) t) in
    record {
      roots = ap (λ (xs : List ℕ). xs ++ drop h.states c.args.roots.now)
          (c.fill.ensures.items ∙ ap (λ (k : ℕ). each 2 root_of k (rest c.tables_reader-reader.result)) t ∙ ap (each 2 root_of h.states) c.tables_reader-reader.ensures);
      rows = ap (λ xs. xs ++ drop h.rows c.args.rows.now)
          (c.fill-2.ensures.items ∙ ap (λ (k : ℕ). each 6 row_of k (rest c.fill.new.reader)) u ∙ ap (each 6 row_of h.rows) e);
    }
