use Rattle.std.proofs.Common.{◌≡◌, ℕ, ◌+◌, ◌-◌, ◌*◌, List, length, drop, sym, ap, ◌∙◌, arith}
use Rattle.std.proofs.lemmas.List.{length-drop, drop-drop}
use Rattle.blocks.specs.Reading.{rest}
use Rattle.patterns.specs.Questions.{roots_fault}
use Rattle.files.specs.Layout.{each, root_of}
use Rattle.files.proofs.Asking.{roots_more, roots_stop}
use Rattle.files.proofs.reading.check_roots.Goals as goal

pub next_word-root-requires : goal.next_word-root-requires
next_word-root-requires c =
    let p = rest c.args.reader.now in
    let l = length-drop (2 * c.loop-q.q) p in
    let e = ap length c.loop-q.invariant.0 in
    let g = c.requires in
    let h = c.loop-q-test.true in
    omega arith

pub returns-then-root-count : goal.returns-then-root-count
returns-then-root-count c =
    sym c.loop-q.invariant.1
    ∙ roots_stop c.args.count c.args.states c.loop-q.q (rest c.loop-q.reader) c.loop-q-test.true
    (let e = c.next_word-root.ensures.value in omega arith)

pub loop-q-preserved : goal.loop-q-preserved
loop-q-preserved c =
    let q = c.loop-q.q in
    let p = rest c.loop-q.reader in
    let z : 2 * q + 2 ≡ 2 * (q + 1) = omega arith in
    let a = c.next_word-root.ensures.after in (
      a ∙ ap (drop 2) c.loop-q.invariant.0 ∙ drop-drop 2 (2 * q) (rest c.args.reader.now)
          ∙ ap (λ (n : ℕ). drop n (rest c.args.reader.now)) z,
      ap (λ (r : List ℕ). roots_fault c.args.count (q + 1) (each 2 root_of (c.args.states - (q + 1)) r)) a
          ∙ roots_more c.args.count c.args.states q p c.loop-q-test.true (let e = c.next_word-root.ensures.value in omega arith)
          ∙ c.loop-q.invariant.1,
    )
