use Rattle.std.proofs.Common.{◌≡◌, ℕ, ◌+◌, ◌-◌, List, [], ◌∷◌, ◌++◌, length, take, drop, set, is_some, refl, ap, ◌∙◌, arith}
use Rattle.std.proofs.lemmas.List.{append_assoc, length-append, take_at, take_rest}
use Rattle.patterns.specs.declared.row.Row.{Row}
use Rattle.patterns.specs.Automaton.{read, states}
use Rattle.patterns.proofs.Forming.{formed}
use Rattle.files.specs.Layout.{fronted}
use Rattle.duals.specs.Dual.{dual_rows}
use Rattle.duals.specs.Without.{without, last_row_of, row_count_of}
use Rattle.duals.proofs.Marked.{length_dual_rows}
use Rattle.pairs.proofs.Fronts.{front_push, lent_part, part_fronted}
use Rattle.pairs.proofs.tables.Pair.fill_rows.Goals as goal

pub dualise-requires-clause-formed : goal.dualise-requires-clause-formed
dualise-requires-clause-formed c = formed (read c.args.self.earlier) (ap is_some c.args.self.earlier_judged)

pub returns : goal.returns
unfolding without
returns c =
    let B = read c.args.self.later in
    let A = read c.args.self.earlier in
    let old = c.args.rows.now in
    let b = length B.rows in
    let k = row_count_of B A in
    let xs = B.rows in
    let ys = dual_rows b (states B) [] A.rows in
    let t = c.copy_front.new.table in
    let part = c.dualise.new.rows in
    let room = c.requires in
    let e : t ≡ fronted xs old = c.copy_front.ensures in
    let front : take b t ≡ xs = ap (take b) e ∙ take_at xs (drop b old) b refl in
    let filled : part ≡ fronted ys (drop b (fronted xs old)) =
    c.dualise.ensures
    ∙ ap (λ (j : ℕ). fronted (dual_rows j c.shift.result.states [] A.rows) (take (length t - b) (drop b t))) c.shift.ensures.base
    ∙ ap (λ (m : ℕ). fronted (dual_rows b m [] A.rows) (take (length t - b) (drop b t))) c.shift.ensures.states
    ∙ ap (fronted ys) (take_rest t b ∙ ap (drop b) e) in
    let n : length (xs ++ ys) ≡ k = length-append xs ys ∙ ap (λ (j : ℕ). b + j) (length_dual_rows b (states B) [] A.rows) in
    ap (λ (t' : List Row). set t' k c.last_row.result)
    (lent_part b t part ∙ ap (λ (zs : List Row). zs ++ part) front ∙ part_fronted xs ys old part b refl (omega arith) filled)
    ∙ ap (set (fronted (xs ++ ys) old) k) c.last_row.ensures
    ∙ front_push (xs ++ ys) old (last_row_of B A) k n (omega arith)
    ∙ ap (λ (zs : List Row). fronted zs old) (append_assoc xs ys (last_row_of B A ∷ []))
