use Rattle.std.proofs.Common.{rules, ◌≡◌, ℕ, ◌+◌, List, ◌++◌, length, sym, refl, ap, ◌∙◌, arith, length-append}
use Rattle.std.proofs.lemmas.List.{append_assoc}
use Rattle.std.specs.List.{flat_map}
use Rattle.blocks.specs.Bytes.{bytes_of}
use Rattle.patterns.specs.Automaton.{Automaton, read}
use Rattle.files.specs.Laying.{laid}
use Rattle.files.specs.Layout.{encoded, heading_bytes, row_bytes_of}
use Rattle.files.proofs.Fitting.{lent_formed}
use Rattle.files.proofs.Fields.{length_joined}
use Rattle.files.proofs.Laying.{laid_behind}
use Rattle.files.proofs.RoundTrip.{length_encoded}
use Rattle.files.proofs.writing.lay_out.Goals as goal

pub find_rows-rows_place-requires : goal.find_rows-rows_place-requires
find_rows-rows_place-requires c = (lent_formed c.args.pattern.now c.parts-parts.result c.parts-parts.ensures).few_states

pub lay-requires : goal.lay-requires
lay-requires c =
    let n = (lent_formed c.args.pattern.now c.parts-parts.result c.parts-parts.ensures).few_states in
    search rules

pub lay-requires-2 : goal.lay-requires-2
lay-requires-2 c =
    let F = lent_formed c.args.pattern.now c.parts-parts.result c.parts-parts.ensures in
    let n = F.few_states in
    let N = F.few_rows in
    search rules

pub overflow_add-result : goal.overflow_add-result
overflow_add-result c =
    let F = lent_formed c.args.pattern.now c.parts-parts.result c.parts-parts.ensures in
    let n = F.few_states in
    let N = F.few_rows in
    search rules

pub returns : goal.returns
unfolding encoded
returns c =
    let parts = c.parts-parts.result in
    let is = c.parts-parts.ensures in
    let A = read parts in
    let old = c.args.payload.now in
    let room = c.requires in
    let place = c.find_rows-rows_place.result in
    let heading = heading_bytes A in
    let roots = flat_map (bytes_of 2) A.roots in
    let rows = flat_map row_bytes_of A.rows in
    let l = length_encoded A in
    let j = length_joined 2 (bytes_of 2) (λ x. refl) A.roots in
    let a = length-append heading roots in
    let f = c.find_rows-rows_place.ensures in
    let to : place ≡ 0 + length (heading ++ roots) = omega arith in
    let laid_heading = c.lay_heading.ensures ∙ ap (λ (B : Automaton). laid 0 (heading_bytes B) old) (sym is) in
    record {
      value = omega arith ∙ ap (λ (B : Automaton). length (encoded B)) is;
      after = c.lay-2.ensures
          ∙ ap (laid place rows)
          (c.lay.ensures ∙ ap (laid 16 roots) laid_heading ∙ laid_behind old heading roots 0 16 (omega arith) refl)
          ∙ laid_behind old (heading ++ roots) rows 0 place (omega arith) to
          ∙ ap (λ (xs : List ℕ). laid 0 xs old) (append_assoc heading roots rows)
          ∙ ap (λ (B : Automaton). laid 0 (encoded B) old) is;
    }
