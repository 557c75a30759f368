use Rattle.std.proofs.Common.{◌≡◌, ℕ, List, [], IfOk, string_bytes, ◌∙◌, subst}
use Rattle.std.proofs.lemmas.Bool.{cond-true}
use Rattle.kinds.proofs.Values.{none_some}
use Rattle.kind_shapes.specs.Shapes.{pattern_shape}
use Rattle.pattern_kinds.specs.PatternKind.{single_pattern}
use Rattle.stores.specs.Rows.{contents, room}
use Rattle.checks.specs.View.{counts_of, view}
use Rattle.checks.proofs.Refusing.{ready_unaltered}
use Rattle.reports.specs.Reports.{report_text}
use Rattle.reports.specs.Shown.{outcome_of}
use Rattle.search.specs.Search.{tally}
use Rattle.judging.specs.Judgement.{state_text}
use Rattle.judging.proofs.Fitting.{front_written, sequence_fits, certificate_fits}
use Rattle.judging.proofs.Texts.{same_ok, matched_text, never_text, full_text}
use Rattle.judging.proofs.ends.end_text.Goals as goal
use Rattle.judging.proofs.ends.end_text.Goals.{in-Matched+in-Ok-sequence, in-Never+in-Ok-certificate, in-Full}

pub unreachable-requires : goal.unreachable-requires
unreachable-requires c =
    let fine = ready_unaltered (pattern_shape (single_pattern c.args.pattern.now)) (counts_of c.args.check) c.args.table.now (contents c.args.store.now) (room c.args.store.now) 0 c.requires.ready in
    c.in_default.not-Ok _ (c.tally.ensures ∙ cond-true _ _ _ fine)

pub unreachable-requires-in-Err : goal.unreachable-requires-in-Err
unreachable-requires-in-Err c =
    let s = pattern_shape (single_pattern c.args.pattern.now) in
    let e = c.in-Matched.is in
    none_some (sequence_fits s c.in-Matched.end.counts c.args.table.now (contents c.args.store.now) (room c.args.store.now) (rw e at c.requires.ready) 1024 (rw e at c.requires.short)) c.in-Err.ensures.refused

pub unreachable-requires-in-Err-certificate : goal.unreachable-requires-in-Err-certificate
unreachable-requires-in-Err-certificate c =
    let s = pattern_shape (single_pattern c.args.pattern.now) in
    let e = c.in-Never.is in
    none_some (certificate_fits s c.in-Never.end.counts c.args.table.now (contents c.args.store.now) (room c.args.store.now) (rw e at c.requires.ready) 1024 (rw e at c.requires.short)) c.in-Err-certificate.ensures.refused

pub returns : goal.returns
returns c =
    let A = single_pattern c.args.pattern.now in
    let p = c.args.check in
    let t = c.args.table.now in
    let h = contents c.args.store.now in
    let y = c.in-Ok.tally in
    let fine = ready_unaltered (pattern_shape A) (counts_of p) t h (room c.args.store.now) 0 c.requires.ready in
    let told : y ≡ tally (view p t []) = same_ok c.tally.result y (tally (view p t [])) c.in-Ok.is (c.tally.ensures ∙ cond-true _ _ _ fine) in
    let same : report_text y.queries y.finds (outcome_of c.match-check.outcome) ≡ state_text A (view p t h) = elim c.match-check.branch [
      | in-Matched+in-Ok-sequence w ↦
          let es = w.sequence.new.list in
          let n = w.in-Ok-sequence.count in
          rw w.outcome-is (matched_text A p t h y told w.in-Matched.end w.in-Matched.is _ (front_written _ _ _ es n w.in-Ok-sequence.ensures))
      | in-Never+in-Ok-certificate w ↦
          let ss = w.certificate.new.list in
          let n = w.in-Ok-certificate.count in
          rw w.outcome-is (never_text A p t h y told w.in-Never.end w.in-Never.is _ (front_written _ _ _ ss n w.in-Ok-certificate.ensures))
      | in-Full w ↦ rw w.outcome-is (full_text A p t h y told w.in-Full.field-0 w.in-Full.is)
    ] in
    subst (λ (text : List ℕ). IfOk c.outcome_text.result (λ s. string_bytes s ≡ text)) same c.outcome_text.ensures
