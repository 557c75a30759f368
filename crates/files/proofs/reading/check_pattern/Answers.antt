use Rattle.std.proofs.Common.{◌≡◌, ℕ, true, false, ◌&&◌, leb, List, Some, None, Option, sym, refl, ap, ◌∙◌}
use Rattle.std.proofs.lemmas.Result.{err_from_is_err_and}
use Rattle.blocks.specs.Layout.{payload}
use Rattle.patterns.specs.declared.fault.Fault.{Fault}
use Rattle.patterns.specs.Questions.{judged}
use Rattle.files.specs.declared.heading.Heading.{Heading}
use Rattle.files.specs.Heading.{heading_of, tables_of}
use Rattle.files.specs.Layout.{decoded}
use Rattle.files.proofs.Ordering.{read_as}
use Rattle.files.proofs.reading.check_pattern.Goals as goal

-- the tables that were asked are those of the payload
asked_of : (h : Heading) (p : List ℕ) (o : Option Fault) → h ≡ heading_of p → judged (tables_of h p) ≡ o → judged (decoded p) ≡ o
unfolding decoded
asked_of h p o e f = sym (ap (λ (g : Heading). judged (tables_of g p)) e) ∙ f

pub returns-in_err-heading : goal.returns-in_err-heading
returns-in_err-heading c =
    let p = err_from_is_err_and c.from_residual.result c.from_residual.ensures.1 in
    rw (p.1, p.2) (read_as c.args.file.now c.args.roots c.args.rows (Some _) _ _ c.in_err-heading.ensures refl refl)

pub returns-in_err-check_tables : goal.returns-in_err-check_tables
returns-in_err-check_tables c =
    let f = c.args.file.now in
    let h = c.in_ok-heading.ensures in
    let p = err_from_is_err_and c.from_residual-in_err-check_tables.result c.from_residual-in_err-check_tables.ensures.1 in
    rw (p.1, p.2)
    (read_as f c.args.roots c.args.rows None (Some _) _ h.0
    (asked_of c.in_ok-heading.heading (payload f) (Some _) h.1 c.in_err-check_tables.ensures) refl)

pub returns-then-not-has_room : goal.returns-then-not-has_room
returns-then-not-has_room c =
    let f = c.args.file.now in
    let h = c.in_ok-heading.ensures in
    read_as f c.args.roots c.args.rows None None false h.0
    (asked_of c.in_ok-heading.heading (payload f) None h.1 c.in_ok-check_tables.ensures)
    (sym (ap (λ (g : Heading). leb g.states c.args.roots && leb g.rows c.args.rows) h.1)
    ∙ sym c.has_room.ensures ∙ c.if-not-has_room.true)

pub returns : goal.returns
returns c =
    let f = c.args.file.now in
    let h = c.in_ok-heading.ensures in (
      read_as f c.args.roots c.args.rows None None true h.0
          (asked_of c.in_ok-heading.heading (payload f) None h.1 c.in_ok-check_tables.ensures)
          (sym (ap (λ (g : Heading). leb g.states c.args.roots && leb g.rows c.args.rows) h.1)
          ∙ sym c.has_room.ensures ∙ c.if-not-has_room.false),
      h.1,
    )
