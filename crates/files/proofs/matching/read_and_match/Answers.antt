use Rattle.std.proofs.Common.{◌≡◌, ℕ, List, length, Some, None, Decides, Option, ap, ◌∙◌, subst, arith}
use Rattle.blocks.specs.Layout.{payload}
use Rattle.patterns.specs.declared.fault.Fault.{Fault}
use Rattle.patterns.specs.Accepted.{Accepted}
use Rattle.patterns.specs.Automaton.{Automaton, read}
use Rattle.patterns.specs.Questions.{judged}
use Rattle.patterns.specs.declared.row.Row.{Row}
use Rattle.files.specs.declared.heading.Heading.{Heading}
use Rattle.files.specs.Fronts.{fronts_of}
use Rattle.files.specs.Heading.{heading_of}
use Rattle.files.specs.Layout.{decoded, fronted}
use Rattle.files.proofs.Ordering.{sound}
use Rattle.files.proofs.Portions.{fronts_decoded}
use Rattle.files.proofs.matching.read_and_match.Goals as goal

-- the pattern in the tables that were read into is the file's
read_tables : (p old new : List ℕ) (old-rows new-rows : List Row) (h : Heading) → new ≡ fronted (decoded p).roots old
    → new-rows ≡ fronted (decoded p).rows old-rows → h ≡ heading_of p → fronts_of h new new-rows ≡ decoded p
read_tables p old new old-rows new-rows h e f g =
    ap (λ (t : List ℕ). fronts_of h t new-rows) e ∙ ap (fronts_of h (fronted (decoded p).roots old)) f
    ∙ fronts_decoded p old old-rows h g

not_refused : (o : Option Fault) (f : Fault) → o ≡ None → o ≡ Some f → ⊥
not_refused o f e g = let z : ◌≡◌ {A = ℕ} 0 1 = cc in omega arith

pub returns-in_err-accepts : goal.returns-in_err-accepts
returns-in_err-accepts c =
    let p = payload c.args.file.now in
    let h = c.in_ok-heading.ensures in
    let e : read c.parts.result ≡ decoded p =
    c.parts.ensures
    ∙ read_tables p c.args.roots.now c.read_pattern.new.roots c.args.rows.now c.read_pattern.new.rows
    c.in_ok-heading.heading h.roots h.rows h.cases.1 in
    let s = sound c.args.file.now (length c.args.roots.now) (length c.args.rows.now) h.cases.0 in
    absurd (not_refused (judged (read c.parts.result)) c.in_err-accepts.field-0.0
    (ap judged e ∙ s.is_pattern) c.in_err-accepts.ensures)

pub returns : goal.returns
returns c =
    let p = payload c.args.file.now in
    let h = c.in_ok-heading.ensures in
    let e : read c.parts.result ≡ decoded p =
    c.parts.ensures
    ∙ read_tables p c.args.roots.now c.read_pattern.new.roots c.args.rows.now c.read_pattern.new.rows
    c.in_ok-heading.heading h.roots h.rows h.cases.1 in
    let P : Automaton → Type 0 = λ A. Decides c.in_ok-accepts.field-0 (Accepted A c.args.events.now) in
    record { cases = (h.cases.0, subst P e c.in_ok-accepts.ensures.1); roots = h.roots; rows = h.rows }
