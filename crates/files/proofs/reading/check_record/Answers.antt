use Rattle.std.proofs.Common.{◌≡◌, Bool, true, false, cond, length, Some, None, refl, ap, arith}
use Rattle.std.proofs.lemmas.Result.{err_from_is_err_and}
use Rattle.std.proofs.lemmas.Bool.{eq-eqb, ne_eqb}
use Rattle.blocks.specs.Layout.{payload}
use Rattle.patterns.proofs.Forming.{none_from}
use Rattle.files.specs.declared.heading.Heading.{Heading}
use Rattle.files.specs.Heading.{heading_of, length_of}
use Rattle.files.specs.Questions.{headed}
use Rattle.files.proofs.Ordering.{file_as}
use Rattle.files.proofs.reading.check_record.Goals as goal

-- which way the heading went
no_heading : (b : Bool) (h : Heading) → None ≡ cond b (Some h) None → b ≡ false
no_heading true h e = cc
no_heading false h e = refl

some_heading : (b : Bool) (h g : Heading) → Some g ≡ cond b (Some h) None → (b ≡ true) × (g ≡ h)
some_heading true h g e = (refl, cc)
some_heading false h g e = (cc, cc)

pub returns-in_err-check_file : goal.returns-in_err-check_file
returns-in_err-check_file c =
    let p = err_from_is_err_and c.from_residual.result c.from_residual.ensures.1 in
    rw (p.1, p.2) (file_as c.args.file.now (Some _) _ _ c.in_err-check_file.ensures.cases refl refl)

pub returns-in_default : goal.returns-in_default
returns-in_default c =
    let f = c.args.file.now in
    let p = payload f in
    file_as f None false _ (none_from _ c.in_ok-check_file.ensures.cases)
    (no_heading (headed p) (heading_of p) c.in_default.ensures) refl

pub returns-then-payload_len-heading : goal.returns-then-payload_len-heading
returns-then-payload_len-heading c =
    let f = c.args.file.now in
    let p = payload f in
    let s = some_heading (headed p) (heading_of p) c.in-Some.heading c.in-Some.ensures in
    let n = c.payload_len.ensures.len 6656 c.in_ok-check_file.ensures.cases in
    let l = ap length_of s.1 in
    let t = c.if-payload_len-heading.true in
    file_as f None true false (none_from _ c.in_ok-check_file.ensures.cases) s.0
    (ne_eqb (length p) (length_of (heading_of p)) (λ e. t (omega arith)))

pub returns : goal.returns
returns c =
    let f = c.args.file.now in
    let p = payload f in
    let s = some_heading (headed p) (heading_of p) c.in-Some.heading c.in-Some.ensures in
    let n = c.payload_len.ensures.len 6656 c.in_ok-check_file.ensures.cases in
    let l = ap length_of s.1 in
    let t = c.if-payload_len-heading.false in (
      file_as f None true true (none_from _ c.in_ok-check_file.ensures.cases) s.0
          (eq-eqb (length p) (length_of (heading_of p)) (omega arith)),
      s.1,
      omega arith,
    )
