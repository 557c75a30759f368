-- The text of a state: it does not depend on the order of what is held, a search that was granted enough has one, and it is the
-- report of what the check's calls give. Assumes nothing.
use Rattle.std.proofs.Common.{◌≡◌, ℕ, List, [], length, Some, None, Ok, Err, Option, Result, sym, refl, ap, ◌∙◌, arith}
use Rattle.blocks.specs.Layout.{payload}
use Rattle.checks.specs.View.{view}
use Rattle.checks.specs.declared.states.Progress.{Progress}
use Rattle.checks.specs.declared.states.Progress.TheVariants as progress
use Rattle.checks.specs.declared.states.Matched as matched
use Rattle.checks.specs.declared.states.Never as never-state
use Rattle.checks.specs.declared.states.Full as full-state
use Rattle.files.specs.declared.fault.TableFault.{TableFault}
use Rattle.files.specs.declared.heading.Heading.{Heading}
use Rattle.files.specs.Fronts.{fronts_of}
use Rattle.files.specs.Heading.{heading_of}
use Rattle.files.specs.Layout.{decoded, fronted}
use Rattle.files.specs.Questions.{read_fault}
use Rattle.files.proofs.Portions.{fronts_decoded}
use Rattle.kind_shapes.specs.Shapes.{pattern_shape}
use Rattle.kind_shapes.proofs.PatternLaws.{pattern_laws}
use Rattle.kind_shapes.proofs.PatternAccepting.{pattern_acceptance}
use Rattle.patterns.specs.Automaton.{Automaton}
use Rattle.patterns.specs.Formed.{Formed}
use Rattle.patterns.specs.declared.row.Row.{Row}
use Rattle.reports.specs.Reports.{matches, never, full, report_text}
use Rattle.search.specs.declared.Find.{Find}
use Rattle.search.specs.declared.Tally.{Tally}
use Rattle.search.specs.declared.Verdict.{Verdict}
use Rattle.search.specs.declared.Verdict.TheVariants.{Matches, Never, Full}
use Rattle.search.specs.Search.{State, tally, sequence, certificate}
use Rattle.search.specs.Like.{Like, holding}
use Rattle.search.specs.Promise.{Admits}
use Rattle.search.proofs.Orders.{certificate_like}
use Rattle.search.proofs.Promises.{keeps_promise}
use Rattle.verdicts.specs.Promises.{PatternPromise}
use Rattle.verdicts.proofs.Keeping.{pattern_searches}
use Rattle.judging.specs.Judgement.{ended, text_at, state_text, file_text, judgement_text}
use Rattle.judging.specs.Meaning.{Decided}

pub text_like : (A : Automaton) (t u : State ℕ) → Like t u → state_text A t ≡ state_text A u
text_like A t u l = ap (state_text A) l.same ∙ at u.verdict
  where
    same : certificate (pattern_shape A) (holding u t.held) ≡ certificate (pattern_shape A) u
    same = sym (ap (certificate (pattern_shape A)) l.same) ∙ certificate_like (pattern_shape A) t u l

    at : (w : Option Verdict) → text_at A (holding u t.held) w ≡ text_at A u w
    at (Some Matches) = refl
    at (Some Never) = ap (λ (xs : List ℕ). report_text u.queries (length u.finds) (never xs)) same
    at (Some Full) = refl
    at None = refl

pub decided : (A : Automaton) → Formed A → Decided A
unfolding ended
decided A F =
    let admits : Admits (pattern_shape A) 1024 = record { some_row = omega arith; few_rows = omega arith; firsts_fit = omega arith } in
    let p : PatternPromise A 1024 65535 (ended A) = pattern_searches A (pattern_acceptance A F) (keeps_promise (pattern_shape A) (pattern_laws A F)) 1024 65535 admits in
    record { verdict = p.ends (omega arith); promise = p }

-- the pattern in the tables that a file was read into is the file's
pub read_tables : (p old new : List ℕ) (old-rows new-rows : List Row) (h : Heading) → new ≡ fronted (decoded p).roots old
    → new-rows ≡ fronted (decoded p).rows old-rows → h ≡ heading_of p → fronts_of h new new-rows ≡ decoded p
read_tables p old new old-rows new-rows h e f g =
    ap (λ (t : List ℕ). fronts_of h t new-rows) e ∙ ap (fronts_of h (fronted (decoded p).roots old)) f
    ∙ fronts_decoded p old old-rows h g

-- the judgement on a file with no fault is the report on its pattern
pub judged_text : (file : List ℕ) → read_fault file 64 1024 ≡ None → (A : Automaton) → A ≡ decoded (payload file) → state_text A (ended A) ≡ judgement_text file
judged_text file e A q =
    ap (λ (B : Automaton). state_text B (ended B)) q ∙ sym (ap (λ (o : Option TableFault). file_text o (decoded (payload file))) e)

-- what a call gave and what its contract says that it gives are one
pub same_ok : {X E : Type 0} (r : Result X E) (a b : X) → r ≡ Ok a → r ≡ Ok b → a ≡ b
same_ok {X = X} r a b p q = ap (λ (y : Result X _). elim y as (λ _. X) [ Ok x ↦ x | Err _ ↦ a ]) (sym p ∙ q)

-- the report of a check p over the table t and a store that holds h, by what its calls give
module _ (A : Automaton) (p : Progress) (t : List (Find ℕ)) (h : List ℕ) (y : Tally) (told : y ≡ tally (view p t [])) where
  pub matched_text : (end : matched.Matched) → p ≡ progress.Matched end → (events : List ℕ) → events ≡ sequence (pattern_shape A) (view (progress.Matched end) t [])
      → report_text y.queries y.finds (matches events) ≡ state_text A (view p t h)
  matched_text end e events written = rw (told, e, written) refl

  pub never_text : (end : never-state.Never) → p ≡ progress.Never end → (sets : List ℕ) → sets ≡ certificate (pattern_shape A) (view (progress.Never end) t h)
      → report_text y.queries y.finds (never sets) ≡ state_text A (view p t h)
  never_text end e sets written = rw (told, e, written) refl

  pub full_text : (end : full-state.Full) → p ≡ progress.Full end → report_text y.queries y.finds (full y.cleared) ≡ state_text A (view p t h)
  full_text end e = rw (told, e) refl
