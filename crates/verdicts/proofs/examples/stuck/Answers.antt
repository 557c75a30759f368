use Rattle.std.proofs.Common.{refl, arith}
use Rattle.sets.specs.Sets.{set_of}
use Rattle.patterns.specs.Automaton.{Automaton}
use Rattle.patterns.specs.Formed.{Formed}
use Rattle.patterns.specs.Latch.{latch}
use Rattle.patterns.specs.Questions.{judged}
use Rattle.patterns.proofs.Forming.{formed}
use Rattle.inspector.specs.Inspected.{least}
use Rattle.kind_shapes.specs.Shapes.{pattern_shape}
use Rattle.kind_shapes.proofs.PatternAccepting.{pattern_acceptance}
use Rattle.kind_shapes.proofs.PatternLaws.{pattern_laws}
use Rattle.search.specs.Promise.{Admits}
use Rattle.search.specs.Search.{opened, query, queried}
use Rattle.search.proofs.Promises.{keeps_promise}
use Rattle.verdicts.specs.Promises.{PatternSearches}
use Rattle.verdicts.specs.Worked.{stuck, Worked}
use Rattle.verdicts.proofs.Keeping.{pattern_searches}
use Rattle.verdicts.proofs.examples.stuck.Goals as goal

searches : (A : Automaton) → Formed A → PatternSearches A
searches A F = pattern_searches A (pattern_acceptance A F) (keeps_promise (pattern_shape A) (pattern_laws A F))

worked : Worked
unfolding opened query queried least set_of judged
worked =
    let three : Admits (pattern_shape latch) 3 = record { some_row = omega arith; few_rows = omega arith; firsts_fit = omega arith } in
    let one : Admits (pattern_shape stuck) 1 = record { some_row = omega arith; few_rows = omega arith; firsts_fit = omega arith } in
    record {
      latch_3_before = refl;
      latch_3_verdict = refl;
      latch_3_queries = refl;
      latch_3_sets = refl;
      latch_3_sequence = refl;
      latch_2_before = refl;
      latch_2_verdict = refl;
      latch_2_queries = refl;
      latch_2_cleared = refl;
      stuck_meets = refl;
      stuck_before = λ r. refl;
      stuck_verdict = λ r. refl;
      stuck_queries = λ r. refl;
      stuck_certificate = λ r. refl;
      latch_shortest = (searches latch (formed latch refl) 3 3 three).shortest refl;
      stuck_never = (searches stuck (formed stuck refl) 1 1 one).never refl;
    }

pub returns-clause-worked : goal.returns-clause-worked
returns-clause-worked c = worked
