-- What every pattern is, since it is made only from tables that meet every question.
use Rattle.std.proofs.Common.{ℕ, ◌≤◌, List, length, Decides}
use Rattle.sets.specs.Sets.{has}
use Rattle.sets.specs.Events.{lowered}
use Rattle.patterns.specs.declared.pattern.Pattern.{Pattern}
use Rattle.patterns.specs.Accepted.{Accepted}
use Rattle.patterns.specs.Formed.{Formed}
use Rattle.patterns.specs.Values.{backs}
use Rattle.patterns.specs.View.{automaton}
use Rattle.patterns.proofs.Accepting.{decides_accepted, decides_lowered}
use Rattle.patterns.proofs.Forming.{formed}

pub is_formed : (p : Pattern) → Formed (automaton p)
is_formed p = formed (automaton p) p.formed

pub few_rows : (p : Pattern) → length p.parts.rows.now ≤ 1024
few_rows p = (is_formed p).few_rows

-- the events worked back from the final set hold the start exactly if they are accepted
pub matched : (p : Pattern) (es : List ℕ)
    → Decides (has (backs (automaton p) es (automaton p).finals) (automaton p).start) (Accepted (automaton p) es)
matched p es = decides_accepted (automaton p) (is_formed p) es

pub matched_lowered : (p : Pattern) (es : List ℕ)
    → Decides (has (backs (automaton p) es (automaton p).finals) (automaton p).start)
    (Accepted (automaton p) (lowered (automaton p).signals es))
matched_lowered p es = decides_lowered (automaton p) (is_formed p) es
