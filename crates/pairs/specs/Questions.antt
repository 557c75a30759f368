-- The questions asked before B without A is made, in their order, and the first that is answered no.
--
-- pair_fault B A n N    what is wrong with putting B without A into tables of n roots and N rows
-- files_fault a b n N   what is wrong with doing so for the patterns in A's file a and B's file b; A's is asked first
use Rattle.std.specs.Prelude.{ℕ, ◌+◌, ◌&&◌, List, Option, nat_le}
use Rattle.std.specs.Option.{option_map}
use Rattle.blocks.specs.Layout.{payload}
use Rattle.patterns.specs.Automaton.{Automaton}
use Rattle.files.specs.Layout.{decoded}
use Rattle.files.specs.Questions.{first, unless, read_fault}
use Rattle.duals.specs.Without.{row_count_of, state_count_of}
use Rattle.pairs.specs.declared.fault.PairFault.{PairFault}
use Rattle.pairs.specs.declared.fault.PairFault.TheVariants.{States, Rows, Room}
use Rattle.pairs.specs.declared.fault.FilesFault.{FilesFault}
use Rattle.pairs.specs.declared.fault.FilesFault.TheVariants.{Earlier, Later, Pair}

abbrev pub pair_fault : Automaton → Automaton → ℕ → ℕ → Option PairFault
pair_fault B A n N =
    first (unless (nat_le (state_count_of B A + 1) 64) States)
    (first (unless (nat_le (row_count_of B A + 1) 1024) Rows)
    (unless (nat_le (state_count_of B A + 1) n && nat_le (row_count_of B A + 1) N) Room))

abbrev pub files_fault : List ℕ → List ℕ → ℕ → ℕ → Option FilesFault
files_fault a b n N =
    first (option_map Earlier (read_fault a 64 1024))
    (first (option_map Later (read_fault b 64 1024))
    (option_map Pair (pair_fault (decoded (payload b)) (decoded (payload a)) n N)))
