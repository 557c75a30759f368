use Rattle.std.proofs.Common.{◌≡◌}
use Rattle.std.specs.Iterator.Adapters.{enumerate_source, enumerate_count}
use Rattle.std.specs.Slice.Iter.{chunks_rest, chunks_size}
use Rattle.blocks.proofs.Laying.{Laid}
use Rattle.blocks.proofs.writer.write_blocks.Given as goal

abbrev pub invariant-loop-b : goal.invariant-loop-b
invariant-loop-b l =
    let chunks = enumerate_source l.b-iterator in
    (chunks_size chunks ≡ 504) × Laid l.payload l.initial.buffer l.buffer (chunks_rest chunks) (enumerate_count l.b-iterator)
