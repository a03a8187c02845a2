-- A chunk begins on its axis.
use Rattle.std.proofs.Common.{ℕ, ◌*◌, ◌<◌, arith}
use Rattle.nd_iter.specs.ChunksAlongAxis.{chunk_count}
use Rattle.nd_iter.proofs.EqualPartsAlongAxis.{part_fits}

pub chunk_begins : (n size k : ℕ) → 0 < size → k < chunk_count n size → k * size < n
chunk_begins n size k some below =
    let fits = part_fits n 1 size k some below in
    omega (arith, fits)
