use Rattle.std.proofs.Common.{◌≡◌, ◌≤◌, ◌+◌, ◌-◌, ◌*◌, ◌^◌, false, vec_len}
use Rattle.nd_text.specs.WatchedReadersAndWriters.{watched_failed, watched_retried}
use Rattle.nd_npy.specs.StreamReadsAndWrites.{bytes_ahead}
use Rattle.nd_npy.proofs.ItemsInPieces.{StillAhead}
use Rattle.nd_npy.proofs.elements_piece_by_piece.values_ahead.Given as goal

-- the values so far, and those of the bytes that are ahead, are those of all bytes, and nothing failed
abbrev pub invariant-loop-input : goal.invariant-loop-input
invariant-loop-input g l = record {
  ahead : StillAhead (g.A.NpyItem.value_of l.order) l.size l.count (bytes_ahead g.R.Read.remaining l.fn.pending.items l.fn.input) l.values.items (vec_len l.values) (bytes_ahead g.R.Read.remaining l.pending.items l.input);
  few : vec_len l.values ≤ l.count;
  failed : watched_failed l.input ≡ false;
  stops : watched_retried l.input ≡ watched_retried l.fn.input;
}

-- each turn reads a byte at least
abbrev pub decreases-loop-input : goal.decreases-loop-input
decreases-loop-input g l = 2 ^ 65 - (vec_len l.values * l.size + vec_len l.pending)
