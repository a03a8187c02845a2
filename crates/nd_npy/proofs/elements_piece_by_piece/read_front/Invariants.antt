use Rattle.std.proofs.Common.{◌≡◌, ◌-◌, ◌^◌, false, vec_len}
use Rattle.std.specs.Io.KnownBytes.{Keeps}
use Rattle.nd_text.specs.WatchedReadersAndWriters.{watched_inner, watched_failed, watched_retried}
use Rattle.nd_npy.specs.StreamReadsAndWrites.{bytes_ahead}
use Rattle.nd_npy.proofs.elements_piece_by_piece.read_front.Given as goal

-- the bytes so far and those left are those that there were, and nothing failed
abbrev pub invariant-loop-input : goal.invariant-loop-input
invariant-loop-input g l = record {
  ahead : Keeps (g.R.Read.remaining (watched_inner l.fn.input)) (bytes_ahead g.R.Read.remaining l.front.items l.input);
  failed : watched_failed l.input ≡ false;
  stops : watched_retried l.input ≡ watched_retried l.fn.input;
}

-- each turn reads a byte at least
abbrev pub decreases-loop-input : goal.decreases-loop-input
decreases-loop-input g l = 2 ^ 64 - vec_len l.front
