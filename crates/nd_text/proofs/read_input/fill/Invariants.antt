use Rattle.std.proofs.Common.{◌≡◌, ◌-◌, ◌^◌, false, vec_len}
use Rattle.nd_text.specs.InputReading.{ReadsOn}
use Rattle.nd_text.specs.WatchedReadersAndWriters.{watched_failed, watched_retried}
use Rattle.nd_text.proofs.read_input.fill.Given as goal

-- what was read stands after the first bytes, nothing failed, and no read came after one that had
abbrev pub invariant-loop-piece : goal.invariant-loop-piece
invariant-loop-piece g l = record {
  bytes : ReadsOn g.R.Read.remaining l.fn.input l.input l.fn.bytes.items l.bytes.items;
  failed : watched_failed l.input ≡ false;
  stops : watched_retried l.input ≡ watched_retried l.fn.input;
}

-- each turn reads a byte at least
abbrev pub decreases-loop-piece : goal.decreases-loop-piece
decreases-loop-piece g l = 2 ^ 64 - vec_len l.bytes
