use Rattle.std.proofs.Common.{◌≡◌, ◌-◌, ◌^◌, false, vec_len}
use Rattle.std.specs.Io.KnownBytes.{Consumes}
use Rattle.nd_text.specs.WatchedReadersAndWriters.{watched_inner, watched_failed, watched_retried}
use Rattle.nd_text.proofs.read_input.read_input.Given as goal

-- the bytes so far are what was read, nothing failed, and no read came after one that had
abbrev pub invariant-loop-bytes : goal.invariant-loop-bytes
invariant-loop-bytes g l = record {
  bytes : Consumes (g.R.Read.remaining (watched_inner l.fn.input)) (g.R.Read.remaining (watched_inner l.input)) l.bytes.items;
  failed : watched_failed l.input ≡ false;
  stops : watched_retried l.input ≡ watched_retried l.fn.input;
}

-- each turn reads a byte at least
abbrev pub decreases-loop-bytes : goal.decreases-loop-bytes
decreases-loop-bytes g l = 2 ^ 64 - vec_len l.bytes
