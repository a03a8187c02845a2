use Rattle.std.proofs.Common.{◌≡◌, ◌<◌, ◌-◌, ◌^◌}
use Rattle.nd_text.specs.InputReading.{ReadsOn}
use Rattle.nd_text.specs.WatchedReadersAndWriters.{watched_retried}
use Rattle.nd_picture_text.proofs.plain_rows_from_stream.next_plain_rows.Given as goal

-- what was read stands after the first bytes, and no read came after one that had failed
abbrev pub invariant-loop-bytes : goal.invariant-loop-bytes
invariant-loop-bytes g l = record {
  bytes : ReadsOn g.R.Read.remaining l.fn.input l.input l.fn.bytes.items l.bytes.items;
  some : 0 < l.size;
  stops : watched_retried l.input ≡ watched_retried l.fn.input;
}

-- each turn asks for more bytes
abbrev pub decreases-loop-bytes : goal.decreases-loop-bytes
decreases-loop-bytes g l = 2 ^ 64 - l.size
