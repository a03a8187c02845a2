use Rattle.std.proofs.Common.{◌≡◌, ◌*◌, length, take}
use Rattle.std.specs.List.{flat_map}
use Rattle.nd_picture_text.specs.ImageWriting.{both_bytes}
use Rattle.nd_picture_text.proofs.writer.fill_both.Given as goal

-- the bytes so far are those of the samples so far
abbrev pub invariant-loop-nth : goal.invariant-loop-nth
invariant-loop-nth l = record {
  bytes : take (l.nth * 2) l.piece ≡ flat_map both_bytes (take l.nth l.samples);
  as_long : length l.piece ≡ length l.fn.piece;
}
