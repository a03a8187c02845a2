use Rattle.std.proofs.Common.{◌≡◌, length, take}
use Rattle.std.specs.List.{flat_map}
use Rattle.nd_picture_text.specs.ImageWriting.{low_byte}
use Rattle.nd_picture_text.proofs.writer.fill_low.Given as goal

-- the bytes so far are those of the samples so far
abbrev pub invariant-loop-nth : goal.invariant-loop-nth
invariant-loop-nth l = record {
  bytes : take l.nth l.piece ≡ flat_map low_byte (take l.nth l.samples);
  as_long : length l.piece ≡ length l.fn.piece;
}
