use Rattle.std.proofs.Common.{◌≡◌, ◌≤◌, length}
use Rattle.nd_picture_text.specs.NumbersInImageText.{image_digits_after}
use Rattle.nd_picture_text.proofs.numbers_in_image_text.digits_after.Given as goal

-- what is left, read after the number so far, is the whole
abbrev pub invariant-loop-rest : goal.invariant-loop-rest
invariant-loop-rest l = record {
  read : image_digits_after l.positive l.limit l.number l.rest ≡ image_digits_after l.positive l.limit l.fn.first l.fn.text;
  within : l.number ≤ l.limit;
}

abbrev pub decreases-loop-rest : goal.decreases-loop-rest
decreases-loop-rest l = length l.rest
