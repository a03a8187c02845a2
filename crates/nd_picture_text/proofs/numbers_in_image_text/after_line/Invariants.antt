use Rattle.std.proofs.Common.{◌≡◌, length}
use Rattle.nd_picture_text.specs.NumbersInImageText.{after_line}
use Rattle.nd_picture_text.proofs.numbers_in_image_text.after_line.Given as goal

-- what follows the line that is left is what follows the whole line
abbrev pub invariant-loop-rest : goal.invariant-loop-rest
invariant-loop-rest l = after_line l.rest ≡ after_line l.fn.text

abbrev pub decreases-loop-rest : goal.decreases-loop-rest
decreases-loop-rest l = length l.rest
