use Rattle.std.proofs.Common.{◌≡◌, false, length}
use Rattle.nd_picture_text.specs.NumbersInImageText.{after_gap}
use Rattle.nd_picture_text.proofs.numbers_in_image_text.after_gap.Given as goal

-- what follows the gap that is left is what follows the whole gap
abbrev pub invariant-loop-rest : goal.invariant-loop-rest
invariant-loop-rest l = after_gap l.inside l.rest ≡ after_gap false l.fn.text

abbrev pub decreases-loop-rest : goal.decreases-loop-rest
decreases-loop-rest l = length l.rest
