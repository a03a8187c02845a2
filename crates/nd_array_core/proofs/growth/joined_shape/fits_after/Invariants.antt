use Rattle.nd_array_core.proofs.NamesFromOtherCrates.{◌≡◌, drop, stretches}
use Rattle.nd_array_core.specs.ConcatenationAndSplit.{appended_shape}
use Rattle.nd_array_core.proofs.growth.joined_shape.fits_after.Given as goal

abbrev pub invariant-loop-nth : goal.invariant-loop-nth
invariant-loop-nth l = stretches (drop l.nth l.added) (drop l.nth (appended_shape l.shape l.added l.axis)) ≡ stretches l.added (appended_shape l.shape l.added l.axis)
