use Rattle.nd_shape_and_slice.proofs.elements_in_common.+first_multiple.Given as goal

abbrev pub decreases-first_multiple : goal.decreases-first_multiple
decreases-first_multiple l = l.divisor
