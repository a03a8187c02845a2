use Rattle.nd_shape_and_slice.proofs.axis_numbers_and_permutations.holds_each_axis.Goals as goal

pub returns-then-ndim-le-MAX_AXES : goal.returns-then-ndim-le-MAX_AXES
returns-then-ndim-le-MAX_AXES c =
    (λ yes. (c.if-axes-ndim.false, c.marks_each_axis.ensures.0 yes), λ each. c.marks_each_axis.ensures.1 each.1)

pub returns-else-ndim-le-MAX_AXES : goal.returns-else-ndim-le-MAX_AXES
returns-else-ndim-le-MAX_AXES c =
    (λ yes. (c.if-axes-ndim.false, c.counts_each_axis.ensures.0 yes), λ each. c.counts_each_axis.ensures.1 each.1)
