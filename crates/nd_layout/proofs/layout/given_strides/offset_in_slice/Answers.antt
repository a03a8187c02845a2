use Rattle.nd_layout.proofs.NamesFromOtherCrates.{arith}
use Rattle.nd_layout.proofs.steps.GivenStrides.{given_is_valid}
use Rattle.nd_layout.proofs.layout.given_strides.offset_in_slice.Goals as goal

pub returns-in-Some-clause-valid : goal.returns-in-Some-clause-valid
returns-in-Some-clause-valid c =
    let span = c.in-Some.ensures {u = tt} in
    rw c.reach_below.ensures (given_is_valid c.args.lengths.now c.args.strides.now c.requires.as_many c.in_ok-size_of_shape_checked.ensures.fits (omega (arith, span.0, span.1)))
