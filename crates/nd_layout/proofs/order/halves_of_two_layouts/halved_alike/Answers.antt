use Rattle.nd_layout.proofs.NamesFromOtherCrates.{◌<◌, length, slice_index, refl, ap, ◌∙◌, lower_shape, upper_shape}
use Rattle.nd_layout.specs.LayoutStepsOfCalls.{placement_of}
use Rattle.nd_layout.proofs.order_lemmas.HalvedLayouts.{cut_in_halves}
use Rattle.nd_layout.proofs.order.halves_of_two_layouts.halved_alike.Goals as goal

pub returns : goal.returns
returns g c =
    let ns = g.D.Dimension.lengths c.args.layout.now.dim in
    let axis = c.in-Some.axis in
    let index = c.in-Some.index in
    let cut = c.in-Some.ensures in
    let on : axis < length ns = rw c.slice.ensures.lengths at cut.0 in
    let within : index < slice_index ns axis = rw c.slice.ensures.lengths at cut.2 in
    let ours = c.halves-lower.ensures in
    let theirs = c.halves-lower_other.ensures in
    let alike = c.requires.alike in
    cut_in_halves ns axis index on cut.1 within (placement_of c.args.layout.now) (placement_of c.args.other.now) (placement_of c.halves-lower.result.0) (placement_of c.halves-lower_other.result.0) (placement_of c.halves-lower.result.1) (placement_of c.halves-lower_other.result.1)
    refl alike ours.lower_lengths (theirs.lower_lengths ∙ ap (λ ms. lower_shape ms axis index) alike) ours.upper_lengths (theirs.upper_lengths ∙ ap (λ ms. upper_shape ms axis index) alike) ours.lower theirs.lower ours.upper theirs.upper
