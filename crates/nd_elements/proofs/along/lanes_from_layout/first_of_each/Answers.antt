use Rattle.nd_elements.proofs.NamesFromOtherCrates.{◌≡◌, subst, collapsed_index, placement_of, as_placement, IsStepOf}
use Rattle.nd_elements.proofs.along.lanes_from_layout.first_of_each.Goals as goal

pub returns-clause-step : goal.returns-clause-step
returns-clause-step g c =
    let copy = c.copied-firsts.ensures in
    let same : placement_of c.copied-firsts.result ≡ placement_of c.args.layout.now = λ i. as_placement (copy.offset i) (copy.lengths i) (copy.strides i) in
    subst (λ p. IsStepOf p (placement_of c.collapse_axis.new.self) (collapsed_index c.args.axis.0 0)) same c.collapse_axis.ensures.step
