use Rattle.nd_array_core.specs.ArrayMeaning.{meaning_of}
use Rattle.nd_numeric.proofs.LaneTotalsByCoordinates.{element_stands}
use Rattle.nd_numeric.proofs.outer_product_and_trace.has_elements.Goals as goal

pub returns : goal.returns
returns g c =
    let law = c.elements_by_rank.ensures in
    element_stands (meaning_of c.args.array.now) law.count law.below law.each
