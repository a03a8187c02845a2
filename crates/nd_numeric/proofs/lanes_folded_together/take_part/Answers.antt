use Rattle.std.proofs.Common.{◌∙◌, ap}
use Rattle.nd_array_core.specs.ArrayMeaning.{shape_of, element_at}
use Rattle.nd_array_core.specs.elements.BroadcastPairs.{option_both}
use Rattle.nd_numeric.proofs.lanes_folded_together.take_part.Goals as goal

pub returns-clause-taken : goal.returns-clause-taken
returns-clause-taken g c i =
    let gives = g.O.Operation.gives c.args.operation in
    let old = c.args.totals.now in
    c.combine_with.ensures.1 i
    ∙ ap (option_both gives (element_at old i)) (c.broadcast_to_itself.ensures.elements (shape_of old) c.requires i)
