use Rattle.std.proofs.Common.{ap}
use Rattle.nd_array_core.specs.ArrayMeaning.{meaning_of}
use Rattle.nd_array_core.proofs.growth_lemmas.AppendInFilledStorage.{same_at}
use Rattle.nd_iter.specs.IteratedElements.{at_coordinate, listing}
use Rattle.nd_iter.proofs.views_along_axis.view_at.Goals as goal

pub returns : goal.returns
returns g c =
    let part = c.index_axis.ensures.part in
    ap listing (same_at (meaning_of c.index_axis.result) (at_coordinate (meaning_of c.args.array.now) c.args.axis c.args.index) part.0 part.2)
