use Rattle.std.proofs.Common.{ap, ◌∙◌}
use Rattle.nd_array_core.specs.LayoutLaws.{with_axis_sliced}
use Rattle.nd_array_core.specs.ArrayMeaning.{meaning_of}
use Rattle.nd_array_core.proofs.growth_lemmas.AppendInFilledStorage.{same_at}
use Rattle.nd_iter.specs.IteratedElements.{listing}
use Rattle.nd_iter.proofs.chunks_along_axis.stretch.Goals as goal

pub returns : goal.returns
returns g c =
    let part = c.slice_axis.ensures.part in
    let m = meaning_of c.args.array.now in
    ap listing (same_at (meaning_of c.slice_axis.result) (with_axis_sliced c.args.axis c.between.result m) part.0 part.2) ∙ ap (λ s. listing (with_axis_sliced c.args.axis s m)) c.between.ensures
