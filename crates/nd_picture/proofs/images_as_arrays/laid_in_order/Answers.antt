use Rattle.std.proofs.Common.{◌∙◌, ap, sym}
use Rattle.nd_shape_and_slice.specs.DefaultAndFortranStrides.{c_strides}
use Rattle.nd_array_core.specs.ArrayMeaning.{shape_of, layout_strides}
use Rattle.nd_picture.proofs.ChannelCopies.{ranks_lead}
use Rattle.nd_picture.proofs.images_as_arrays.laid_in_order.Goals as goal

pub returns-clause-standard : goal.returns-clause-standard
returns-clause-standard c =
    let fresh = c.in_ok-laid.ensures.owns in
    let end = c.in_ok-copy_into.ensures in
    ranks_lead (shape_of c.copy_into.new.laid) (layout_strides c.copy_into.new.laid) (end.strides ∙ fresh.1 ∙ ap c_strides (sym (end.shape ∙ fresh.0)))
