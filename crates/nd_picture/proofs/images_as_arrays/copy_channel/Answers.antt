use Rattle.std.specs.Prelude.{slice_index}
use Rattle.std.proofs.lemmas.Result.{on_ok_weaker}
use Rattle.nd_array_core.specs.ArrayMeaning.{meaning_of, shape_of}
use Rattle.nd_array_core.proofs.AxesOfDimensionTypes.{three_lengths, length_short}
use Rattle.nd_picture.proofs.ChannelCopies.{channel_fits, copied, others_kept}
use Rattle.nd_picture.proofs.images_as_arrays.copy_channel.Goals as goal

pub assign_slice-requires-clause-fits : goal.assign_slice-requires-clause-fits
assign_slice-requires-clause-fits c =
    channel_fits (shape_of c.args.laid.now) (slice_index (shape_of c.args.laid.now) 0) (slice_index (shape_of c.args.laid.now) 1) (slice_index (shape_of c.args.laid.now) 2) c.args.channel (three_lengths c.args.laid.now) c.requires.channel (length_short c.args.laid.now 2) c.slices-from.result c.slices-from-2.result c.slices-from-3.result c.slices-from.ensures c.slices-from-2.ensures c.slices-from-3.ensures

pub returns-clause-copied : goal.returns-clause-copied
returns-clause-copied c =
    on_ok_weaker c.assign_slice.result
    (copied (meaning_of c.args.laid.now) (meaning_of c.assign_slice.new.self) (meaning_of c.args.picture.now) (meaning_of c.index_axis-plane.result) c.args.channel c.requires.same (three_lengths c.args.laid.now) c.requires.channel (length_short c.args.laid.now 2) c.slices-from.result c.slices-from-2.result c.slices-from-3.result c.slices-from.ensures c.slices-from-2.ensures c.slices-from-3.ensures c.index_axis-plane.ensures.part.2)
    c.assign_slice.ensures.named

pub returns-clause-others : goal.returns-clause-others
returns-clause-others c =
    others_kept (meaning_of c.args.laid.now) (meaning_of c.assign_slice.new.self) (meaning_of c.args.picture.now) (meaning_of c.index_axis-plane.result) c.args.channel c.requires.same (three_lengths c.args.laid.now) c.requires.channel (length_short c.args.laid.now 2) c.slices-from.result c.slices-from-2.result c.slices-from-3.result c.slices-from.ensures c.slices-from-2.ensures c.slices-from-3.ensures c.assign_slice.ensures.unnamed
