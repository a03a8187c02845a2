use Rattle.std.proofs.Common.{◌≡◌}
use Rattle.nd_array_core.specs.ArrayMeaning.{meaning_of, shape_of, layout_strides}
use Rattle.nd_picture.specs.SamplesAndChannels.{HasChannelsBelow}
use Rattle.nd_picture.proofs.images_as_arrays.copy_channels.Given as goal

abbrev pub invariant-loop-channel : goal.invariant-loop-channel
invariant-loop-channel l = record {
  shape : shape_of l.laid ≡ shape_of l.fn.laid;
  strides : layout_strides l.laid ≡ layout_strides l.fn.laid;
  copied : HasChannelsBelow (meaning_of l.laid) (meaning_of l.picture) l.channel;
}
