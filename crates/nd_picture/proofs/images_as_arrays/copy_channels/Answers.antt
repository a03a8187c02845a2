use Rattle.std.proofs.Common.{◌∙◌, sym}
use Rattle.nd_array_core.specs.ArrayMeaning.{meaning_of}
use Rattle.nd_picture.proofs.ChannelCopies.{channel_more}
use Rattle.nd_picture.proofs.images_as_arrays.copy_channels.Goals as goal

pub loop-channel-preserved : goal.loop-channel-preserved
loop-channel-preserved c =
    let kept = c.loop-channel.invariant in
    let more = c.in_ok-copy_channel.ensures in
    record {
      shape = more.shape ∙ kept.shape;
      strides = more.strides ∙ kept.strides;
      copied = channel_more (meaning_of c.loop-channel.laid) (meaning_of c.copy_channel.new.laid) (meaning_of c.args.picture.now) c.loop-channel.channel (kept.shape ∙ sym c.requires.same) more.copied more.others kept.copied;
    }
