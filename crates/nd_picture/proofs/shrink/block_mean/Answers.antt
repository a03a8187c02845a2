use Rattle.std.proofs.Common.{sym, arith}
use Rattle.nd_array_core.specs.ArrayMeaning.{meaning_of}
use Rattle.nd_picture.proofs.BlockMeans.{block_fits, block_mean_is}
use Rattle.nd_picture.proofs.PictureChangesOnArrays.{sides_are}
use Rattle.nd_picture.proofs.shrink.block_mean.Goals as goal

pub block_sum-sum-requires-clause-few : goal.block_sum-sum-requires-clause-few
block_sum-sum-requires-clause-few c =
    let fits = block_fits _ _ _ _ c.args.factor c.args.row c.args.column c.args.channel _ _ _ _ c.extents-rows.ensures.shape c.extents-rows.ensures.checked c.requires.some c.requires.row c.requires.column c.requires.channel c.block_range-top.ensures.start c.block_range-top.ensures.end c.block_range-left.ensures.start c.block_range-left.ensures.end in
    fits.0

pub overflow_mul-bottom : goal.overflow_mul-bottom
overflow_mul-bottom c =
    let fits = block_fits _ _ _ _ c.args.factor c.args.row c.args.column c.args.channel _ _ _ _ c.extents-rows.ensures.shape c.extents-rows.ensures.checked c.requires.some c.requires.row c.requires.column c.requires.channel c.block_range-top.ensures.start c.block_range-top.ensures.end c.block_range-left.ensures.start c.block_range-left.ensures.end in
    omega (arith, fits.0)

pub rounded_mean-requires-clause-some : goal.rounded_mean-requires-clause-some
rounded_mean-requires-clause-some c =
    let fits = block_fits _ _ _ _ c.args.factor c.args.row c.args.column c.args.channel _ _ _ _ c.extents-rows.ensures.shape c.extents-rows.ensures.checked c.requires.some c.requires.row c.requires.column c.requires.channel c.block_range-top.ensures.start c.block_range-top.ensures.end c.block_range-left.ensures.start c.block_range-left.ensures.end in
    fits.1

pub returns : goal.returns
returns c = λ p shows.
    let sides = sides_are (meaning_of c.args.picture.now) p _ _ _ (sym c.extents-rows.ensures.shape) shows in
    let rows = c.block_range-top.ensures in
    let columns = c.block_range-left.ensures in
    block_mean_is p c.args.factor c.args.row c.args.column c.args.channel _ _ _ _ _ _ _ _ sides rows.start rows.end columns.start columns.end (c.block_sum-sum.ensures.sum p shows) c.rounded_mean.ensures
