use Rattle.nd_shape_and_slice.proofs.NamesFromOtherCrates.{◌≡◌, ◌+◌, ◌-◌, ◌<◌, arith, length, subst}
use Rattle.nd_shape_and_slice.specs.ShapesAndIndexOrders.{size_of}
use Rattle.nd_shape_and_slice.proofs.RowMajorIndexList.{IsIndexedFrom, positive_at, indexed_more, indexed_all}
use Rattle.nd_shape_and_slice.proofs.index_of_row_major_rank.index_of_rank.Goals as goal

pub nonzero_rem-index : goal.nonzero_rem-index
nonzero_rem-index c =
    (positive_at c.args.lengths.now (c.loop-axis.axis - 1) (omega (arith, c.loop-axis.invariant.within, c.loop-axis-test.true)) (omega (arith, c.requires.below))).0

pub nonzero_div-rest : goal.nonzero_div-rest
nonzero_div-rest c =
    (positive_at c.args.lengths.now (c.loop-axis.axis - 1) (omega (arith, c.loop-axis.invariant.within, c.loop-axis-test.true)) (omega (arith, c.requires.below))).0

pub loop-axis-preserved : goal.loop-axis-preserved
loop-axis-preserved c =
    let at = c.loop-axis.axis - 1 in
    let next : c.loop-axis.axis ≡ at + 1 = omega arith in
    let on : at < length c.args.lengths.now = omega arith in
    let some : 0 < size_of c.args.lengths.now = omega (arith, c.requires.below) in
    indexed_more c.args.rank at c.loop-axis.axis c.loop-axis.rest c.args.lengths.now c.loop-axis.index next on some c.loop-axis.invariant

pub returns : goal.returns
returns c =
    let start : c.loop-axis.axis ≡ 0 = omega arith in
    indexed_all c.args.rank c.loop-axis.rest c.args.lengths.now c.loop-axis.index c.requires.below (subst (λ a. IsIndexedFrom c.args.rank a c.loop-axis.rest c.args.lengths.now c.loop-axis.index) start c.loop-axis.invariant)
