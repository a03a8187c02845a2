use Rattle.nd_layout.proofs.NamesFromOtherCrates.{◌≡◌, ◌<◌, ◌∙◌, ◌+ℤ◌, arith, length, get_or, pos, w64, to_z, of_z, to_z-of_z}
use Rattle.nd_layout.proofs.steps.DiagonalStep.{sum_none, sum_bound, sum_more, sum_all}
use Rattle.nd_layout.proofs.layout.diagonal.sum_of_strides.Goals as goal

pub loop-k-init : goal.loop-k-init
loop-k-init c = sum_none c.args.lengths.now c.args.strides.now

pub plus-sum-requires : goal.plus-sum-requires
plus-sum-requires c =
    let on : c.loop-k.k < length c.args.lengths.now = omega (arith, c.loop-k-test.true) in
    let bound = sum_bound c.args.lengths.now c.args.strides.now (to_z w64 c.loop-k.sum-bits) c.loop-k.k c.requires.as_many on (c.requires.long c.loop-k.k on) c.loop-k.invariant in
    rw (to_z-of_z w64 c.stride_at.result (record { sfits = c.stride_at.type_inv }), c.stride_at.ensures) (omega (arith, bound, c.requires.spread))

pub loop-k-preserved : goal.loop-k-preserved
loop-k-preserved c =
    let on : c.loop-k.k < length c.args.lengths.now = omega (arith, c.loop-k-test.true) in
    let next : to_z w64 (of_z w64 c.plus-sum.result) ≡ to_z w64 c.loop-k.sum-bits +ℤ get_or c.args.strides.now c.loop-k.k (pos 0) =
    to_z-of_z w64 c.plus-sum.result (record { sfits = c.plus-sum.type_inv }) ∙ (rw (to_z-of_z w64 c.stride_at.result (record { sfits = c.stride_at.type_inv }), c.stride_at.ensures) at c.plus-sum.ensures) in
    sum_more c.args.lengths.now c.args.strides.now (to_z w64 c.loop-k.sum-bits) (to_z w64 (of_z w64 c.plus-sum.result)) c.loop-k.k c.requires.as_many on (c.requires.long c.loop-k.k on) next c.loop-k.invariant

pub returns : goal.returns
returns c = sum_all c.args.lengths.now c.args.strides.now (to_z w64 c.loop-k.sum-bits) c.loop-k.k (omega (arith, c.loop-k-test.false, c.requires.as_many)) c.loop-k.invariant
