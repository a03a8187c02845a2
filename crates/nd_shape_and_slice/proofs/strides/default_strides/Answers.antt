use Rattle.nd_shape_and_slice.proofs.NamesFromOtherCrates.{◌≡◌, ◌∙◌, [], ap, sym, arith, ◌+◌, ◌-◌, ◌<◌, pos, length, drop, set, w64, drop_all, length-replicate, ints, to_z_pos}
use Rattle.std.proofs.Math.ListN.{length-set}
use Rattle.nd_shape_and_slice.specs.ShapesAndIndexOrders.{size_of, HasCheckedSize}
use Rattle.nd_shape_and_slice.specs.DefaultAndFortranStrides.{row_strides}
use Rattle.nd_shape_and_slice.proofs.RowMajor.{size_of-drop_more, drop_fits, row_strides-drop_more}
use Rattle.nd_shape_and_slice.proofs.strides.default_strides.Goals as goal

pub overflow_cast-step : goal.overflow_cast-step
overflow_cast-step g c =
    let checked : HasCheckedSize c.slice-lengths.result.now = rw c.slice-lengths.ensures.lengths c.requires in
    let limit = drop_fits c.slice-lengths.result.now c.loop-axis.axis c.if-is_empty_shape.ensures.1 checked in
    omega (arith, ints, limit)

pub overflow_mul-step : goal.overflow_mul-step
overflow_mul-step g c =
    let checked : HasCheckedSize c.slice-lengths.result.now = rw c.slice-lengths.ensures.lengths c.requires in
    let limit = drop_fits c.slice-lengths.result.now (c.loop-axis.axis - 1) c.if-is_empty_shape.ensures.1 checked in
    let here : c.loop-axis.axis ≡ c.loop-axis.axis - 1 + 1 = omega arith in
    let within : c.loop-axis.axis - 1 < length c.slice-lengths.result.now = omega arith in
    let grown = size_of-drop_more c.slice-lengths.result.now (c.loop-axis.axis - 1) c.loop-axis.axis c.loop-axis.step here within c.loop-axis.invariant.step_is in
    omega (arith, limit, grown)

pub loop-axis-preserved : goal.loop-axis-preserved
loop-axis-preserved g c =
    let checked : HasCheckedSize c.slice-lengths.result.now = rw c.slice-lengths.ensures.lengths c.requires in
    let lengths = c.slice-lengths.result.now in
    let strides = g.D.Strides.StrideList.strides_of c.loop-axis.strides in
    let at = c.loop-axis.axis - 1 in
    let limit = drop_fits lengths c.loop-axis.axis c.if-is_empty_shape.ensures.1 checked in
    let here : c.loop-axis.axis ≡ at + 1 = omega arith in
    let within : at < length lengths = omega arith in
    let small : c.loop-axis.step < 9223372036854775808 = omega (arith, limit) in
    let put : g.D.Strides.StrideList.strides_of c.set.new.self ≡ set strides at (pos c.loop-axis.step) = c.set.ensures ∙ ap (set strides at) (to_z_pos w64 c.loop-axis.step small) in
    record {
      within = omega arith;
      as_many = ap length put ∙ (length-set strides at (pos c.loop-axis.step) ∙ c.loop-axis.invariant.as_many);
      step_is = size_of-drop_more lengths at c.loop-axis.axis c.loop-axis.step here within c.loop-axis.invariant.step_is;
      filled = ap (drop at) put ∙ row_strides-drop_more lengths strides at c.loop-axis.axis c.loop-axis.step here within c.loop-axis.invariant.as_many c.loop-axis.invariant.step_is c.loop-axis.invariant.filled;
    }

pub loop-axis-init : goal.loop-axis-init
loop-axis-init g c =
    let lengths = c.slice-lengths.result.now in
    let strides = g.D.Strides.StrideList.strides_of c.zero_strides-strides.result in
    let many : length strides ≡ length lengths = ap length c.zero_strides-strides.ensures ∙ (length-replicate (length (g.D.Dimension.lengths c.args.dim.now)) (pos 0) ∙ sym (ap length c.slice-lengths.ensures.lengths)) in
    let end : drop (length lengths) lengths ≡ [] = drop_all (length lengths) lengths (omega arith) in
    let end_of_strides : drop (length lengths) strides ≡ [] = drop_all (length lengths) strides (omega (arith, many)) in
    record { within = omega arith; as_many = many; step_is = sym (ap size_of end); filled = end_of_strides ∙ sym (ap row_strides end) }
