use Rattle.nd_shape_and_slice.proofs.NamesFromOtherCrates.{◌≡◌, ◌∙◌, ap, sym, subst, arith, ◌*◌, ◌+◌, ◌<◌, pos, get_or, set, length, w64, length-replicate, ints, to_z_pos}
use Rattle.nd_shape_and_slice.specs.ShapesAndIndexOrders.{HasCheckedSize}
use Rattle.nd_shape_and_slice.proofs.FortranStridesLoop.{IsFilledTo, filled_none, full_fits, step-le, grown-le, filled_more}
use Rattle.nd_shape_and_slice.proofs.strides.fortran_strides.Goals as goal

pub overflow_cast-step : goal.overflow_cast-step
overflow_cast-step g c =
    let checked : HasCheckedSize c.slice-lengths.result.now = rw c.slice-lengths.ensures.lengths c.requires in
    let full = full_fits c.slice-lengths.result.now c.if-is_empty_shape.ensures.1 checked in
    let le = step-le c.slice-lengths.result.now (g.D.Strides.StrideList.strides_of c.loop-axis.strides) c.loop-axis.axis c.loop-axis.step c.loop-axis.invariant c.loop-axis-test.true full.0 in
    let limit = full.1 in
    omega (arith, ints, le, limit)

pub overflow_mul-step : goal.overflow_mul-step
overflow_mul-step g c =
    let checked : HasCheckedSize c.slice-lengths.result.now = rw c.slice-lengths.ensures.lengths c.requires in
    let full = full_fits c.slice-lengths.result.now c.if-is_empty_shape.ensures.1 checked in
    let le = grown-le c.slice-lengths.result.now (g.D.Strides.StrideList.strides_of c.loop-axis.strides) c.loop-axis.axis c.loop-axis.step c.loop-axis.invariant c.loop-axis-test.true full.0 in
    let limit = full.1 in
    omega (arith, le, limit)

pub loop-axis-preserved : goal.loop-axis-preserved
loop-axis-preserved g c =
    let checked : HasCheckedSize c.slice-lengths.result.now = rw c.slice-lengths.ensures.lengths c.requires in
    let full = full_fits c.slice-lengths.result.now c.if-is_empty_shape.ensures.1 checked in
    let strides = g.D.Strides.StrideList.strides_of c.loop-axis.strides in
    let le = step-le c.slice-lengths.result.now strides c.loop-axis.axis c.loop-axis.step c.loop-axis.invariant c.loop-axis-test.true full.0 in
    let limit = full.1 in
    let small : c.loop-axis.step < 9223372036854775808 = omega (arith, le, limit) in
    let put : g.D.Strides.StrideList.strides_of c.set.new.self ≡ set strides c.loop-axis.axis (pos c.loop-axis.step) = c.set.ensures ∙ ap (set strides c.loop-axis.axis) (to_z_pos w64 c.loop-axis.step small) in
    subst (λ l. IsFilledTo (c.loop-axis.axis + 1) (c.loop-axis.step * get_or c.slice-lengths.result.now c.loop-axis.axis 0) c.slice-lengths.result.now l) (sym put)
    (filled_more c.slice-lengths.result.now strides c.loop-axis.axis c.loop-axis.step c.loop-axis.invariant c.loop-axis-test.true full.0)

pub loop-axis-init : goal.loop-axis-init
loop-axis-init g c =
    filled_none c.slice-lengths.result.now (g.D.Strides.StrideList.strides_of c.zero_strides-strides.result)
    (ap length c.zero_strides-strides.ensures ∙ (length-replicate (length (g.D.Dimension.lengths c.args.dim.now)) (pos 0) ∙ sym (ap length c.slice-lengths.ensures.lengths)))
