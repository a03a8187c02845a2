use Rattle.std.proofs.Common.{◌≡◌, arith, length, take}
use Rattle.std.proofs.lemmas.List.{take_all}
use Rattle.nd_array_core.specs.ArrayMeaning.{shape_of}
use Rattle.nd_shape_and_slice.specs.AxisPermutations.{HasEachAxis}
use Rattle.nd_shape_and_slice.proofs.EachAxisOnceCheck.{HasEachAxis-test}
use Rattle.nd_steps.proofs.checked_view_calls.permute.Goals as goal

pub permute_axes-requires : goal.permute_axes-requires
permute_axes-requires g c =
    let each : HasEachAxis c.args.axes.now (length (shape_of c.args.array.now)) = HasEachAxis-test c.args.axes.now (length (shape_of c.args.array.now)) c.requires in
    let whole : take c.ndim.result c.args.axes.now ≡ c.args.axes.now = take_all c.ndim.result c.args.axes.now (omega (arith, each.0, c.ndim.ensures.value)) in
    rw (c.new-order.ensures, whole) each
