use Rattle.std.proofs.Common.{◌<◌, ◌≤◌, length, set, Some, ap, sym, subst, ◌∙◌, arith}
use Rattle.nd_shape_and_slice.specs.ShapesAndIndexOrders.{HasCheckedSize}
use Rattle.nd_shape_and_slice.proofs.ListEdits.{got_mapped}
use Rattle.nd_array_core.specs.ArrayMeaning.{meaning_of}
use Rattle.nd_array_core.specs.growth.AppendEach.{lengths_along, meanings_of}
use Rattle.nd_stacking.proofs.ConcatenationShapeChecks.{joined_lengths, no_axis, nonempty, too_large, too_long, unlike}
use Rattle.nd_stacking.proofs.joined_shapes.concatenated_dim.Goals as goal

pub returns-then-axis-ndim-clause-refused : goal.returns-then-axis-ndim-clause-refused
returns-then-axis-ndim-clause-refused g c =
    let x = c.index-arrays-0.result in
    let s = g.D.Dimension.lengths c.raw_dim-first.result in
    let first = got_mapped (λ a. meaning_of a) c.args.arrays.now 0 x (nonempty (length c.args.arrays.now) c.is_empty.result c.is_empty.ensures c.if-is_empty.false) c.index-arrays-0.is in
    let above : length s ≤ c.args.axis = omega (arith, c.ndim.ensures.value, c.if-axis-ndim.true) in
    no_axis c.args.axis (meanings_of c.args.arrays.now) (meaning_of x) s first c.raw_dim-first.ensures above ∙ ap Some (sym c.from_kind-then-axis-ndim.ensures)

pub returns-then-not-are_alike-clause-refused : goal.returns-then-not-are_alike-clause-refused
returns-then-not-are_alike-clause-refused g c =
    let x = c.index-arrays-0.result in
    let s = g.D.Dimension.lengths c.raw_dim-first.result in
    let first = got_mapped (λ a. meaning_of a) c.args.arrays.now 0 x (nonempty (length c.args.arrays.now) c.is_empty.result c.is_empty.ensures c.if-is_empty.false) c.index-arrays-0.is in
    let on : c.args.axis < length s = omega (arith, c.ndim.ensures.value, c.if-axis-ndim.false) in
    unlike c.args.axis (meanings_of c.args.arrays.now) (meaning_of x) s first c.raw_dim-first.ensures on (sym c.are_alike.ensures ∙ c.if-not-are_alike.true) ∙ ap Some (sym c.from_kind-then-not-are_alike.ensures)

pub returns-in-None-clause-refused : goal.returns-in-None-clause-refused
returns-in-None-clause-refused g c =
    let x = c.index-arrays-0.result in
    let s = g.D.Dimension.lengths c.raw_dim-first.result in
    let ms = meanings_of c.args.arrays.now in
    let first = got_mapped (λ a. meaning_of a) c.args.arrays.now 0 x (nonempty (length c.args.arrays.now) c.is_empty.result c.is_empty.ensures c.if-is_empty.false) c.index-arrays-0.is in
    let on : c.args.axis < length s = omega (arith, c.ndim.ensures.value, c.if-axis-ndim.false) in
    too_large c.args.axis ms (meaning_of x) s first c.raw_dim-first.ensures on (sym c.are_alike.ensures ∙ c.if-not-are_alike.false) (too_long s c.args.axis (lengths_along c.args.axis ms) on (c.in-None.ensures {u = tt})) ∙ ap Some (sym c.from_kind-in-None.ensures)

pub returns-in-Ok-clause-lengths : goal.returns-in-Ok-clause-lengths
returns-in-Ok-clause-lengths g c =
    let x = c.index-arrays-0.result in
    let s = g.D.Dimension.lengths c.raw_dim-first.result in
    let ms = meanings_of c.args.arrays.now in
    let first = got_mapped (λ a. meaning_of a) c.args.arrays.now 0 x (nonempty (length c.args.arrays.now) c.is_empty.result c.is_empty.ensures c.if-is_empty.false) c.index-arrays-0.is in
    let on : c.args.axis < length s = omega (arith, c.ndim.ensures.value, c.if-axis-ndim.false) in
    let made = c.in-Ok.ensures {u = tt} in
    joined_lengths c.args.axis ms (meaning_of x) s (g.D.Dimension.lengths c.in-Ok.longer) first c.raw_dim-first.ensures on (sym c.are_alike.ensures ∙ c.if-not-are_alike.false) (made.lengths ∙ ap (set s c.args.axis) (c.in-Some.ensures {u = tt})) made.checked

pub returns-in-Err-clause-refused : goal.returns-in-Err-clause-refused
returns-in-Err-clause-refused g c =
    let x = c.index-arrays-0.result in
    let s = g.D.Dimension.lengths c.raw_dim-first.result in
    let ms = meanings_of c.args.arrays.now in
    let first = got_mapped (λ a. meaning_of a) c.args.arrays.now 0 x (nonempty (length c.args.arrays.now) c.is_empty.result c.is_empty.ensures c.if-is_empty.false) c.index-arrays-0.is in
    let on : c.args.axis < length s = omega (arith, c.ndim.ensures.value, c.if-axis-ndim.false) in
    let refused = (c.in-Err.ensures {u = tt}).refused in
    too_large c.args.axis ms (meaning_of x) s first c.raw_dim-first.ensures on (sym c.are_alike.ensures ∙ c.if-not-are_alike.false) (λ checked. refused.1 (subst (λ n. HasCheckedSize (set s c.args.axis n)) (sym (c.in-Some.ensures {u = tt})) checked)) ∙ ap Some (sym refused.0)
