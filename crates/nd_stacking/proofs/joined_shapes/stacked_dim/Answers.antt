use Rattle.std.proofs.Common.{◌<◌, ◌≤◌, length, set, Some, refl, ap, sym, subst, ◌∙◌, arith, rules}
use Rattle.std.specs.List.{insert}
use Rattle.std.proofs.lemmas.List.{length-map}
use Rattle.nd_shape_and_slice.specs.ShapesAndIndexOrders.{HasCheckedSize}
use Rattle.nd_shape_and_slice.proofs.ListEdits.{got_mapped}
use Rattle.nd_array_core.specs.ArrayMeaning.{meaning_of}
use Rattle.nd_array_core.specs.growth.AppendEach.{meanings_of}
use Rattle.nd_stacking.proofs.ConcatenationShapeChecks.{nonempty}
use Rattle.nd_stacking.proofs.StackedAsConcatenated.{no_place, other_shape, stack_fits, stack_lengths, stack_too_large}
use Rattle.nd_stacking.proofs.joined_shapes.stacked_dim.Goals as goal

pub returns-then-axis-ndim-clause-refused : goal.returns-then-axis-ndim-clause-refused
returns-then-axis-ndim-clause-refused g c =
    let x = c.index-arrays-0.result in
    let s = g.D.Dimension.lengths c.raw_dim-first.result in
    let first = got_mapped (λ a. meaning_of a) c.args.arrays.now 0 x (nonempty (length c.args.arrays.now) c.is_empty.result c.is_empty.ensures c.if-is_empty.false) c.index-arrays-0.is in
    let above : length s < c.args.axis.0 = omega (arith, c.ndim.ensures.value, c.if-axis-ndim.true) in
    no_place c.args.axis.0 (meanings_of c.args.arrays.now) (meaning_of x) s first c.raw_dim-first.ensures above ∙ ap Some (sym c.from_kind-then-axis-ndim.ensures)

pub returns-then-not-are_equal-clause-refused : goal.returns-then-not-are_equal-clause-refused
returns-then-not-are_equal-clause-refused g c =
    let x = c.index-arrays-0.result in
    let s = g.D.Dimension.lengths c.raw_dim-first.result in
    let first = got_mapped (λ a. meaning_of a) c.args.arrays.now 0 x (nonempty (length c.args.arrays.now) c.is_empty.result c.is_empty.ensures c.if-is_empty.false) c.index-arrays-0.is in
    let within : c.args.axis.0 ≤ length s = omega (arith, c.ndim.ensures.value, c.if-axis-ndim.false) in
    other_shape c.args.axis.0 (meanings_of c.args.arrays.now) (meaning_of x) s first c.raw_dim-first.ensures within (sym c.are_equal.ensures ∙ c.if-not-are_equal.true) ∙ ap Some (sym c.from_kind-then-not-are_equal.ensures)

pub returns-in-Ok : goal.returns-in-Ok
returns-in-Ok g c =
    let x = c.index-arrays-0.result in
    let axis = c.args.axis.0 in
    let s = g.D.Dimension.lengths c.raw_dim-first.result in
    let first = got_mapped (λ a. meaning_of a) c.args.arrays.now 0 x (nonempty (length c.args.arrays.now) c.is_empty.result c.is_empty.ensures c.if-is_empty.false) c.index-arrays-0.is in
    let within : axis ≤ length s = omega (arith, c.ndim.ensures.value, c.if-axis-ndim.false) in
    let made = c.in-Ok.ensures {u = tt} in
    let are = made.lengths ∙ (ap (λ l. set l axis (length c.args.arrays.now)) c.insert_axis.ensures ∙ ap (set (insert s axis 1) axis) (sym (length-map c.args.arrays.now (λ a. meaning_of a)))) in
    record {
      lengths = stack_lengths axis (meanings_of c.args.arrays.now) (meaning_of x) s (g.D.Larger.Dimension.lengths c.in-Ok.longer) first c.raw_dim-first.ensures within (sym c.are_equal.ensures ∙ c.if-not-are_equal.false) are made.checked;
      fits = stack_fits axis (meanings_of c.args.arrays.now) (meaning_of x) s (g.D.Larger.Dimension.lengths c.in-Ok.longer) first c.raw_dim-first.ensures within (sym c.are_equal.ensures ∙ c.if-not-are_equal.false) are made.checked;
      refused = search rules;
    }

pub returns-in-Err-clause-refused : goal.returns-in-Err-clause-refused
returns-in-Err-clause-refused g c =
    let x = c.index-arrays-0.result in
    let axis = c.args.axis.0 in
    let s = g.D.Dimension.lengths c.raw_dim-first.result in
    let first = got_mapped (λ a. meaning_of a) c.args.arrays.now 0 x (nonempty (length c.args.arrays.now) c.is_empty.result c.is_empty.ensures c.if-is_empty.false) c.index-arrays-0.is in
    let within : axis ≤ length s = omega (arith, c.ndim.ensures.value, c.if-axis-ndim.false) in
    let refused = (c.in-Err.ensures {u = tt}).refused in
    let ms = meanings_of c.args.arrays.now in
    let are = ap (λ l. set l axis (length c.args.arrays.now)) c.insert_axis.ensures ∙ ap (set (insert s axis 1) axis) (sym (length-map c.args.arrays.now (λ a. meaning_of a))) in
    stack_too_large axis ms (meaning_of x) s (set (insert s axis 1) axis (length ms)) first c.raw_dim-first.ensures within (sym c.are_equal.ensures ∙ c.if-not-are_equal.false) refl (λ checked. refused.1 (subst HasCheckedSize (sym are) checked)) ∙ ap Some (sym refused.0)
