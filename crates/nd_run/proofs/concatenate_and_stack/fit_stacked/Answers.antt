use Rattle.std.proofs.Common.{◌<◌, ◌≤◌, ◌+◌, ◌^◌, length, set, ap, sym, subst, ◌∙◌, arith}
use Rattle.std.specs.Prelude.{nat_lt}
use Rattle.std.specs.List.{insert}
use Rattle.std.proofs.lemmas.List.Edits.{length-insert}
use Rattle.nd_shape_and_slice.specs.ShapesAndIndexOrders.{nonzero_product, HasCheckedSize}
use Rattle.nd_shape_and_slice.proofs.ListEdits.{set-inserted}
use Rattle.nd_array_core.specs.ArrayMeaning.{shape_of}
use Rattle.nd_stacking.proofs.ConcatenationShapeChecks.{false_from_not, too_long}
use Rattle.nd_run.proofs.JoinedArrays.{size_tested}
use Rattle.nd_run.proofs.concatenate_and_stack.fit_stacked.Goals as goal

pub returns-in-Some : goal.returns-in-Some
returns-in-Some g c =
    let ns = shape_of c.args.array.now in
    let axis = c.args.axis in
    let count = (c.in-Some.ensures {u = tt}).1 in
    let wide = c.insert_axis-joined.ensures ∙ ap (λ l. insert l axis 1) c.raw_dim.ensures in
    let lengths = c.slice.ensures.lengths ∙ (c.set_length.ensures ∙ (ap (λ l. set l axis c.in-Some.count) wide ∙ (set-inserted ns axis 1 c.in-Some.count c.requires.place ∙ ap (insert ns axis) count))) in
    c.is_ok.ensures.value ∙ (size_tested c.size_of_shape_checked.result c.slice.result.now c.size_of_shape_checked.ensures.fits c.size_of_shape_checked.ensures.overflow ∙ ap (λ l. nat_lt (nonzero_product l) (2 ^ 63)) lengths)

pub returns-in-None : goal.returns-in-None
returns-in-None g c =
    let ns = shape_of c.args.array.now in
    let axis = c.args.axis in
    let count = c.args.others + 1 in
    let wide = length-insert ns axis 1 c.requires.place in
    let within = c.requires.place in
    let on : axis < length (insert ns axis 1) = omega (arith, wide, within) in
    let past = c.in-None.ensures {u = tt} in
    let many : 2 ^ 64 ≤ count = omega (arith, past) in
    sym (false_from_not (nonzero_product (insert ns axis count)) (2 ^ 63) (λ checked. too_long (insert ns axis 1) axis count on many (subst HasCheckedSize (sym (set-inserted ns axis 1 count within)) checked)))
