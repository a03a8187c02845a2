use Rattle.nd_shape_and_slice.proofs.NamesFromOtherCrates.{◌∙◌, ap, rules, FitsSigned, w64, nat_abs, to_z-of_z}
use Rattle.nd_shape_and_slice.specs.CommonElementsOfSlices.{lowest_from}
use Rattle.nd_shape_and_slice.proofs.SlicesAsProgressions.{progression_of, stays_on}
use Rattle.nd_shape_and_slice.proofs.elements_in_common.spaced_by_slice.Goals as goal

pub lowest-requires : goal.lowest-requires
lowest-requires c =
    let f : FitsSigned w64 c.args.slice.step = search rules in
    rw (to_z-of_z w64 c.args.slice.step f) (stays_on c.args.len c.args.slice c.on_axis-on_axis.result.first c.on_axis-on_axis.result.len c.on_axis-on_axis.ensures.first c.on_axis-on_axis.ensures.len)

pub returns : goal.returns
returns c =
    let f : FitsSigned w64 c.args.slice.step = search rules in
    let same = to_z-of_z w64 c.args.slice.step f in
    let low = c.lowest.ensures ∙ ap (lowest_from c.on_axis-on_axis.result.first c.on_axis-on_axis.result.len) same in
    let by = c.unsigned_abs.ensures.value ∙ ap nat_abs same in
    progression_of c.args.len c.args.slice c.on_axis-on_axis.result.first c.on_axis-on_axis.result.len c.unsigned_abs.result c.lowest.result c.requires c.on_axis-on_axis.ensures.first c.on_axis-on_axis.ensures.len by low
