use Rattle.std.proofs.Common.{◌≡◌, Some, sym, subst, ◌∙◌}
use Rattle.nd_shape_and_slice.proofs.ListEdits.{got_mapped}
use Rattle.nd_array_core.specs.LayoutLaws.{NothingOutside}
use Rattle.nd_array_core.specs.ArrayMeaning.{Meaning, meaning_of}
use Rattle.nd_array_core.specs.growth.AppendEach.{meanings_of}
use Rattle.nd_stacking.proofs.EmptyConcatenation.{empty_is}
use Rattle.nd_stacking.proofs.ConcatenationShapeChecks.{has_axis_and_size, there_is_one}
use Rattle.nd_stacking.proofs.concatenated_arrays.emptied.Goals as goal

got : {A : Type 0} (x y : Meaning A) → Some x ≡ Some y → x ≡ y
got x y e = cc

pub bounds-arrays-0 : goal.bounds-arrays-0
bounds-arrays-0 g c = there_is_one c.args.axis.0 (λ a. meaning_of a) c.args.arrays.now c.requires.lengths.0

pub without_elements-requires-clause-checked : goal.without_elements-requires-clause-checked
without_elements-requires-clause-checked g c = (has_axis_and_size c.args.axis.0 (meanings_of c.args.arrays.now) (g.D.Dimension.lengths c.args.dim) c.requires.lengths).1

pub returns : goal.returns
returns g c =
    let ms = meanings_of c.args.arrays.now in
    let x = c.index-arrays-0.result in
    let one = there_is_one c.args.axis.0 (λ a. meaning_of a) c.args.arrays.now c.requires.lengths.0 in
    let first = got_mapped (λ a. meaning_of a) c.args.arrays.now 0 x one c.index-arrays-0.is in
    empty_is c.args.axis.0 ms (g.D.Dimension.lengths c.args.dim) (meaning_of c.without_elements.result) c.requires.lengths c.requires.none
    (λ m at. subst NothingOutside (got (meaning_of x) m (sym first ∙ at)) c.nothing_outside.ensures)
    c.without_elements.ensures.shape c.without_elements.ensures.outside
