use Rattle.std.proofs.Common.{sym, subst, ◌∙◌}
use Rattle.std.proofs.lemmas.Option.{same_Some}
use Rattle.nd_array_core.specs.LayoutLaws.{NothingOutside}
use Rattle.nd_array_core.specs.ArrayMeaning.{meaning_of}
use Rattle.nd_array_core.specs.growth.AppendEach.{meanings_of}
use Rattle.nd_shape_and_slice.specs.declared.errors.ErrorKind.TheVariants.{IncompatibleShape, OutOfBounds, Overflow}
use Rattle.nd_shape_and_slice.proofs.ListEdits.{got_mapped}
use Rattle.nd_stacking.proofs.ConcatenationShapeChecks.{has_axis_and_size, takes_all, there_is_one}
use Rattle.nd_stacking.proofs.ConcatenationByRuns.{runs_there, runs_together, woven_is}
use Rattle.nd_stacking.proofs.concatenated_arrays.laid_by_runs.Goals as goal

pub bounds-arrays-0 : goal.bounds-arrays-0
bounds-arrays-0 g c = there_is_one c.args.axis.0 (λ a. meaning_of a) c.args.arrays.now c.requires.lengths.0

pub size-count-requires : goal.size-count-requires
size-count-requires g c = (has_axis_and_size c.args.axis.0 (meanings_of c.args.arrays.now) (g.D.Dimension.lengths c.args.dim) c.requires.lengths).1

pub woven-requires-clause-runs : goal.woven-requires-clause-runs
woven-requires-clause-runs g c =
    runs_there c.args.axis.0 c.args.sizes.1 c.args.sizes.0 (meanings_of c.args.arrays.now) (g.D.Dimension.lengths c.args.dim) c.requires.lengths c.requires.ranks c.requires.before c.requires.after

pub woven-requires-clause-count : goal.woven-requires-clause-count
woven-requires-clause-count g c =
    c.size-count.ensures
    ∙ runs_together c.args.axis.0 c.args.sizes.1 c.args.sizes.0 (meanings_of c.args.arrays.now) (g.D.Dimension.lengths c.args.dim) c.requires.lengths c.requires.before c.requires.after

pub unreachable-requires : goal.unreachable-requires
unreachable-requires g c =
    let ls = g.D.Dimension.lengths c.args.dim in
    let checked = (has_axis_and_size c.args.axis.0 (meanings_of c.args.arrays.now) ls c.requires.lengths).1 in
    takes_all ls _ c.in-Err.field-0 Overflow OutOfBounds IncompatibleShape checked ((c.in_ok-items.ensures {u = tt}).len ∙ c.size-count.ensures) (c.in-Err.ensures {u = tt}).refused

pub returns : goal.returns
returns g c =
    let ms = meanings_of c.args.arrays.now in
    let x = c.index-arrays-0.result in
    let one = there_is_one c.args.axis.0 (λ a. meaning_of a) c.args.arrays.now c.requires.lengths.0 in
    let first = got_mapped (λ a. meaning_of a) c.args.arrays.now 0 x one c.index-arrays-0.is in
    let made = c.in-Ok.ensures {u = tt} in
    woven_is c.args.axis.0 c.args.sizes.1 c.args.sizes.0 ms (g.D.Dimension.lengths c.args.dim) c.in_ok-items.items.items (meaning_of c.in-Ok.all) c.requires.lengths c.requires.ranks c.requires.before c.requires.after
    (λ m at. subst NothingOutside (same_Some (meaning_of x) m (sym first ∙ at)) c.nothing_outside.ensures)
    (c.in_ok-items.ensures {u = tt}).items made.shape made.elements
