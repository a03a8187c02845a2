use Rattle.std.proofs.Common.{◌≡◌, set, ap, sym, subst, ◌∙◌}
use Rattle.std.proofs.lemmas.Option.{same_Some}
use Rattle.nd_array_core.specs.declared.base.array_error.ArrayError.{ArrayError}
use Rattle.nd_array_core.specs.declared.base.array_error.ArrayError.TheVariants.{NoMemory, Shape}
use Rattle.nd_array_core.specs.LayoutLaws.{NothingOutside}
use Rattle.nd_array_core.specs.ArrayMeaning.{meaning_of}
use Rattle.nd_array_core.specs.growth.AppendEach.{meanings_of}
use Rattle.nd_shape_and_slice.specs.declared.errors.ErrorKind.{ErrorKind}
use Rattle.nd_shape_and_slice.proofs.ListEdits.{got_mapped}
use Rattle.nd_stacking.proofs.ConcatenationShapeChecks.{has_axis_and_size, in_room, in_room_is, there_is_one}
use Rattle.nd_stacking.proofs.concatenated_arrays.appended.Goals as goal

not_both : (e : ArrayError) (kind : ErrorKind) → e ≡ Shape kind → e ≡ NoMemory → ⊥
not_both e kind shape memory = absurd cc

pub bounds-arrays-0 : goal.bounds-arrays-0
bounds-arrays-0 g c = there_is_one c.args.axis.0 (λ a. meaning_of a) c.args.arrays.now c.requires.lengths.0

pub room_for-requires-clause-on : goal.room_for-requires-clause-on
room_for-requires-clause-on g c = (has_axis_and_size c.args.axis.0 (meanings_of c.args.arrays.now) (g.D.Dimension.lengths c.args.dim) c.requires.lengths).0

pub room_for-requires-clause-checked : goal.room_for-requires-clause-checked
room_for-requires-clause-checked g c = (has_axis_and_size c.args.axis.0 (meanings_of c.args.arrays.now) (g.D.Dimension.lengths c.args.dim) c.requires.lengths).1

pub unreachable-requires : goal.unreachable-requires
unreachable-requires g c =
    let ms = meanings_of c.args.arrays.now in
    let shape = c.in_ok-all.ensures {u = tt} ∙ ap (λ l. set l c.args.axis.0 0) c.requires.lengths.1 in
    let fits = in_room c.args.axis.0 ms (meaning_of c.in_ok-all.all) c.requires.lengths.0 shape in
    not_both c.in-Err-default-Shape.field-0-1 c.in-Err-default-Shape.field-0-1-0 c.in-Err-default-Shape.field-0-1-is ((c.in-Err-default-Shape.ensures {u = tt}).fitting fits)

pub returns-in-Ok : goal.returns-in-Ok
returns-in-Ok g c =
    let ms = meanings_of c.args.arrays.now in
    let x = c.index-arrays-0.result in
    let shape = c.in_ok-all.ensures {u = tt} ∙ ap (λ l. set l c.args.axis.0 0) c.requires.lengths.1 in
    let one = there_is_one c.args.axis.0 (λ a. meaning_of a) c.args.arrays.now c.requires.lengths.0 in
    let first = got_mapped (λ a. meaning_of a) c.args.arrays.now 0 x one c.index-arrays-0.is in
    in_room_is c.args.axis.0 ms (meaning_of c.in_ok-all.all) (meaning_of c.append_each.new.self) c.requires.lengths.0
    (λ m at. subst NothingOutside (same_Some (meaning_of x) m (sym first ∙ at)) c.nothing_outside.ensures)
    shape (c.in-Ok.ensures {u = tt}).joined
