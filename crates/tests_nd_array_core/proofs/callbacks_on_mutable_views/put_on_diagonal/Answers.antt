use Rattle.std.proofs.Common.{◌∙◌, [], ◌∷◌}
use Rattle.nd_shape_and_slice.specs.LayoutIndexMaps.{diagonal_length, diagonal_index}
use Rattle.nd_array_core.specs.ArrayMeaning.{shape_of, element_at, place_at}
use Rattle.nd_array_core.specs.ArrayInStorage.{element_placed}
use Rattle.tests_nd_array_core.proofs.ScopedViewIndex.{through, put_there}
use Rattle.tests_nd_array_core.proofs.callbacks_on_mutable_views.put_on_diagonal.Goals as goal

pub returns-clause-old : goal.returns-clause-old
returns-clause-old g c =
    let e = c.with_diag_mut.ensures.done in
    let ns = shape_of c.args.array.now in
    through (diagonal_length ns ∷ []) (diagonal_index ns) (place_at c.args.array.now) (element_at c.args.array.now) e.0 (g.X.NdIndex.coordinates_of c.args.task.index) c.with_diag_mut.result e.2 c.requires.within e.4.0

pub returns-clause-new : goal.returns-clause-new
returns-clause-new g c =
    let e = c.with_diag_mut.ensures.done in
    let ns = shape_of c.args.array.now in
    let i = g.X.NdIndex.coordinates_of c.args.task.index in
    through (diagonal_length ns ∷ []) (diagonal_index ns) (place_at c.with_diag_mut.new.self) (element_at c.with_diag_mut.new.self) e.1 i c.args.task.value e.3 c.requires.within (e.4.1 i ∙ put_there (element_placed e.0) i c.args.task.value)
