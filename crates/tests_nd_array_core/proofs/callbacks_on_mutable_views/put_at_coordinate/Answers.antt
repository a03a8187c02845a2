use Rattle.std.proofs.Common.{◌∙◌}
use Rattle.nd_shape_and_slice.specs.LayoutIndexMaps.{indexed_shape, indexed_index}
use Rattle.nd_array_core.specs.ArrayMeaning.{shape_of, element_at, place_at}
use Rattle.nd_array_core.specs.ArrayInStorage.{element_placed}
use Rattle.tests_nd_array_core.proofs.ScopedViewIndex.{through, put_there}
use Rattle.tests_nd_array_core.proofs.callbacks_on_mutable_views.put_at_coordinate.Goals as goal

pub returns-clause-old : goal.returns-clause-old
returns-clause-old g c =
    let e = c.with_index_axis_mut.ensures.done in
    let ns = shape_of c.args.array.now in
    through (indexed_shape ns c.args.axis.0) (indexed_index c.args.axis.0 c.args.index) (place_at c.args.array.now) (element_at c.args.array.now) e.0 (g.X.NdIndex.coordinates_of c.args.task.index) c.with_index_axis_mut.result e.2 c.requires.within e.4.0

pub returns-clause-new : goal.returns-clause-new
returns-clause-new g c =
    let e = c.with_index_axis_mut.ensures.done in
    let ns = shape_of c.args.array.now in
    let i = g.X.NdIndex.coordinates_of c.args.task.index in
    through (indexed_shape ns c.args.axis.0) (indexed_index c.args.axis.0 c.args.index) (place_at c.with_index_axis_mut.new.self) (element_at c.with_index_axis_mut.new.self) e.1 i c.args.task.value e.3 c.requires.within (e.4.1 i ∙ put_there (element_placed e.0) i c.args.task.value)
