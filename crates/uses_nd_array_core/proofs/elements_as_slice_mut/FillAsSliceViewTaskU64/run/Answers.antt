use Rattle.std.proofs.Common.{sym}
use Rattle.nd_array_core.specs.ArrayMeaning.{shape_of, place_at}
use Rattle.nd_array_core.specs.scoped.ViewTasks.{lent_view}
use Rattle.uses_nd_array_core.proofs.RowAsView.{same_lie}
use Rattle.uses_nd_array_core.proofs.elements_as_slice_mut.FillAsSliceViewTaskU64.run.Goals as goal

pub returns-clause-lies : goal.returns-clause-lies
returns-clause-lies g c =
    let view = c.into_view-view.result in
    let lent = lent_view g.D.Dimension.lengths g.D.Strides.StrideList.strides_of c.args.lent in
    let into = c.into_view-view.ensures in (
      (λ yes. same_lie (shape_of view) lent.placed_shape (place_at view) lent.place into.shape into.places (c.standard_by_places.ensures.0 (c.fill_standard-lies.ensures.standard.0 yes))),
      (λ lies. c.fill_standard-lies.ensures.standard.1 (c.standard_by_places.ensures.1 (same_lie lent.placed_shape (shape_of view) lent.place (place_at view) (sym into.shape) (λ i. sym (into.places i)) lies))),
    )
