use Rattle.nd_array_core.proofs.NamesFromOtherCrates.{refl}
use Rattle.nd_array_core.specs.scoped.ViewTasks.{array_placed_at}
use Rattle.nd_array_core.specs.ArrayMeaning.{meaning_of, memory_layout_of}
use Rattle.nd_array_core.proofs.tasks.ClosureOnView.{part_is_view, left_is_view}
use Rattle.nd_array_core.proofs.tasks.ClosureOnPartViews.{others_stay}
use Rattle.nd_array_core.proofs.scoped.with_view_mut.ArrayBase+S+D.with_view_mut.Goals as goal

pub with_placement-requires-clause-callable : goal.with_placement-requires-clause-callable
unfolding meaning_of memory_layout_of
with_placement-requires-clause-callable g c m named =
    let array = c.args.self.now in
    c.requires _ (part_is_view (g.S.Data.stored array.storage) array.layout.offset (g.D.Dimension.lengths array.layout.dim) (g.D.Strides.StrideList.strides_of array.layout.strides) m named)

pub returns-clause-frame : goal.returns-clause-frame
unfolding meaning_of memory_layout_of
returns-clause-frame g c = (refl, refl, (λ i. refl), others_stay c.args.self.now c.with_placement.new.storage c.with_placement.ensures.kept, c.with_placement.ensures.frame, refl)

pub returns-clause-done : goal.returns-clause-done
unfolding meaning_of memory_layout_of
returns-clause-done g c =
    let array = c.args.self.now in
    let stored = g.S.Data.stored array.storage in
    let offset = array.layout.offset in
    let ns = g.D.Dimension.lengths array.layout.dim in
    let ss = g.D.Strides.StrideList.strides_of array.layout.strides in
    let done = c.with_placement.ensures.done in
    (array_placed_at done.0 offset ns ss, array_placed_at done.1 offset ns ss, part_is_view stored offset ns ss done.0 done.2, left_is_view stored offset ns ss (g.S.Data.stored c.with_placement.new.storage) done.1 done.4, done.3)
