use Rattle.nd_array_core.proofs.NamesFromOtherCrates.{ap, sym, ◌∙◌, rules, on_ok_weaker, on_err_weaker}
use Rattle.nd_array_core.specs.ArrayInStorage.{element_placed, found_at}
use Rattle.nd_array_core.specs.ArrayMeaning.{element_at}
use Rattle.nd_array_core.specs.elements.BroadcastPairs.{other_at}
use Rattle.nd_array_core.specs.scoped.ViewTasks.{lent_view, view_left}
use Rattle.nd_array_core.proofs.scoped_lemmas.AssignedSlices.{old_or_as}
use Rattle.nd_array_core.proofs.elements_lemmas.LackOfMemory.{refused_alike}
use Rattle.nd_array_core.proofs.scoped.assign_slice.AssignViewTask.run.Goals as goal

pub returns : goal.returns
returns g c =
    let view = c.into_view-view.ensures in
    let same = view.shape ∙ sym c.requires.same in
    record {
      frame = search rules;
      assigned = on_ok_weaker c.assign-done.result (λ all i. sym (sym (c.into_storage.ensures.elements i) ∙ ap (found_at _) (c.assign-done.ensures.frame.2 i ∙ view.places i)) ∙ all i ∙ c.broadcast_to_itself.ensures.elements _ same i) c.assign-done.ensures.assigned;
      stopped = on_err_weaker c.assign-done.result
          (old_or_as (element_at c.into_view-view.result) (element_placed (lent_view g.D.Dimension.lengths g.D.Strides.StrideList.strides_of c.args.lent)) (other_at c.into_view-view.result c.args.self.patch) (element_at c.args.self.patch)
          (element_at c.assign-done.new.self) (element_placed (view_left g.D.Dimension.lengths g.D.Strides.StrideList.strides_of c.args.lent c.into_storage.result))
          (λ i. sym (c.into_storage.ensures.elements i) ∙ ap (found_at _) (c.assign-done.ensures.frame.2 i ∙ view.places i)) view.elements (c.broadcast_to_itself.ensures.elements _ same))
          c.assign-done.ensures.stopped;
      refused = let same = c.into_view-view.ensures.shape ∙ sym c.requires.same in
          on_err_weaker c.assign-done.result (refused_alike g.A.Clone.is_infallible (other_at c.into_view-view.result c.args.self.patch) (element_at c.args.self.patch) (c.broadcast_to_itself.ensures.elements _ same)) c.assign-done.ensures.refused;
    }
