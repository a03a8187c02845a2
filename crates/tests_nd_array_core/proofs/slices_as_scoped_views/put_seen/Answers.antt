use Rattle.std.proofs.Common.{sym, ◌∙◌}
use Rattle.std.proofs.lemmas.Result.{IfOk-weaker}
use Rattle.nd_array_core.specs.ArrayInStorage.{element_placed}
use Rattle.tests_nd_array_core.proofs.ScopedViewIndex.{put_there}
use Rattle.tests_nd_array_core.proofs.slices_as_scoped_views.put_seen.Goals as goal

pub returns-clause-new : goal.returns-clause-new
returns-clause-new g c =
    let i = g.I.NdIndex.coordinates_of c.args.task.index in
    IfOk-weaker c.with_view_of.result _ _ (λ _ e. sym (e.3.same_element i) ∙ (e.4.1 i ∙ put_there (element_placed e.0) i c.args.task.value)) c.with_view_of.ensures.done
