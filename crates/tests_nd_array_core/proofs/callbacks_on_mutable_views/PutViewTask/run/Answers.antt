use Rattle.std.proofs.Common.{ap, sym, ◌∙◌}
use Rattle.std.proofs.Math.Path.{fun_ext}
use Rattle.nd_array_core.specs.ArrayInStorage.{found_at}
use Rattle.nd_array_core.specs.base.ArrayWrites.{with_element_at}
use Rattle.tests_nd_array_core.proofs.callbacks_on_mutable_views.PutViewTask.run.Goals as goal

pub returns-clause-elements : goal.returns-clause-elements
returns-clause-elements g c i =
    let index = g.I.NdIndex.coordinates_of c.args.self.index in
    ap (found_at _) (sym (c.replace-old.ensures.new.1.2 i ∙ c.into_view-view.ensures.places i)) ∙ c.into_storage.ensures.elements i ∙ c.replace-old.ensures.new.0 i
    ∙ ap (λ at. with_element_at at index c.args.self.value i) (fun_ext c.into_view-view.ensures.elements)
