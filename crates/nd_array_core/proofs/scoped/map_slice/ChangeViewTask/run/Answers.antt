use Rattle.nd_array_core.proofs.NamesFromOtherCrates.{ap, sym, ◌∙◌}
use Rattle.nd_array_core.specs.ArrayInStorage.{found_at}
use Rattle.nd_array_core.proofs.scoped_lemmas.AssignedSlices.{changeable_as, changes_as}
use Rattle.nd_array_core.proofs.scoped.map_slice.ChangeViewTask.run.Goals as goal

pub map_inplace-requires : goal.map_inplace-requires
map_inplace-requires g c = record { callable = changeable_as g.F.FnMut c.args.self.f _ _ _ _ c.into_view-view.ensures.shape c.into_view-view.ensures.elements c.requires.callable }

pub returns-clause-visits : goal.returns-clause-visits
returns-clause-visits g c =
    let view = c.into_view-view.ensures in
    changes_as g.F.FnMut c.args.self.f _ _ _ _ _ _ view.shape view.elements
    (λ i. sym (c.into_storage.ensures.elements i) ∙ ap (found_at _) (c.map_inplace.ensures.frame.2 i ∙ view.places i)) c.map_inplace.ensures.visits
