use Rattle.nd_array_core.proofs.NamesFromOtherCrates.{◌∙◌, refl, ap, is_some, fun_ext, by_rank, stored_at}
use Rattle.nd_elements.proofs.PlacesAsCallsGetThem.{handed_holds}
use Rattle.nd_elements.proofs.elements_lemmas.PairMaps.{second_there}
use Rattle.nd_layout.specs.NumberedPlacesAndWalks.{placement_in}
use Rattle.nd_layout.specs.LayoutStepsOfCalls.{placement_of}
use Rattle.nd_array_core.specs.ArrayMeaning.{meaning_of}
use Rattle.nd_array_core.proofs.elements.zip_map_with_two.laid.Goals as goal

pub invariant_of-result : goal.invariant_of-result
invariant_of-result g c =
    let array = c.args.array.now in
    record {
      holds = λ k below. ap (λ stored. is_some (stored_at stored ((by_rank (placement_in c.places.result)).place k))) (fun_ext c.borrowed.ensures) ∙ handed_holds c.places.ensures g.S.Data.stored array.storage array.inside k below;
    }

pub returns-clause-shows : goal.returns-clause-shows
unfolding meaning_of
returns-clause-shows g c k below =
    let array = c.args.array.now in
    (λ i. stored_at (fun_ext c.borrowed.ensures i) ((by_rank (c.places.ensures i)).place k)) ∙ second_there (g.S.Data.stored array.storage) (placement_of array.layout) (placement_of array.layout) refl k below
