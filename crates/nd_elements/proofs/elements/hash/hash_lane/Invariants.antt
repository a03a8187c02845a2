use Rattle.nd_elements.proofs.NamesFromOtherCrates.{◌≡◌, fold, flat_map, along}
use Rattle.nd_elements.specs.CollectedElements.{collected}
use Rattle.nd_elements.specs.ElementsAtNumberedPlaces.{elements_at}
use Rattle.nd_elements.proofs.elements.hash.hash_lane.Given as goal

abbrev pub invariant-loop-nth : goal.invariant-loop-nth
invariant-loop-nth g l =
    l.state ≡ fold g.H.Hasher.write l.fn.state (flat_map g.S.Elem.Hash.hash_input (collected (elements_at g.S.Data.stored (along l.fn.lane) l.fn.storage) l.nth))
