use Rattle.nd_elements.proofs.NamesFromOtherCrates.{◌∙◌, ap, sym, along}
use Rattle.nd_elements.specs.ElementsAtNumberedPlaces.{elements_at}
use Rattle.nd_elements.specs.StoragePlaces.{stored_at}
use Rattle.nd_elements.proofs.elements_lemmas.ElementsFedToHasher.{fed_more}
use Rattle.nd_elements.proofs.elements.hash.hash_lane.Goals as goal

pub loop-nth-preserved : goal.loop-nth-preserved
loop-nth-preserved g c =
    fed_more g.H.Hasher.write g.S.Elem.Hash.hash_input (elements_at g.S.Data.stored (along c.args.lane) c.args.storage.now)
    c.args.state.now c.loop-nth.state c.hash.new.state c.loop-nth.nth c.element.result.now
    (ap (stored_at (g.S.Data.stored c.args.storage.now)) (sym c.place_of.ensures) ∙ c.element.ensures) c.loop-nth.invariant c.hash.ensures
