use Rattle.nd_elements.proofs.NamesFromOtherCrates.{ap, sym, ◌∙◌, along}
use Rattle.nd_elements.specs.ElementsAtNumberedPlaces.{elements_at}
use Rattle.nd_elements.specs.StoragePlaces.{stored_at}
use Rattle.nd_elements.specs.elements.ElementMaps.{AnswersElement}
use Rattle.nd_elements.proofs.elements_lemmas.MappedElements.{ran_one_more}
use Rattle.nd_elements.proofs.elements.for_each.show_lane.Goals as goal

pub loop-nth-preserved : goal.loop-nth-preserved
loop-nth-preserved g c =
    ran_one_more (AnswersElement g.F.FnMut) (elements_at g.S.Data.stored (along c.args.lane) c.args.storage.now) c.args.f c.loop-nth.f c.f.new.self c.loop-nth.nth c.f.result c.loop-nth.invariant
    (c.element.result, ap (stored_at (g.S.Data.stored c.args.storage.now)) (sym c.place_of.ensures) ∙ c.element.ensures, c.f.ensures)
