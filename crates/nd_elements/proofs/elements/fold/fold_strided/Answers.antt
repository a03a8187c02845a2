use Rattle.nd_elements.proofs.NamesFromOtherCrates.{ap, sym, ◌∙◌, along}
use Rattle.nd_elements.specs.ElementsAtNumberedPlaces.{elements_at}
use Rattle.nd_elements.specs.StoragePlaces.{stored_at}
use Rattle.nd_elements.specs.elements.ElementFolds.{FoldsElement}
use Rattle.nd_elements.proofs.NumberedCalls.{ran_more}
use Rattle.nd_elements.proofs.elements.fold.fold_strided.Goals as goal

pub f-total-requires : goal.f-total-requires
f-total-requires g c =
    c.requires.callable c.loop-nth.nth (c.loop-nth.f, c.loop-nth.total) c.loop-nth-test.true c.loop-nth.invariant c.element.result
    (ap (stored_at (g.S.Data.stored c.args.storage.now)) (sym c.place_of.ensures) ∙ c.element.ensures)

pub loop-nth-preserved : goal.loop-nth-preserved
loop-nth-preserved g c =
    ran_more (λ p j q. FoldsElement g.F.FnMut (elements_at g.S.Data.stored (along c.args.lane) c.args.storage.now j) p q)
    (c.args.f, c.args.init) (c.loop-nth.f, c.loop-nth.total) (c.f-total.new.self, c.f-total.result) c.loop-nth.nth c.loop-nth.invariant
    (c.element.result, ap (stored_at (g.S.Data.stored c.args.storage.now)) (sym c.place_of.ensures) ∙ c.element.ensures, c.f-total.ensures)
