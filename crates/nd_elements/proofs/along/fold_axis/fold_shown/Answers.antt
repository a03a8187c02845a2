use Rattle.nd_elements.proofs.NamesFromOtherCrates.{refl, ap, sym, ◌∙◌}
use Rattle.nd_elements.specs.StoragePlaces.{stored_at}
use Rattle.nd_elements.specs.CollectedElements.{stored_along}
use Rattle.nd_elements.specs.along.FoldOfLanes.{FoldsShown}
use Rattle.nd_elements.proofs.NumberedCalls.{ran_more}
use Rattle.nd_elements.proofs.along.fold_axis.fold_shown.Goals as goal

pub f-total-requires : goal.f-total-requires
f-total-requires g c =
    c.requires.callable c.loop-nth.nth (c.loop-nth.f, c.loop-nth.total) c.loop-nth-test.true c.loop-nth.invariant _ c.element.result refl
    (ap (stored_at (g.S.Data.stored c.args.storage.now)) (sym c.place_of.ensures) ∙ c.element.ensures)

pub loop-nth-preserved : goal.loop-nth-preserved
loop-nth-preserved g c =
    ran_more (λ p j q. FoldsShown g.F.FnMut (stored_along (g.S.Data.stored c.args.storage.now) c.args.lane.place c.args.lane.stride j) p q)
    (c.args.f, c.args.init) (c.loop-nth.f, c.loop-nth.total) (c.f-total.new.self, c.f-total.result) c.loop-nth.nth c.loop-nth.invariant
    (record { total = _; shows = refl; shown = c.element.result; is = ap (stored_at (g.S.Data.stored c.args.storage.now)) (sym c.place_of.ensures) ∙ c.element.ensures; answer = c.f-total.result; gives = refl; called = c.f-total.ensures })
