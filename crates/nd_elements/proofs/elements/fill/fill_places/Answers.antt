use Rattle.std.specs.Prelude.{OnOk, OnErr}
use Rattle.nd_elements.proofs.NamesFromOtherCrates.{sym, subst}
use Rattle.nd_elements.specs.FilledPlaces.{Fills, FillsInPart}
use Rattle.nd_elements.specs.LackOfMemory.{MayLackForClones}
use Rattle.nd_elements.specs.ElementsAtNumberedPlaces.{Holds}
use Rattle.nd_elements.proofs.elements.fill.fill_places.Goals as goal

pub fill_lane-requires-clause-holds : goal.fill_lane-requires-clause-holds
fill_lane-requires-clause-holds g c = subst (λ at. Holds g.S.Data.stored at c.args.storage.now) (sym c.in-Some.ensures) c.requires.holds

pub returns-in-Some-clause-filled : goal.returns-in-Some-clause-filled
returns-in-Some-clause-filled g c = subst (λ at. OnOk c.fill_lane.result (Fills g.S.Data.stored at c.args.value.now c.args.storage.now c.fill_lane.new.storage)) c.in-Some.ensures c.fill_lane.ensures.filled

pub returns-in-Some-clause-stopped : goal.returns-in-Some-clause-stopped
returns-in-Some-clause-stopped g c = subst (λ at. OnErr c.fill_lane.result (FillsInPart g.S.Data.stored at c.args.value.now c.args.storage.now c.fill_lane.new.storage)) c.in-Some.ensures c.fill_lane.ensures.stopped

pub returns-in-Some-clause-refused : goal.returns-in-Some-clause-refused
returns-in-Some-clause-refused g c = subst (λ at. OnErr c.fill_lane.result (MayLackForClones g.S.Elem.Clone.is_infallible c.args.value.now at.count)) c.in-Some.ensures c.fill_lane.ensures.refused
