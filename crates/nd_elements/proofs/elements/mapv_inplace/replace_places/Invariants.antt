use Rattle.nd_elements.proofs.NamesFromOtherCrates.{◌≡◌, ◌-◌, ranked, AreLanesOf}
use Rattle.nd_elements.specs.ElementBorrowEnds.{KeepsPlaces}
use Rattle.nd_elements.specs.elements.ElementChanges.{IsChangedBy}
use Rattle.nd_elements.specs.elements.ElementMaps.{AnswersValue, Replaces}
use Rattle.nd_elements.proofs.elements.mapv_inplace.replace_places.Given as goal

abbrev pub invariant-loop-lane : goal.invariant-loop-lane
invariant-loop-lane g l =
    AreLanesOf l.fn.places l.lanes
    × IsChangedBy (Replaces (AnswersValue g.F.FnMut)) (ranked l.fn.places).place l.lanes.rank (g.S.Data.stored l.fn.storage) (g.S.Data.stored l.storage) l.fn.f l.now
    × (g.S.DataMut.frame l.storage ≡ g.S.DataMut.frame l.fn.storage)
    × KeepsPlaces (g.S.Data.stored l.fn.storage) (g.S.Data.stored l.storage)

abbrev pub decreases-loop-lane : goal.decreases-loop-lane
decreases-loop-lane g l = (ranked l.fn.places).count - l.lanes.rank
