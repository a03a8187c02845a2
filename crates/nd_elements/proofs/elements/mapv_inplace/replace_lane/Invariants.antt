use Rattle.nd_elements.proofs.NamesFromOtherCrates.{◌≡◌, along}
use Rattle.nd_elements.specs.ElementBorrowEnds.{KeepsPlaces}
use Rattle.nd_elements.specs.elements.ElementChanges.{IsChangedBy}
use Rattle.nd_elements.specs.elements.ElementMaps.{AnswersValue, Replaces}
use Rattle.nd_elements.proofs.elements.mapv_inplace.replace_lane.Given as goal

abbrev pub invariant-loop-nth : goal.invariant-loop-nth
invariant-loop-nth g l =
    IsChangedBy (Replaces (AnswersValue g.F.FnMut)) (along l.fn.lane).place l.nth (g.S.Data.stored l.fn.storage) (g.S.Data.stored l.storage) l.fn.f l.f
    × (g.S.DataMut.frame l.storage ≡ g.S.DataMut.frame l.fn.storage)
    × KeepsPlaces (g.S.Data.stored l.fn.storage) (g.S.Data.stored l.storage)
