use Rattle.nd_elements.proofs.NamesFromOtherCrates.{◌≡◌, along}
use Rattle.nd_elements.specs.FilledPlaces.{IsFilledTo}
use Rattle.nd_elements.proofs.elements.fill.fill_strided.Given as goal

abbrev pub invariant-loop-nth : goal.invariant-loop-nth
invariant-loop-nth g l =
    IsFilledTo (along l.fn.lane).place l.nth l.fn.value (g.S.Data.stored l.fn.storage) (g.S.Data.stored l.storage)
    × (g.S.DataMut.frame l.storage ≡ g.S.DataMut.frame l.fn.storage)
