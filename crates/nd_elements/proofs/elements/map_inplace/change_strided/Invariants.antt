use Rattle.nd_elements.proofs.NamesFromOtherCrates.{◌≡◌, along}
use Rattle.nd_elements.specs.elements.ElementChanges.{IsChangedTo}
use Rattle.nd_elements.proofs.elements.map_inplace.change_strided.Given as goal

abbrev pub invariant-loop-nth : goal.invariant-loop-nth
invariant-loop-nth g l =
    IsChangedTo g.F.FnMut (along l.fn.lane).place l.nth (g.S.Data.stored l.fn.storage) (g.S.Data.stored l.storage) l.fn.f l.now
    × (g.S.DataMut.frame l.storage ≡ g.S.DataMut.frame l.fn.storage)
