use Rattle.nd_elements.proofs.NamesFromOtherCrates.{◌≡◌, along}
use Rattle.nd_elements.specs.elements.PairsWithOneWritten.{IsZippedTo}
use Rattle.nd_elements.proofs.elements.zip_mut_with.zip_strided.Given as goal

abbrev pub invariant-loop-nth : goal.invariant-loop-nth
invariant-loop-nth g l =
    IsZippedTo g.F.FnMut (along l.fn.lane).place (g.Z.Data.stored l.fn.others) (along l.fn.other_lane).place l.nth (g.S.Data.stored l.fn.storage) (g.S.Data.stored l.storage) l.fn.f l.now
    × (g.S.DataMut.frame l.storage ≡ g.S.DataMut.frame l.fn.storage)
