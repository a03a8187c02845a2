use Rattle.nd_elements.proofs.NamesFromOtherCrates.{sym, subst, region_stored, along}
use Rattle.nd_elements.specs.elements.PairsWithOneWritten.{TakesPairs}
use Rattle.nd_elements.proofs.elements.zip_mut_with.zip_in_region.Goals as goal

pub zip_strided-now-requires-clause-callable : goal.zip_strided-now-requires-clause-callable
zip_strided-now-requires-clause-callable g c =
    subst (λ r. TakesPairs g.F.FnMut (region_stored r) (along c.args.lane).place (g.Z.Data.stored c.args.others.now) (along c.args.other_lane).place c.args.f c.args.lane.count)
    (sym c.of_region-lent.ensures) c.requires.callable
