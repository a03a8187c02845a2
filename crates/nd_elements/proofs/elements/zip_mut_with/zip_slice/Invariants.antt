use Rattle.nd_elements.proofs.NamesFromOtherCrates.{pos, slice_get}
use Rattle.nd_elements.specs.elements.PairsWithOneWritten.{IsZippedTo}
use Rattle.nd_elements.proofs.elements.zip_mut_with.zip_slice.Given as goal

abbrev pub invariant-loop-nth : goal.invariant-loop-nth
invariant-loop-nth g l = IsZippedTo g.F.FnMut (λ k. pos k) (slice_get l.fn.ys) (λ k. pos k) l.nth (slice_get l.fn.xs) (slice_get l.xs) l.fn.f l.f
