use Rattle.nd_elements.proofs.NamesFromOtherCrates.{pos, slice_get}
use Rattle.nd_elements.specs.along.AccumulateAlongAxis.{IsAccumulated}
use Rattle.nd_elements.proofs.along.accumulate_contiguous.accumulate_slice.Given as goal

abbrev pub invariant-loop-nth : goal.invariant-loop-nth
invariant-loop-nth g l = IsAccumulated g.F.FnMut (λ k. pos k) l.nth (slice_get l.fn.items) (slice_get l.items) l.fn.f l.now
