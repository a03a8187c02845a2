use Rattle.nd_elements.proofs.NamesFromOtherCrates.{◌≡◌, pos, ◌+ℤ◌, ◌*ℤ◌}
use Rattle.nd_elements.specs.along.AccumulateAlongAxis.{IsAccumulated}
use Rattle.nd_elements.proofs.along.accumulate_axis.accumulate_strided.Given as goal

abbrev pub invariant-loop-nth : goal.invariant-loop-nth
invariant-loop-nth g l =
    IsAccumulated g.F.FnMut (λ k. pos l.fn.lane.place +ℤ (pos k *ℤ l.fn.lane.stride)) l.nth (g.S.Data.stored l.fn.storage) (g.S.Data.stored l.storage) l.fn.f l.now
    × (g.S.DataMut.frame l.storage ≡ g.S.DataMut.frame l.fn.storage)
