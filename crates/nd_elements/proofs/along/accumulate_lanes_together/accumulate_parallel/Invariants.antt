use Rattle.nd_elements.proofs.NamesFromOtherCrates.{◌≡◌}
use Rattle.nd_elements.specs.along.AxisLanes.{parallel_lanes}
use Rattle.nd_elements.proofs.along_lemmas.RowsAccumulating.{RowsAccumulated}
use Rattle.nd_elements.proofs.along.accumulate_lanes_together.accumulate_parallel.Given as goal

abbrev pub invariant-loop-nth : goal.invariant-loop-nth
invariant-loop-nth g l =
    RowsAccumulated g.F.FnMut (parallel_lanes l.fn.lanes l.fn.lane).place l.fn.lanes l.nth (g.S.Data.stored l.fn.storage) (g.S.Data.stored l.storage) l.fn.f l.now
    × (g.S.DataMut.frame l.storage ≡ g.S.DataMut.frame l.fn.storage)
