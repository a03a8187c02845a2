use Rattle.nd_elements.specs.CollectedElements.{stored_along}
use Rattle.nd_elements.specs.along.FoldOfLanes.{FoldsRun}
use Rattle.nd_elements.proofs.along.fold_axis.fold_shown.Given as goal

abbrev pub invariant-loop-nth : goal.invariant-loop-nth
invariant-loop-nth g l = FoldsRun g.F.FnMut (stored_along (g.S.Data.stored l.fn.storage) l.fn.lane.place l.fn.lane.stride) l.nth l.fn.init l.fn.f l.total l.f
