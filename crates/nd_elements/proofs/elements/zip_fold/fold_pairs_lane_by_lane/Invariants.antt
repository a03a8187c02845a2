use Rattle.nd_elements.proofs.NamesFromOtherCrates.{◌-◌, ranked}
use Rattle.nd_elements.specs.elements.PairFolds.{FoldsPairsTo}
use Rattle.nd_elements.specs.elements.PairMaps.{pairs_at}
use Rattle.nd_elements.proofs.elements_lemmas.LanesOfBoth.{AreLanesOfBoth}
use Rattle.nd_elements.proofs.elements.zip_fold.fold_pairs_lane_by_lane.Given as goal

abbrev pub invariant-loop-lane : goal.invariant-loop-lane
invariant-loop-lane g l =
    AreLanesOfBoth l.fn.places l.fn.other_places l.ours l.theirs
    × FoldsPairsTo g.F.FnMut (pairs_at g.S.Data.stored (ranked l.fn.places) l.fn.storage g.Z.Data.stored (ranked l.fn.other_places) l.fn.others) (l.fn.f, l.fn.init) l.ours.rank (l.f, l.total)

abbrev pub decreases-loop-lane : goal.decreases-loop-lane
decreases-loop-lane g l = (ranked l.fn.places).count - l.ours.rank
