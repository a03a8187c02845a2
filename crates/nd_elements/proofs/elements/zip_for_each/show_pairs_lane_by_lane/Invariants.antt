use Rattle.nd_elements.proofs.NamesFromOtherCrates.{◌-◌, ranked}
use Rattle.nd_elements.specs.elements.ElementMaps.{RanNumbered}
use Rattle.nd_elements.specs.elements.PairMaps.{AnswersPair, pairs_at}
use Rattle.nd_elements.proofs.elements_lemmas.LanesOfBoth.{AreLanesOfBoth}
use Rattle.nd_elements.proofs.elements.zip_for_each.show_pairs_lane_by_lane.Given as goal

abbrev pub invariant-loop-lane : goal.invariant-loop-lane
invariant-loop-lane g l =
    AreLanesOfBoth l.fn.places l.fn.other_places l.ours l.theirs
    × RanNumbered (AnswersPair g.F.FnMut) (pairs_at g.S.Data.stored (ranked l.fn.places) l.fn.storage g.Z.Data.stored (ranked l.fn.other_places) l.fn.others) l.fn.f l.ours.rank l.now

abbrev pub decreases-loop-lane : goal.decreases-loop-lane
decreases-loop-lane g l = (ranked l.fn.places).count - l.ours.rank
