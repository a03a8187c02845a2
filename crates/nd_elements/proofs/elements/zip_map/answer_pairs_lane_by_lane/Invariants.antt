use Rattle.nd_elements.proofs.NamesFromOtherCrates.{◌≡◌, ◌-◌, ◌≤◌, [], vec_len, vec_capacity, ranked}
use Rattle.nd_elements.specs.elements.ElementMaps.{AnswersAfter}
use Rattle.nd_elements.specs.elements.PairMaps.{AnswersPair, pairs_at}
use Rattle.nd_elements.proofs.elements_lemmas.LanesOfBoth.{AreLanesOfBoth}
use Rattle.nd_elements.proofs.elements.zip_map.answer_pairs_lane_by_lane.Given as goal

abbrev pub invariant-loop-lane : goal.invariant-loop-lane
invariant-loop-lane g l =
    AreLanesOfBoth l.fn.places l.fn.other_places l.ours l.theirs
    × AnswersAfter (AnswersPair g.F.FnMut) (pairs_at g.S.Data.stored (ranked l.fn.places) l.fn.storage g.Z.Data.stored (ranked l.fn.other_places) l.fn.others) l.ours.rank [] l.items.items l.fn.f l.now
    × (vec_len l.items ≡ l.ours.rank)
    × ((ranked l.fn.places).count ≤ vec_capacity l.items)

abbrev pub decreases-loop-lane : goal.decreases-loop-lane
decreases-loop-lane g l = (ranked l.fn.places).count - l.ours.rank
