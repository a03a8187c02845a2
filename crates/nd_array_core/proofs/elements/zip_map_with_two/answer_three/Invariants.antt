use Rattle.nd_elements.proofs.NamesFromOtherCrates.{◌≡◌, ◌-◌, ◌≤◌, [], vec_len, vec_capacity, ranked}
use Rattle.nd_elements.specs.elements.ElementMaps.{AnswersAfter}
use Rattle.nd_elements.proofs.elements_lemmas.LanesOfBoth.{AreLanesOfBoth}
use Rattle.nd_array_core.specs.elements.TripleMaps.{AnswersTriple, ranks_show}
use Rattle.nd_array_core.proofs.elements.zip_map_with_two.answer_three.Given as goal

abbrev pub invariant-loop-lane : goal.invariant-loop-lane
invariant-loop-lane g l =
    (AreLanesOfBoth l.fn.one.places l.fn.two.places l.ours l.theirs × AreLanesOfBoth l.fn.one.places l.fn.three.places l.ours l.others)
    × AnswersAfter (AnswersTriple g.F.FnMut) (ranks_show l.fn.one l.fn.two l.fn.three) l.ours.rank [] l.items.items l.fn.f l.now
    × (vec_len l.items ≡ l.ours.rank)
    × ((ranked l.fn.one.places).count ≤ vec_capacity l.items)

abbrev pub decreases-loop-lane : goal.decreases-loop-lane
decreases-loop-lane g l = (ranked l.fn.one.places).count - l.ours.rank
