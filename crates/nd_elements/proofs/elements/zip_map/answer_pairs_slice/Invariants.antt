use Rattle.nd_elements.proofs.NamesFromOtherCrates.{◌≡◌, ◌+◌, slice_get, vec_len, vec_capacity}
use Rattle.nd_elements.specs.ElementsAtNumberedPlaces.{in_turn}
use Rattle.nd_elements.specs.elements.ElementMaps.{AnswersAfter}
use Rattle.nd_elements.specs.elements.PairMaps.{AnswersPair, pairs_at}
use Rattle.nd_elements.proofs.elements.zip_map.answer_pairs_slice.Given as goal

abbrev pub invariant-loop-nth : goal.invariant-loop-nth
invariant-loop-nth g l =
    AnswersAfter (AnswersPair g.F.FnMut) (pairs_at slice_get (in_turn l.fn.xs) l.fn.xs slice_get (in_turn l.fn.ys) l.fn.ys) l.nth l.fn.items.items l.items.items l.fn.f l.f
    × (vec_len l.items ≡ vec_len l.fn.items + l.nth)
    × (vec_capacity l.items ≡ vec_capacity l.fn.items)
