use Rattle.nd_elements.proofs.NamesFromOtherCrates.{◌≡◌, ◌+◌, vec_len, vec_capacity, along}
use Rattle.nd_elements.specs.elements.ElementMaps.{AnswersAfter}
use Rattle.nd_elements.specs.elements.PairMaps.{AnswersPair, pairs_at}
use Rattle.nd_elements.proofs.elements.zip_map.answer_pairs_by_places.Given as goal

abbrev pub invariant-loop-nth : goal.invariant-loop-nth
invariant-loop-nth g l =
    AnswersAfter (AnswersPair g.F.FnMut) (pairs_at g.S.Data.stored (along l.fn.lane) l.fn.storage g.Z.Data.stored (along l.fn.other_lane) l.fn.others) l.nth l.fn.items.items l.items.items l.fn.f l.f
    × (vec_len l.items ≡ vec_len l.fn.items + l.nth)
    × (vec_capacity l.items ≡ vec_capacity l.fn.items)
