use Rattle.nd_elements.proofs.NamesFromOtherCrates.{◌≡◌, ◌+◌, vec_len, vec_capacity}
use Rattle.nd_elements.specs.elements.ElementMaps.{AnswersAfter}
use Rattle.nd_array_core.specs.elements.TripleMaps.{AnswersTriple, items_show}
use Rattle.nd_array_core.proofs.elements.zip_map_with_two.answer_slices.Given as goal

abbrev pub invariant-loop-nth : goal.invariant-loop-nth
invariant-loop-nth g l =
    AnswersAfter (AnswersTriple g.F.FnMut) (items_show l.fn.xs l.fn.ys l.fn.zs) l.nth l.fn.items.items l.items.items l.fn.f l.f
    × (vec_len l.items ≡ vec_len l.fn.items + l.nth)
    × (vec_capacity l.items ≡ vec_capacity l.fn.items)
