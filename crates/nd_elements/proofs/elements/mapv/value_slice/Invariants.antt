use Rattle.nd_elements.proofs.NamesFromOtherCrates.{◌≡◌, ◌+◌, slice_get, vec_len, vec_capacity}
use Rattle.nd_elements.specs.elements.ElementMaps.{AnswersValue, AnswersAfter}
use Rattle.nd_elements.proofs.elements.mapv.value_slice.Given as goal

abbrev pub invariant-loop-nth : goal.invariant-loop-nth
invariant-loop-nth g l =
    AnswersAfter (AnswersValue g.F.FnMut) (slice_get l.fn.xs) l.nth l.fn.items.items l.items.items l.fn.f l.f
    × (vec_len l.items ≡ vec_len l.fn.items + l.nth)
    × (vec_capacity l.items ≡ vec_capacity l.fn.items)
