use Rattle.nd_elements.proofs.NamesFromOtherCrates.{◌≡◌, ◌+◌, vec_len, vec_capacity, along}
use Rattle.nd_elements.specs.elements.ElementChanges.{IsChangedBy}
use Rattle.nd_elements.specs.elements.ElementMaps.{Replaces}
use Rattle.nd_elements.specs.elements.ElementMapsMut.{LeavesAndAnswers, Collects}
use Rattle.nd_elements.proofs.elements.map_mut.hand_strided.Given as goal

abbrev pub invariant-loop-nth : goal.invariant-loop-nth
invariant-loop-nth g l =
    IsChangedBy (Replaces (Collects (LeavesAndAnswers g.F.FnMut))) (along l.fn.lane).place l.nth (g.S.Data.stored l.fn.storage) (g.S.Data.stored l.storage) (l.fn.f, l.fn.items.items) (l.now, l.items.items)
    × (vec_len l.items ≡ vec_len l.fn.items + l.nth)
    × (vec_capacity l.items ≡ vec_capacity l.fn.items)
    × (g.S.DataMut.frame l.storage ≡ g.S.DataMut.frame l.fn.storage)
