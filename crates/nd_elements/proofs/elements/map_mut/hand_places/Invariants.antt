use Rattle.nd_elements.proofs.NamesFromOtherCrates.{◌≡◌, ◌-◌, ◌≤◌, [], vec_len, vec_capacity, ranked, AreLanesOf}
use Rattle.nd_elements.specs.elements.ElementChanges.{IsChangedBy}
use Rattle.nd_elements.specs.elements.ElementMaps.{Replaces}
use Rattle.nd_elements.specs.elements.ElementMapsMut.{LeavesAndAnswers, Collects}
use Rattle.nd_elements.proofs.elements.map_mut.hand_places.Given as goal

abbrev pub invariant-loop-lane : goal.invariant-loop-lane
invariant-loop-lane g l =
    AreLanesOf l.fn.places l.lanes
    × IsChangedBy (Replaces (Collects (LeavesAndAnswers g.F.FnMut))) (ranked l.fn.places).place l.lanes.rank (g.S.Data.stored l.fn.storage) (g.S.Data.stored l.storage) (l.fn.f, []) (l.now, l.items.items)
    × (vec_len l.items ≡ l.lanes.rank)
    × ((ranked l.fn.places).count ≤ vec_capacity l.items)
    × (g.S.DataMut.frame l.storage ≡ g.S.DataMut.frame l.fn.storage)

abbrev pub decreases-loop-lane : goal.decreases-loop-lane
decreases-loop-lane g l = (ranked l.fn.places).count - l.lanes.rank
