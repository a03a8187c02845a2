use Rattle.nd_array_core.proofs.NamesFromOtherCrates.{◌≡◌, ◌<◌, length, take}
use Rattle.nd_array_core.specs.ArrayMeaning.{meaning_of, shape_of}
use Rattle.nd_array_core.specs.growth.StorageOfAppend.{BecomesReady, GoesOn, IsReadyAlong, KeepsRoom, LeavesRoom, NeedsNoMove}
use Rattle.nd_array_core.specs.growth.AppendEach.{joined_in_turn, lengths_along, meanings_of, IsGrownInTurn}
use Rattle.nd_array_core.proofs.growth_lemmas.JoinedInTurn.{FirstFit}
use Rattle.nd_array_core.proofs.growth.append_each.Array+A+D.append_each.Given as goal

abbrev pub invariant-loop-nth : goal.invariant-loop-nth
invariant-loop-nth g l =
    (0 < length (shape_of l.self) → l.axis.0 < length (shape_of l.self))
    × (meaning_of l.self ≡ joined_in_turn l.axis.0 (meaning_of l.fn.self) (take l.nth (meanings_of l.arrays)))
    × (IsReadyAlong l.axis.0 l.fn.self → GoesOn l.axis.0 l.fn.self l.self)
    × KeepsRoom l.axis.0 (lengths_along l.axis.0 (meanings_of l.arrays)) l.fn.self l.self
    × (IsReadyAlong l.axis.0 l.fn.self → LeavesRoom l.axis.0 (lengths_along l.axis.0 (take l.nth (meanings_of l.arrays))) l.fn.self l.self)
    × (NeedsNoMove l.axis.0 l.fn.self → NeedsNoMove l.axis.0 l.self)
    × BecomesReady l.axis.0 (lengths_along l.axis.0 (take l.nth (meanings_of l.arrays))) l.fn.self l.self
    × IsGrownInTurn l.axis.0 (take l.nth (meanings_of l.arrays)) l.fn.self l.self
    × FirstFit l.nth l.axis.0 (shape_of l.fn.self) (meanings_of l.arrays)
    × (l.nth ≡ 0 → l.self ≡ l.fn.self)
