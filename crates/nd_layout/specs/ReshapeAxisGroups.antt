-- Groups of axes in the search for the strides of a new shape, which goes from the fastest axis on.
use Rattle.std.specs.Prelude.{ℕ, ◌+◌, ◌-◌, ◌*◌, ◌<◌, ◌≤◌, ◌≡◌, List, ◌∷◌, length, drop, ℤ, pos, ◌*ℤ◌, nat_abs}
use Rattle.nd_shape_and_slice.specs.ShapesAndIndexOrders.{size_of}
use Rattle.nd_shape_and_slice.specs.PlacesAndOverlaps.{span_of}
use Rattle.nd_shape_and_slice.specs.declared.shape_builder.Order.{Order}
use Rattle.nd_layout.specs.declared.reshape.strides_that_serve.Group.{Group}
use Rattle.nd_layout.specs.RanksAndReshapeStrides.{at_rank, fastest_first, Regroups, ServesRanks}

-- Says that no further axis continues the group `g`: where the group is longer than 1, the next axis longer than 1
-- has another stride than the group's length times its step. The lists begin with the fastest axis.
abbrev pub IsClosed : Group → List ℕ → List ℤ → Type 0
IsClosed g ns ss = 1 < g.length → 1 < size_of (drop g.next ns) → ¬ (at_rank (drop g.next ns) (drop g.next ss) 1 ≡ pos g.length *ℤ g.step)

-- Says that an axis of length `m` and stride `t` can be taken off the group `g`, and the group `h` is left. The lists
-- begin with the fastest axis.
abbrev pub TakesLength : List ℕ → List ℤ → Group → ℕ → ℤ → Group → Type 0
TakesLength ns ss g m t h = Regroups (g.length ∷ drop g.next ns) (g.step ∷ drop g.next ss) (m ∷ h.length ∷ drop h.next ns) (t ∷ h.step ∷ drop h.next ss)

-- Says that the axis doesn't continue the group: both are longer than 1, and the axis has another stride than the
-- group's length times its step.
abbrev pub BeginsAnother : Group → ℕ → ℤ → Type 0
BeginsAnother g len stride = (1 < len) × (1 < g.length) × ¬ (stride ≡ pos g.length *ℤ g.step)

-- Says that the group `more` is the group `g` together with the next axis, whatever axes follow.
abbrev pub JoinsNext : Group → ℕ → ℤ → Group → Type 0
JoinsNext g len stride more = (more.next ≡ g.next + 1) × ((ns : List ℕ) (ss : List ℤ) → length ss ≡ length ns → Regroups (g.length ∷ len ∷ ns) (g.step ∷ stride ∷ ss) (more.length ∷ ns) (more.step ∷ ss))

-- Says that an axis of this length and stride, faster than what is left, can be split off the group `g`, and the
-- group `left` is left.
abbrev pub SplitsOff : Group → ℕ → ℤ → Group → Type 0
SplitsOff g len stride left = (stride ≡ g.step) × (g.length ≡ len * left.length) × (1 < left.length → left.step ≡ pos len *ℤ g.step) × (left.next ≡ g.next)

-- Returns the lengths of a group and of the axes after it, fastest first.
abbrev pub lengths_from : Order → List ℕ → Group → List ℕ
lengths_from order ns g = g.length ∷ drop g.next (fastest_first order ns)

-- Returns the strides of a group and of the axes after it, fastest first.
abbrev pub steps_from : Order → List ℤ → Group → List ℤ
steps_from order ss g = g.step ∷ drop g.next (fastest_first order ss)

-- Returns how many indexes a group and the axes after it have together.
abbrev pub size_from : Order → List ℕ → Group → ℕ
size_from order ns g = g.length * size_of (drop g.next (fastest_first order ns))

-- Returns the span of a group and the axes after it.
abbrev pub span_from : Order → List ℕ → List ℤ → Group → ℕ
span_from order ns ss g = (g.length - 1) * nat_abs g.step + span_of (drop g.next (fastest_first order ns)) (drop g.next (fastest_first order ss))

-- Says that the group `g` with the axes after it is a regrouping of all axes from the position `from` on, fastest
-- first.
abbrev pub IsGroupFrom : Order → List ℕ → List ℤ → ℕ → Group → Type 0
IsGroupFrom order ns ss from g = Regroups (drop from (fastest_first order ns)) (drop from (fastest_first order ss)) (lengths_from order ns g) (steps_from order ss g)

-- Says that the group `h` with the axes after it is a regrouping of the group `g` with the axes after it.
abbrev pub RegroupsRest : Order → List ℕ → List ℤ → Group → Group → Type 0
RegroupsRest order ns ss g h = Regroups (lengths_from order ns g) (steps_from order ss g) (lengths_from order ns h) (steps_from order ss h)

-- Says that over the group and the axes after it no strides serve a shape that has as many indexes and whose fastest
-- axis has the length `len`.
abbrev pub NoneServes : Order → List ℕ → List ℤ → Group → ℕ → Type 0
NoneServes order ns ss g len = (ms : List ℕ) (ts : List ℤ) → len * size_of ms ≡ size_from order ns g → ¬ (ServesRanks (lengths_from order ns g) (steps_from order ss g) (len ∷ ms) ts)

-- Says that an axis of this length and stride is taken off the group `g`, that the group `left` is left and closed,
-- and that its next axis is at most one past the last.
abbrev pub IsTakenOff : Order → List ℕ → List ℤ → Group → ℕ → ℤ → Group → Type 0
IsTakenOff order ns ss g len stride left = TakesLength (fastest_first order ns) (fastest_first order ss) g len stride left × (left.next ≤ length ns) × IsClosed left (fastest_first order ns) (fastest_first order ss)
