-- The places of a layout in row-major order of its indexes, one by one or by lanes.
use Rattle.std.specs.Prelude.{◌∷◌, ◌⊎◌, Bool, true, ℕ, ◌+◌, ◌-◌, ◌*◌, ◌/◌, ◌%◌, ◌<◌, ◌≤◌, ◌≡◌, List, Option, MatchOption, length, take, slice_index, slice_index_or, drop, ℤ, pos, ◌+ℤ◌, ◌-ℤ◌, ◌*ℤ◌, IsTrue}
use Rattle.nd_shape_and_slice.specs.ShapesAndIndexOrders.{in_box, size_of, row_rank, index_at}
use Rattle.nd_shape_and_slice.specs.PlacesAndOverlaps.{place_of, displacement_of, span_of}
use Rattle.nd_layout.specs.ValidMemoryPlaces.{ReachesUsizes}

-- Returns the place of the index of this row-major rank.
abbrev pub place_at_rank : ℕ → List ℕ → List ℤ → ℕ → ℤ
place_at_rank offset lengths strides rank = place_of offset strides (index_at lengths rank)

-- Says that `found` is the place of the index of this row-major rank, or None if all ranks are passed.
abbrev pub IsPlaceAtRank : ℕ → List ℕ → List ℤ → ℕ → Option ℕ → Type 0
IsPlaceAtRank offset lengths strides rank found = MatchOption found (rank ≡ size_of lengths) (λ place. (rank < size_of lengths) × (pos place ≡ place_at_rank offset lengths strides rank))

-- Says that `count` and `stride` are the length and the stride of the last axis, and 1 and 1 if there is no axis.
abbrev pub IsLastAxis : List ℕ → List ℤ → ℕ → ℤ → Type 0
IsLastAxis lengths strides count stride = (count ≡ slice_index_or lengths (length lengths - 1) 1) × (stride ≡ slice_index_or strides (length strides - 1) (pos 1))

-- Says that the first coordinates of the list, one for each axis, are the index of this rank, and that it lies at
-- `place`.
pub record StandsAt (offset : ℕ) (lengths : List ℕ) (strides : List ℤ) (rank place : ℕ) (index : List ℕ) : Type 0 where
  pub inside : IsTrue (in_box lengths (take (length lengths) index))
  pub ranked : row_rank lengths (take (length lengths) index) ≡ rank
  pub lies : pos place ≡ place_of offset strides (take (length lengths) index)

-- Says that `place` is the index's place from some first place, from which each index of the shape lies at a number
-- that a `usize` holds.
abbrev pub IsOnItsWay : List ℕ → List ℤ → List ℕ → ℕ → Type 0
IsOnItsWay lengths strides index place = (first : ℕ) × ReachesUsizes first lengths strides × (pos place ≡ place_of first strides index)

-- Says that this axis is the one that advances when the index goes on to the next: it isn't at its last coordinate,
-- and all axes after it are.
abbrev pub Advances : List ℕ → List ℕ → ℕ → Type 0
Advances lengths index axis = (axis < length lengths) × (slice_index index axis + 1 < slice_index lengths axis) × ((k : ℕ) → axis < k → k < length lengths → slice_index index k + 1 ≡ slice_index lengths k)

-- Says that the place has moved on to `next` by the stride of the axis that advances, and back by what the axes after
-- it had gone.
abbrev pub IsMovedOn : List ℕ → List ℤ → List ℕ → ℕ → ℕ → Type 0
IsMovedOn lengths strides index place next =
    (axis : ℕ) × Advances lengths index axis × (pos next ≡ (pos place +ℤ slice_index_or strides axis (pos 0)) -ℤ displacement_of (drop (axis + 1) strides) (drop (axis + 1) index))

-- Says that another index comes after the index.
abbrev pub HasNext : List ℕ → List ℕ → Type 0
HasNext lengths index = row_rank lengths index + 1 < size_of lengths

-- Says that `next` has the rank after that of `index`, if there is another index.
abbrev pub RanksNext : List ℕ → List ℕ → List ℕ → Type 0
RanksNext lengths index next = HasNext lengths index → row_rank lengths next ≡ row_rank lengths index + 1

-- Says that the place has moved on to `next`, that of the next index, if there is another index.
abbrev pub MovesToNext : List ℕ → List ℤ → List ℕ → ℕ → ℕ → Type 0
MovesToNext lengths strides index place next = HasNext lengths index → IsMovedOn lengths strides index place next

-- Says that `new_place` is the place of `new_index` from every first place from which `place` is that of `index`.
abbrev pub KeepsWay : List ℤ → List ℕ → ℕ → List ℕ → ℕ → Type 0
KeepsWay strides index place new_index new_place = (first : ℕ) → pos place ≡ place_of first strides index → pos new_place ≡ place_of first strides new_index

-- Returns the first coordinates of a longer list, one for each axis of the shape.
abbrev pub front_of : List ℕ → List ℕ → List ℕ
front_of lengths index = take (length lengths) index

-- Says that a lane has the places of `count` ranks from `rank` on: the first lies at `place`, and each next one a
-- stride further. There is at least one, and all of them are ranks of the shape.
pub record IsLane (offset : ℕ) (lengths : List ℕ) (strides : List ℤ) (rank place count : ℕ) (stride : ℤ) : Type 0 where
  pub some : 0 < count
  pub within : rank + count ≤ size_of lengths
  pub places : (k : ℕ) → k < count → pos place +ℤ (pos k *ℤ stride) ≡ place_at_rank offset lengths strides (rank + k)

-- Says that a layout is cut in lanes, each of `count` places that lie a stride apart. The lane at the outer index of
-- rank r begins at its place in the outer layout and has the ranks from r times the count on.
pub record IsCutInLanes (offset : ℕ) (lengths : List ℕ) (strides : List ℤ) (outer_offset : ℕ) (outer_lengths : List ℕ) (outer_strides : List ℤ) (count : ℕ) (stride : ℤ) : Type 0 where
  pub size : size_of outer_lengths * count ≡ size_of lengths
  pub places : (rank k : ℕ) → rank < size_of outer_lengths → k < count → place_at_rank outer_offset outer_lengths outer_strides rank +ℤ (pos k *ℤ stride) ≡ place_at_rank offset lengths strides (rank * count + k)

-- Says that the second layout has the places of the first, each as often, in an order of its own: its ranks and the
-- indexes of the first name each other, and where they do, the places are the same.
pub record IsRearranged (offset : ℕ) (lengths : List ℕ) (strides : List ℤ) (new_offset : ℕ) (new_lengths : List ℕ) (new_strides : List ℤ) : Type 0 where
  pub index_of : ℕ → List ℕ
  pub rank_of : List ℕ → ℕ
  pub within : (rank : ℕ) → rank < size_of new_lengths → IsTrue (in_box lengths (index_of rank))
  pub below : (i : List ℕ) → IsTrue (in_box lengths i) → rank_of i < size_of new_lengths
  pub there : (rank : ℕ) → rank < size_of new_lengths → rank_of (index_of rank) ≡ rank
  pub back : (i : List ℕ) → IsTrue (in_box lengths i) → index_of (rank_of i) ≡ i
  pub same : (rank : ℕ) → rank < size_of new_lengths → place_at_rank new_offset new_lengths new_strides rank ≡ place_of offset strides (index_of rank)

-- Says that the second lengths and strides give the same displacements in the same row-major order, and have the same
-- span.
pub record IsRejoined (lengths : List ℕ) (strides : List ℤ) (new_lengths : List ℕ) (new_strides : List ℤ) : Type 0 where
  pub size : size_of new_lengths ≡ size_of lengths
  pub same : (rank : ℕ) → rank < size_of lengths → displacement_of new_strides (index_at new_lengths rank) ≡ displacement_of strides (index_at lengths rank)
  pub span : span_of new_lengths new_strides ≡ span_of lengths strides

-- Says what becomes of an axis of length `n` and stride `s` before one of length `m` and stride `t`, which stands at
-- `at`: both are joined into one axis at `at` with the length `len` and the stride `stride`, or the first is an axis
-- of its own before it.
abbrev pub IsJoint : ℕ → ℤ → ℕ → ℕ → ℤ → ℕ → ℕ → ℤ → Type 0
IsJoint n s at m t new_at len stride =
    ((new_at ≡ at) × ((ns : List ℕ) (ss : List ℤ) → 0 < size_of (n ∷ m ∷ ns) → IsRejoined (n ∷ m ∷ ns) (s ∷ t ∷ ss) (len ∷ ns) (stride ∷ ss)))
    ⊎ ((new_at + 1 ≡ at) × (len ≡ n) × (stride ≡ s))

-- Says that the last axis has the length `count` and stride 1, and that all other axes have length 1.
pub record IsOneLane (count : ℕ) (lengths : List ℕ) (strides : List ℤ) : Type 0 where
  pub long : slice_index_or lengths (length lengths - 1) 1 ≡ count
  pub by_one : slice_index_or strides (length strides - 1) (pos 1) ≡ pos 1
  pub ones : (k : ℕ) → k + 1 < length lengths → slice_index lengths k ≡ 1

-- Says that an axis of length `len` and stride `outer` before an axis of length `count` and stride `inner` is one axis
-- with it, whose stride is `stride`: each rank has the same displacement. With `within` this is said of the ranks of
-- the two axes alone, otherwise of every number.
abbrev pub StepsThrough : Bool → ℕ → ℤ → ℕ → ℤ → ℤ → Type 0
StepsThrough within len outer count inner stride = (r : ℕ) → (within ≡ true → r < count * len) → (pos (r / count) *ℤ outer) +ℤ (pos (r % count) *ℤ inner) ≡ pos r *ℤ stride
