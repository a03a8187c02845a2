-- Owned elements that lie so that more can follow along an axis.
use Rattle.std.specs.Prelude.{ℕ, ◌+◌, ◌≤◌, ◌≡◌, false, List, length, slice_get, ℤ, IsTrue}
use Rattle.nd_shape_and_slice.specs.ShapesAndIndexOrders.{size_of, in_box}
use Rattle.nd_shape_and_slice.specs.PlacesAndOverlaps.{place_of}
use Rattle.nd_shape_and_slice.specs.declared.dimension.Dimension as dimension
use Rattle.nd_shape_and_slice.specs.declared.dimension.AxisCount as axis_count
use Rattle.nd_shape_and_slice.specs.declared.dimension.StrideList as stride_list
use Rattle.nd_layout.specs.GrowthAlongAxis.{growing_strides, must_move}
use Rattle.nd_layout.specs.declared.layout.Layout.{Layout}
use Rattle.nd_elements.specs.StoragePlaces.{stored_at}
use Rattle.nd_elements.specs.declared.storage.OwnedRepr.{OwnedRepr}
use Rattle.nd_elements.specs.BorrowedAndOwnedStorages.{stored_list, room_of}

-- Says that the storage lies from place 0 on as fresh storage that is to grow along the axis: with the strides for
-- that, as many elements as the shape has indexes, room for `more` others, and none that must move for them.
abbrev pub IsLaidToGrow : {A : Type 0} → ℕ → ℕ → List ℕ → ℕ → List ℤ → OwnedRepr A → Type 0
IsLaidToGrow axis more shape offset strides storage =
    (offset ≡ 0)
    × (strides ≡ growing_strides axis shape)
    × (length (stored_list storage) ≡ size_of shape)
    × (size_of shape + more ≤ room_of storage)
    × (must_move shape strides axis ≡ false)

module _ {A D T R : Type 0} {d : dimension.Ghosts D R} {n : axis_count.Ghosts D} {r : stride_list.Ghosts R} {t : stride_list.Ghosts T} where
  -- Says that under the layout `new`, with the lengths of `old`, the storage lies as fresh storage that is to grow
  -- along the axis, with room for `more` other elements.
  abbrev pub AreElementsRelaidOut : ℕ → ℕ → Layout D T R d n r t → Layout D T R d n r t → OwnedRepr A → Type 0
  AreElementsRelaidOut axis more old new storage = IsLaidToGrow axis more (d.lengths old.dim) new.offset (t.strides_of new.strides) storage

  -- Says that each index has under the layout `to` in `new` the element that it has under the layout `from` in `old`.
  abbrev pub ShowsAlike : OwnedRepr A → Layout D T R d n r t → OwnedRepr A → Layout D T R d n r t → Type 0
  ShowsAlike old from new to =
      (i : List ℕ) → IsTrue (in_box (d.lengths from.dim) i)
      → stored_at (slice_get (stored_list new)) (place_of to.offset (t.strides_of to.strides) i) ≡ stored_at (slice_get (stored_list old)) (place_of from.offset (t.strides_of from.strides) i)
