-- Capacity to grow along an axis.
use Rattle.std.specs.Prelude.{ℕ, ◌+◌, ◌*◌, ◌<◌, ◌≤◌, List, length}
use Rattle.std.specs.List.{remove}
use Rattle.nd_shape_and_slice.specs.declared.dimension.Dimension as dimension
use Rattle.nd_shape_and_slice.specs.declared.dimension.AxisCount as axis_count
use Rattle.nd_shape_and_slice.specs.declared.dimension.StrideList as stride_list
use Rattle.nd_shape_and_slice.specs.ShapesAndIndexOrders.{size_of, HasCheckedSize}
use Rattle.nd_layout.specs.GrowthAlongAxis.{grown_shape}
use Rattle.nd_elements.specs.declared.storage.Data as data_trait
use Rattle.nd_elements.specs.declared.storage.OwnedRepr.{OwnedRepr}
use Rattle.nd_array_core.specs.declared.base.array.ArrayBase.{ArrayBase}
use Rattle.nd_array_core.specs.ArrayMeaning.{shape_of, storage_of}
use Rattle.nd_elements.specs.BorrowedAndOwnedStorages.{stored_list, room_of}

-- Returns how many elements are added when `axis` of `shape` grows by `additional`: this times the product of the other
-- lengths.
abbrev pub added_elements : List ℕ → ℕ → ℕ → ℕ
added_elements shape axis additional = additional * size_of (remove shape axis)

-- Says that the storage has capacity for `count` more elements.
abbrev pub HasRoomFor : {A : Type 0} → ℕ → OwnedRepr A → Type 0
HasRoomFor count storage = length (stored_list storage) + count ≤ room_of storage

module _ {S D T A R : Type 0} {s : data_trait.Ghosts S A} {d : dimension.Ghosts D R} {n : axis_count.Ghosts D} {r : stride_list.Ghosts R} {t : stride_list.Ghosts T} where
  -- Says that the shape of `a`, with `axis` longer by `additional`, has a checked size.
  abbrev pub CanGrowBy : ℕ → ℕ → ArrayBase S D T A R s d n r t → Type 0
  CanGrowBy axis additional a = HasCheckedSize (grown_shape (shape_of a) axis additional)

  -- Says that growing `axis` of `a` by `additional` adds an element.
  abbrev pub AddsElements : ℕ → ℕ → ArrayBase S D T A R s d n r t → Type 0
  AddsElements axis additional a = 0 < added_elements (shape_of a) axis additional

module _ {D T A R : Type 0} {s : data_trait.Ghosts (OwnedRepr A) A} {d : dimension.Ghosts D R} {n : axis_count.Ghosts D} {r : stride_list.Ghosts R} {t : stride_list.Ghosts T} where
  -- Says that the storage of `a` has capacity to grow along `axis` by `additional`.
  abbrev pub HasRoomAlong : ℕ → ℕ → ArrayBase (OwnedRepr A) D T A R s d n r t → Type 0
  HasRoomAlong axis additional a = HasRoomFor (added_elements (shape_of a) axis additional) (storage_of a)
