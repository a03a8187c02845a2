-- What a new array is: it has elements of its own, in an order from the place 0 on.
use Rattle.std.specs.Prelude.{◌≡◌, ℕ, nat_eq, List, [], ◌∷◌, length, Option, None, Some, if◌then◌else◌, IsTrue}
use Rattle.nd_shape_and_slice.specs.ShapesAndIndexOrders.{in_box, size_of}
use Rattle.nd_shape_and_slice.specs.declared.dimension.Dimension as dimension
use Rattle.nd_shape_and_slice.specs.declared.dimension.AxisCount as axis_count
use Rattle.nd_shape_and_slice.specs.declared.dimension.StrideList as stride_list
use Rattle.nd_shape_and_slice.specs.declared.shape_builder.ShapeBuilder as shape_builder
use Rattle.nd_layout.specs.GivenStrides.{ordered_strides}
use Rattle.nd_elements.specs.declared.storage.Data as data_trait
use Rattle.nd_elements.specs.declared.storage.OwnedRepr.{OwnedRepr}
use Rattle.nd_array_core.specs.declared.base.array.ArrayBase.{ArrayBase}
use Rattle.nd_array_core.specs.ArrayMeaning.{shape_of, element_at, storage_of, layout_strides, layout_offset}
use Rattle.nd_elements.specs.ShapeAndElements.{inside}
use Rattle.nd_elements.specs.BorrowedAndOwnedStorages.{stored_list, room_of}
pub use Rattle.nd_elements.specs.EqualClones.{ClonesAreEqual, EachCloneIsEqual, ClonesOfAllAreEqual, StoredClonesAreEqual}
pub use Rattle.nd_elements.specs.ElementsByRank.{BuiltShape, found_by_rank}

-- Returns the lengths and the order that a constructor's argument `shape` stands for.
abbrev pub built_by : {S D R : Type 0} → shape_builder.Ghosts S D R → S → BuiltShape
built_by g shape = (g.builds_lengths shape, g.builds_order shape)

-- Says that nothing but `x` has the property `is_such`.
abbrev pub IsOnly : {A : Type 0} → (A → Type 0) → A → Type 0
IsOnly {A} is_such x = (y : A) → is_such y → y ≡ x

-- Returns what a matrix shows at an index: on the diagonal what `at` gives for the coordinate, and `other` everywhere
-- else. It returns None for an index without two coordinates.
abbrev pub on_diagonal : {A : Type 0} → (ℕ → Option A) → A → List ℕ → Option A
on_diagonal at other [] = None
on_diagonal at other (i ∷ []) = None
on_diagonal at other (i ∷ j ∷ []) = if nat_eq i j then at i else Some other
on_diagonal at other (i ∷ j ∷ k ∷ ks) = None

module _ {D T A R : Type 0} {s : data_trait.Ghosts (OwnedRepr A) A} {d : dimension.Ghosts D R} {n : axis_count.Ghosts D} {r : stride_list.Ghosts R} {t : stride_list.Ghosts T} where
  -- Says that the array has the shape and the order of `built` and owns as many elements as the shape has indexes, from
  -- the place 0 on: the element at each index is the one at the index's rank in the order.
  abbrev pub OwnsInOrder : BuiltShape → ArrayBase (OwnedRepr A) D T A R s d n r t → Type 0
  OwnsInOrder built a =
      (shape_of a ≡ built.0)
      × (layout_strides a ≡ ordered_strides built.1 built.0)
      × (layout_offset a ≡ 0)
      × (length (stored_list (storage_of a)) ≡ size_of built.0)
      × ((i : List ℕ) → element_at a i ≡ found_by_rank built (stored_list (storage_of a)) i)

  -- Says that the array stores the elements `items`, with the capacity `room`.
  abbrev pub OwnsVec : List A → ℕ → ArrayBase (OwnedRepr A) D T A R s d n r t → Type 0
  OwnsVec items room a = (stored_list (storage_of a) ≡ items) × (room_of (storage_of a) ≡ room)

  -- Says that the element at each index of the shape is `x`.
  abbrev pub ShowsOneValue : BuiltShape → A → ArrayBase (OwnedRepr A) D T A R s d n r t → Type 0
  ShowsOneValue built x a = (i : List ℕ) → element_at a i ≡ inside built.0 i (Some x)

  -- Says that the element at each index of the shape is what the function `value` gives of the index.
  abbrev pub ShowsValues : BuiltShape → (List ℕ → A) → ArrayBase (OwnedRepr A) D T A R s d n r t → Type 0
  ShowsValues built value a = (i : List ℕ) → element_at a i ≡ inside built.0 i (Some (value i))

  -- Says that the element at each index of the shape has the property `is_such`.
  abbrev pub ShowsSuch : BuiltShape → (A → Type 0) → ArrayBase (OwnedRepr A) D T A R s d n r t → Type 0
  ShowsSuch built is_such a = (i : List ℕ) → IsTrue (in_box built.0 i) → (x : A) × (element_at a i ≡ Some x) × is_such x

  -- Says that the array is a matrix of `count` rows and `count` columns that shows the values of `at` on the diagonal,
  -- and `other` everywhere else.
  abbrev pub ShowsOnDiagonal : ℕ → (ℕ → Option A) → A → ArrayBase (OwnedRepr A) D T A R s d n r t → Type 0
  ShowsOnDiagonal count at other a = (i : List ℕ) → element_at a i ≡ inside (count ∷ count ∷ []) i (on_diagonal at other i)
