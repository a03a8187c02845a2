-- The law of files: what was written is read as the same.
use Rattle.std.specs.Prelude.{◌≡◌, ℕ, Bool, false, List, None, All, IsSome, IsTrue, Ok}
use Rattle.nd_shape_and_slice.specs.ShapesAndIndexOrders.{in_box}
use Rattle.nd_elements.specs.ShapeAndElements.{Meaning, row_major_elements}
use Rattle.nd_npy_text.specs.declared.item_type.ItemType.{ItemType}
use Rattle.nd_npy_text.specs.HeaderDescription.{IsWholeHeader, described}
use Rattle.nd_npy.specs.declared.item.NpyItem as npy_item
use Rattle.nd_npy.specs.FileBytesAndArrays.{npy_in, file_of, file_in, listed_elements}

-- Says that `m` is what an array shows: an element at each index of its shape, and none outside.
pub record IsWholeArray {A : Type 0} (m : Meaning A) : Type 0 where
  pub some_inside : (i : List ℕ) → IsTrue (in_box m.shape i) → IsSome (m.at i)
  pub outside : (i : List ℕ) → in_box m.shape i ≡ false → m.at i ≡ None

-- The bytes of the file of an array are read as the array, if its elements are values of their type, if items of this
-- type are read as them, and if the head of the file can be written.
abbrev pub ArraysReadBack : {A : Type 0} → npy_item.Ghosts A → Type 0
ArraysReadBack {A} item =
    (m : Meaning A) (item_type : ItemType) → IsWholeArray m → All item.fits (row_major_elements m) → IsTrue (item.accepts item_type.kind) → IsWholeHeader (described item_type false m.shape)
    → npy_in item (file_of item item_type m) ≡ Ok m

-- So are those of the file that is written in one of the two orders.
abbrev pub ArraysReadBackInOrder : {A : Type 0} → npy_item.Ghosts A → Type 0
ArraysReadBackInOrder {A} item =
    (m : Meaning A) (item_type : ItemType) (fortran_order : Bool) → IsWholeArray m → All item.fits (listed_elements fortran_order m) → IsTrue (item.accepts item_type.kind) → IsWholeHeader (described item_type fortran_order m.shape)
    → npy_in item (file_in item fortran_order item_type m) ≡ Ok m
