-- What array the bytes of a file mean, and the bytes of the file that is written for an array.
use Rattle.std.specs.Prelude.{◌≡◌, ◌*◌, ◌==◌, ◌⊎◌, ℕ, Bool, true, false, List, ◌++◌, length, drop, reverse, Some, Result, Ok, Err, if◌then◌else◌, IsOk}
use Rattle.std.specs.List.{flat_map}
use Rattle.nd_shape_and_slice.specs.ShapesAndIndexOrders.{size_of, row_rank, column_rank}
use Rattle.nd_elements.specs.ShapeAndElements.{Meaning, inside, row_major_elements}
use Rattle.nd_array_core.specs.ArrayMeaning.{meaning_through}
use Rattle.nd_npy_text.specs.declared.errors.HeaderError.{HeaderError}
use Rattle.nd_npy_text.specs.declared.item_type.Kind.{Kind}
use Rattle.nd_npy_text.specs.declared.item_type.ByteOrder.{ByteOrder}
use Rattle.nd_npy_text.specs.declared.item_type.ByteOrder.TheVariants.{Little, NotApplicable}
use Rattle.nd_npy_text.specs.declared.item_type.ItemType.{ItemType}
use Rattle.nd_npy_text.specs.ItemTypes.{kind_size}
use Rattle.nd_npy_text.specs.HeaderDescription.{Description, described}
use Rattle.nd_npy_text.specs.HeaderTokens.{◌>>=◌}
use Rattle.nd_npy_text.specs.HeaderReading.{npy_header_in, HasLengths}
use Rattle.nd_npy_text.specs.HeaderWriting.{npy_header_text}
use Rattle.nd_npy.specs.ItemBytes.{item_at}
use Rattle.nd_npy.specs.declared.item.NpyItem as npy_item
use Rattle.nd_npy.specs.declared.errors.ReadNpyError.{ReadNpyError}
use Rattle.nd_npy.specs.declared.errors.ReadNpyError.TheVariants.{Header, OtherKind, WrongSize, Memory}

-- ---- the array of a file

-- Returns at which number the element of an index stands among the items: at its column-major rank in Fortran's order,
-- where the first axis runs fastest, and otherwise at its row-major rank.
abbrev pub item_number : Bool → List ℕ → List ℕ → ℕ
item_number true shape i = column_rank shape i
item_number false shape i = row_rank shape i

-- Returns the array with its axes in the opposite order.
abbrev pub axes_reversed : {A : Type 0} → Meaning A → Meaning A
axes_reversed m = meaning_through (reverse m.shape) reverse m

-- Returns the elements in the order in which a file lists them: in column-major order in Fortran's order, and otherwise
-- in row-major order.
abbrev pub listed_elements : {A : Type 0} → Bool → Meaning A → List A
listed_elements true m = row_major_elements (axes_reversed m)
listed_elements false m = row_major_elements m

-- Returns how many bytes the elements take.
abbrev pub data_size : Description → ℕ
data_size d = size_of d.array_shape * kind_size d.item_type.kind

-- Returns what the head says, or its error as an error of reading a file.
abbrev pub or_header_error : {X : Type 0} → Result X HeaderError → Result X ReadNpyError
or_header_error (Ok x) = Ok x
or_header_error (Err error) = Err (Header error)

-- Returns the bytes of the elements, or the error `WrongSize` if they aren't as many as the elements take.
abbrev pub unless_wrong_size : Description → List ℕ → Result (List ℕ) ReadNpyError
unless_wrong_size d bytes = if length bytes == data_size d then Ok bytes else Err (WrongSize (data_size d) (length bytes))

module _ {A : Type 0} (item : npy_item.Ghosts A) where
  -- Returns the description, or the error `OtherKind` if its kind isn't read as this type of elements.
  abbrev pub unless_other_kind : Description → Result Description ReadNpyError
  unless_other_kind d = if item.accepts d.item_type.kind then Ok d else Err (OtherKind d.item_type.kind)

  -- Returns the array of a description and of the bytes of its elements.
  abbrev pub array_of_items : Description → List ℕ → Meaning A
  array_of_items d bytes = record {
    shape = d.array_shape;
    at = λ i. inside d.array_shape i (Some (item.value_of d.item_type.order (item_at (kind_size d.item_type.kind) bytes (item_number d.fortran_order d.array_shape i))));
  }

  -- Returns the array that the bytes behind a head mean, or the first error: `OtherKind` or `WrongSize`.
  unfoldable pub array_after_head : Description → List ℕ → Result (Meaning A) ReadNpyError
  array_after_head d bytes = unless_other_kind d >>= λ own. unless_wrong_size own bytes >>= λ whole. Ok (array_of_items own whole)

  -- Returns the array that the bytes of a file mean, or the first error: of the head, `OtherKind` or `WrongSize`.
  unfoldable pub npy_in : List ℕ → Result (Meaning A) ReadNpyError
  npy_in bytes = or_header_error (npy_header_in bytes) >>= λ head. array_after_head head.0 (drop head.1 bytes)

  -- ---- the file of an array

  -- Returns the bytes of the elements in row-major order, one after another.
  abbrev pub data_of : ByteOrder → Meaning A → List ℕ
  data_of order m = flat_map (item.bytes_of order) (row_major_elements m)

  -- Returns the bytes of the file of an array with elements of this type: its head, and its elements in row-major order.
  unfoldable pub file_of : ItemType → Meaning A → List ℕ
  file_of item_type m = npy_header_text (described item_type false m.shape) ++ data_of item_type.order m

  -- Returns the bytes of the file of an array with elements of this type, in Fortran's order if the flag is true and
  -- otherwise in row-major order.
  unfoldable pub file_in : Bool → ItemType → Meaning A → List ℕ
  file_in fortran_order item_type m =
      npy_header_text (described item_type fortran_order m.shape) ++ flat_map (item.bytes_of item_type.order) (listed_elements fortran_order m)

-- Returns the type of items of a kind that are written: with the least significant byte first.
abbrev pub little_items : Kind → ItemType
little_items kind = record { kind = kind; order = if kind_size kind == 1 then NotApplicable else Little }

-- ---- what the reader gives

-- Says that a reader may fail with this error where the bytes mean `meant`: with `Memory` always, and with another
-- error only if `meant` is that error.
abbrev pub IsNpyCause : {Y : Type 0} → ReadNpyError → Result Y ReadNpyError → Type 0
IsNpyCause Memory meant = Unit {0}
IsNpyCause (Header error) meant = meant ≡ Err (Header error)
IsNpyCause (OtherKind kind) meant = meant ≡ Err (OtherKind kind)
IsNpyCause (WrongSize expected found) meant = meant ≡ Err (WrongSize expected found)

-- Says that a reader's result is what the bytes mean: `meant` is `view` of the value that the reader returns, or the
-- reader may fail with its error (`IsNpyCause`).
abbrev pub ReadsNpyAs : {X Y : Type 0} → (X → Y) → Result X ReadNpyError → Result Y ReadNpyError → Type 0
ReadsNpyAs view (Ok x) meant = meant ≡ Ok (view x)
ReadsNpyAs view (Err error) meant = IsNpyCause error meant

-- Says that memory may run out: for the lengths of a head with an axis, or for the elements of an array.
abbrev pub MayLackForArray : {A : Type 0} → npy_item.Ghosts A → List ℕ → Type 0
MayLackForArray item bytes = HasLengths bytes ⊎ IsOk (npy_in item bytes)
