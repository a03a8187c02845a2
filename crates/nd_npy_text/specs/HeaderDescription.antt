-- What a head says, and what its version means.
use Rattle.std.specs.Prelude.{◌≤◌, ◌+◌, ◌*◌, ◌^◌, ℕ, zero, suc, Bool, true, false, nat_lt, IsTrue, List, [], ◌∷◌, length}
use Rattle.nd_npy_text.specs.declared.item_type.ItemType.{ItemType}
use Rattle.nd_npy_text.specs.declared.header.Header.{Header}
use Rattle.nd_npy_text.specs.declared.header.Version.{Version}
use Rattle.nd_npy_text.specs.declared.header.Version.TheVariants.{One, Two, Three}
use Rattle.nd_npy_text.specs.ItemTypes.{kind_size, has_its_order}

-- A description is what a head says: the item type, whether the order is Fortran's, and the lengths as a list.
pub record Description : Type 0 where
  pub item_type : ItemType
  pub fortran_order : Bool
  pub array_shape : List ℕ

abbrev pub description_of : Header → Description
description_of header = record { item_type = header.item_type; fortran_order = header.fortran_order; array_shape = header.shape.items }

-- Returns the description of an item type, an order and a shape.
abbrev pub described : ItemType → Bool → List ℕ → Description
described item order shape = record { item_type = item; fortran_order = order; array_shape = shape }

-- Returns the factor that a length gives to a product: the length itself, but 1 for a length of 0.
abbrev pub factor_of : ℕ → ℕ
factor_of zero = 1
factor_of (suc n) = suc n

-- Returns the product of the lengths that aren't 0.
abbrev pub product_without_zeros : List ℕ → ℕ
product_without_zeros [] = 1
product_without_zeros (n ∷ ns) = factor_of n * product_without_zeros ns

-- Says whether the product of the lengths that aren't 0, times the `size` bytes of an element, is at most `isize::MAX`.
abbrev pub fits_memory : ℕ → List ℕ → Bool
fits_memory size shape = nat_lt (size * product_without_zeros shape) (2 ^ 63)

-- Says that a head with this description can be written and read: the byte order is one that the kind can have, there
-- are at most 32 axes, and the elements fit in memory.
pub record IsWholeHeader (d : Description) : Type 0 where
  pub order_allowed : IsTrue (has_its_order d.item_type)
  pub axes_allowed : length d.array_shape ≤ 32
  pub size_allowed : IsTrue (fits_memory (kind_size d.item_type.kind) d.array_shape)

-- Says whether the length of the dict takes four bytes in a version, and not two.
abbrev pub is_wide : Version → Bool
is_wide One = false
is_wide Two = true
is_wide Three = true

-- Returns how many bytes the length of the dict takes: four if the version is wide, two otherwise.
abbrev pub size_width : Bool → ℕ
size_width true = 4
size_width false = 2

-- Returns at which byte the dict begins: after the magic bytes, the version and the length of the dict.
abbrev pub text_start : Version → ℕ
text_start version = 8 + size_width (is_wide version)
