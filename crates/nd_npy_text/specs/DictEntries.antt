-- What the values that the code holds while it reads mean, with lists in place of arrays.
use Rattle.std.specs.Prelude.{◌≤◌, ℕ, IsTrue, IfSome, List, length, take}
use Rattle.std.specs.Option.{option_map}
use Rattle.nd_npy_text.specs.declared.length_list.Lengths.{Lengths}
use Rattle.nd_npy_text.specs.declared.dict.Found.{Found}
use Rattle.nd_npy_text.specs.declared.dict.Dict.{Dict}
use Rattle.nd_npy_text.specs.ItemTypes.{has_its_order}
use Rattle.nd_npy_text.specs.HeaderDescription.{Description, described}
use Rattle.nd_npy_text.specs.HeaderReading.{Parts}

-- Returns the lengths as a list.
abbrev pub listed : Lengths → List ℕ
listed l = take l.count l.lengths

-- Returns the values that were found, with the lengths as a list.
abbrev pub entry_parts : Found → Parts
entry_parts found = record { item_type = found.item_type; fortran_order = found.fortran_order; shape_found = option_map listed found.shape }

-- Returns what a dict says, as a description.
abbrev pub dict_of : Dict → Description
dict_of dict = described dict.item_type dict.fortran_order (listed dict.shape)

-- Says that the item type, if there is one, has a byte order that its kind can have, and that the shape, if there is
-- one, has at most 32 axes.
pub record AreSound (p : Parts) : Type 0 where
  pub order_allowed : IfSome p.item_type (λ t. IsTrue (has_its_order t))
  pub axes_allowed : IfSome p.shape_found (λ ns. length ns ≤ 32)
