-- The bytes in which a head is written, as numpy 1.24 writes it.
use Rattle.std.specs.Prelude.{ℕ, ◌+◌, ◌-◌, ◌/◌, ◌%◌, Bool, true, false, ◌==◌, List, [], ◌∷◌, ◌++◌, length, replicate, slice_index, codes, if◌then◌else◌}
use Rattle.std.specs.List.{flat_map}
use Rattle.std.specs.Fmt.{decimal}
use Rattle.nd_npy_text.specs.ItemTypes.{item_type_text}
use Rattle.nd_npy_text.specs.HeaderDescription.{Description}
use Rattle.nd_npy_text.specs.HeaderReading.{magic}

abbrev pub python_truth_text : Bool → List ℕ
python_truth_text true = codes "True"
python_truth_text false = codes "False"

-- Returns how a length after the first is written: a comma, a space and the length.
abbrev pub next_length : ℕ → List ℕ
next_length n = codes ", " ++ decimal n

-- Returns what ends a shape after its first length and these others: with a comma if there are no others.
abbrev pub tuple_end : List ℕ → List ℕ
tuple_end [] = codes ",)"
tuple_end (n ∷ ns) = codes ")"

-- Returns how a shape is written: its lengths in parentheses, with a comma after the length if there is only one.
abbrev pub tuple_text : List ℕ → List ℕ
tuple_text [] = codes "()"
tuple_text (n ∷ ns) = codes "(" ++ (decimal n ++ (flat_map next_length ns ++ tuple_end ns))

abbrev pub dict_text : Description → List ℕ
dict_text d = codes "{'descr': '" ++ (item_type_text d.item_type ++ (codes "', 'fortran_order': " ++ (python_truth_text d.fortran_order ++ (codes ", 'shape': " ++ (tuple_text d.array_shape ++ codes ", }")))))

-- Returns what stands in a dict between the item type and the shape.
abbrev pub order_text : Bool → List ℕ
order_text order = codes "', 'fortran_order': " ++ (python_truth_text order ++ codes ", 'shape': ")

-- Returns the length of the axis along which an array can grow, which is the one that runs slowest: the last axis in
-- Fortran's order (`order` is `true`), the first otherwise.
abbrev pub growing_length : Bool → List ℕ → ℕ
growing_length order shape = if order then slice_index shape (length shape - 1) else slice_index shape 0

-- Returns how many spaces leave room for the length of the growing axis to have 21 digits; none if there is no axis.
abbrev pub growth_room : Bool → List ℕ → ℕ
growth_room order shape = if length shape == 0 then 0 else 21 - length (decimal (growing_length order shape))

abbrev pub spaces : ℕ → List ℕ
spaces count = replicate count 32

-- Returns how many spaces, from 1 to 64, follow a dict of `size` bytes: after them and a line feed the elements begin
-- at a multiple of 64.
abbrev pub padding : ℕ → ℕ
padding size = 64 - (11 + size) % 64

-- Returns the dict, and after it the spaces that leave room for a length to grow.
abbrev pub roomy_text : Description → List ℕ
roomy_text d = dict_text d ++ spaces (growth_room d.fortran_order d.array_shape)

-- Returns the text of a dict with the spaces and the line feed that end the head.
abbrev pub padded : List ℕ → List ℕ
padded text = text ++ (spaces (padding (length text)) ++ codes "\n")

-- Returns what stands in front of the dict: the magic bytes, the version 1.0, and `size`, the length of what follows,
-- in two bytes.
abbrev pub front_text : ℕ → List ℕ
front_text size = magic ++ (1 ∷ 0 ∷ size % 256 ∷ size / 256 ∷ [])

abbrev pub with_front : List ℕ → List ℕ
with_front body = front_text (length body) ++ body

-- Returns the bytes of the head that is written for a description.
unfoldable pub npy_header_text : Description → List ℕ
npy_header_text d = with_front (padded (roomy_text d))
