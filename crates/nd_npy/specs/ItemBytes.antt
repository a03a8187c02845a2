-- What the bytes of items mean: of which kind they are, and the numbers that they are in each byte order.
use Rattle.std.specs.Prelude.{ℕ, zero, suc, ◌*◌, Bool, true, false, not, ◌==◌, List, [], ◌∷◌, take, drop, slice_index}
use Rattle.std.specs.Int.{Width, from_le_bytes, from_be_bytes, to_le_bytes, to_be_bytes}
use Rattle.nd_npy_text.specs.declared.item_type.Kind.{Kind}
use Rattle.nd_npy_text.specs.declared.item_type.Kind.TheVariants as kinds
use Rattle.nd_npy_text.specs.declared.item_type.ByteOrder.{ByteOrder}
use Rattle.nd_npy_text.specs.declared.item_type.ByteOrder.TheVariants.{Little, Big, NotApplicable}

-- Returns a number for each kind, by which two kinds are compared.
abbrev pub kind_number : Kind → ℕ
kind_number kinds.Bool = 0
kind_number kinds.Int8 = 1
kind_number kinds.Int16 = 2
kind_number kinds.Int32 = 3
kind_number kinds.Int64 = 4
kind_number kinds.UInt8 = 5
kind_number kinds.UInt16 = 6
kind_number kinds.UInt32 = 7
kind_number kinds.UInt64 = 8
kind_number kinds.Float16 = 9
kind_number kinds.Float32 = 10
kind_number kinds.Float64 = 11
kind_number kinds.Complex64 = 12
kind_number kinds.Complex128 = 13

-- Says whether the second kind is the first one.
abbrev pub is_kind : Kind → Kind → Bool
is_kind kind other = kind_number other == kind_number kind

-- Returns the unsigned number that the bytes are in a byte order.
abbrev pub number_of_bytes : Width → ByteOrder → List ℕ → ℕ
number_of_bytes w Little bytes = from_le_bytes w bytes
number_of_bytes w Big bytes = from_be_bytes w bytes
number_of_bytes w NotApplicable bytes = from_le_bytes w bytes

-- Returns the bytes of an unsigned number in a byte order.
abbrev pub bytes_of_number : Width → ByteOrder → ℕ → List ℕ
bytes_of_number w Little n = to_le_bytes w n
bytes_of_number w Big n = to_be_bytes w n
bytes_of_number w NotApplicable n = to_le_bytes w n

-- Returns the truth value that a byte is: any byte other than 0 is true.
abbrev pub truth_of : List ℕ → Bool
truth_of bytes = not (slice_index bytes 0 == 0)

-- Returns the byte of a truth value, which is 1 or 0.
abbrev pub byte_of_truth : Bool → List ℕ
byte_of_truth true = 1 ∷ []
byte_of_truth false = 0 ∷ []

-- Returns the bytes of the item of number `k`, counted from 0, where each item takes `size` bytes.
abbrev pub item_at : ℕ → List ℕ → ℕ → List ℕ
item_at size bytes k = take size (drop (k * size) bytes)

-- Returns the values of the first `count` items of `size` bytes each, where `value` gives the value of an item's bytes.
abbrev pub values_in : {A : Type 0} → (List ℕ → A) → ℕ → ℕ → List ℕ → List A
values_in value size zero bytes = []
values_in value size (suc count) bytes = value (take size bytes) ∷ values_in value size count (drop size bytes)
