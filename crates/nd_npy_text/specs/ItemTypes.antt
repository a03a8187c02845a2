-- The types of elements: how large each is, and how numpy writes it.
use Rattle.std.specs.Prelude.{ℕ, Bool, not, ◌==◌, List, ◌∷◌, Option, None, Some, codes, if◌then◌else◌}
use Rattle.nd_npy_text.specs.declared.item_type.Kind.{Kind}
use Rattle.nd_npy_text.specs.declared.item_type.Kind.TheVariants as kinds
use Rattle.nd_npy_text.specs.declared.item_type.ByteOrder.{ByteOrder}
use Rattle.nd_npy_text.specs.declared.item_type.ByteOrder.TheVariants.{Little, Big, NotApplicable}
use Rattle.nd_npy_text.specs.declared.item_type.ItemType.{ItemType}

-- Returns how many bytes an element takes.
abbrev pub kind_size : Kind → ℕ
kind_size kinds.Bool = 1
kind_size kinds.Int8 = 1
kind_size kinds.Int16 = 2
kind_size kinds.Int32 = 4
kind_size kinds.Int64 = 8
kind_size kinds.UInt8 = 1
kind_size kinds.UInt16 = 2
kind_size kinds.UInt32 = 4
kind_size kinds.UInt64 = 8
kind_size kinds.Float16 = 2
kind_size kinds.Float32 = 4
kind_size kinds.Float64 = 8
kind_size kinds.Complex64 = 8
kind_size kinds.Complex128 = 16

-- Returns how numpy writes a kind: a letter and how many bytes an element takes.
abbrev pub kind_code : Kind → List ℕ
kind_code kinds.Bool = codes "b1"
kind_code kinds.Int8 = codes "i1"
kind_code kinds.Int16 = codes "i2"
kind_code kinds.Int32 = codes "i4"
kind_code kinds.Int64 = codes "i8"
kind_code kinds.UInt8 = codes "u1"
kind_code kinds.UInt16 = codes "u2"
kind_code kinds.UInt32 = codes "u4"
kind_code kinds.UInt64 = codes "u8"
kind_code kinds.Float16 = codes "f2"
kind_code kinds.Float32 = codes "f4"
kind_code kinds.Float64 = codes "f8"
kind_code kinds.Complex64 = codes "c8"
kind_code kinds.Complex128 = codes "c16"

-- Returns how numpy writes a byte order: as <, > or |.
abbrev pub order_mark : ByteOrder → ℕ
order_mark Little = 60
order_mark Big = 62
order_mark NotApplicable = 124

-- Returns how numpy writes an item type: the mark of its byte order, and the code of its kind.
abbrev pub item_type_text : ItemType → List ℕ
item_type_text t = order_mark t.order ∷ kind_code t.kind

-- Says whether a kind can have a byte order: `NotApplicable` if an element takes one byte, `Little` or `Big` if it
-- takes more.
abbrev pub order_goes_with : ByteOrder → Kind → Bool
order_goes_with Little kind = not (kind_size kind == 1)
order_goes_with Big kind = not (kind_size kind == 1)
order_goes_with NotApplicable kind = kind_size kind == 1

-- Says whether the byte order of an item type is one that its kind can have.
abbrev pub has_its_order : ItemType → Bool
has_its_order t = order_goes_with t.order t.kind

-- Returns the kind of signed integers of `n` bytes, if there is one.
abbrev pub signed_sized : ℕ → Option Kind
signed_sized n = if n == 1 then Some kinds.Int8 else (if n == 2 then Some kinds.Int16 else (if n == 4 then Some kinds.Int32 else (if n == 8 then Some kinds.Int64 else None)))

-- Returns the kind of unsigned integers of `n` bytes, if there is one.
abbrev pub unsigned_sized : ℕ → Option Kind
unsigned_sized n = if n == 1 then Some kinds.UInt8 else (if n == 2 then Some kinds.UInt16 else (if n == 4 then Some kinds.UInt32 else (if n == 8 then Some kinds.UInt64 else None)))

-- Returns the kind of floats of `n` bytes, if there is one.
abbrev pub float_sized : ℕ → Option Kind
float_sized n = if n == 2 then Some kinds.Float16 else (if n == 4 then Some kinds.Float32 else (if n == 8 then Some kinds.Float64 else None))

-- Returns the kind of complex numbers of `n` bytes, if there is one.
abbrev pub complex_sized : ℕ → Option Kind
complex_sized n = if n == 8 then Some kinds.Complex64 else (if n == 16 then Some kinds.Complex128 else None)

-- Returns the kind of booleans of `n` bytes, if there is one.
abbrev pub bool_sized : ℕ → Option Kind
bool_sized n = if n == 1 then Some kinds.Bool else None

-- Returns the kind with this letter (b, i, u, f or c) and elements of `n` bytes, if there is one.
abbrev pub npy_kind_named : ℕ → ℕ → Option Kind
npy_kind_named letter n = if letter == 98 then bool_sized n else (if letter == 105 then signed_sized n else (if letter == 117 then unsigned_sized n else (if letter == 102 then float_sized n else (if letter == 99 then complex_sized n else None))))

-- Returns the byte order that is written as `mark`, if there is one.
abbrev pub order_marked : ℕ → Option ByteOrder
order_marked mark = if mark == 60 then Some Little else (if mark == 62 then Some Big else (if mark == 124 then Some NotApplicable else None))

infixl 10 ◌>>?◌
abbrev pub ◌>>?◌ : {A B : Type 0} → Option A → (A → Option B) → Option B
None >>? f = None
(Some x) >>? f = f x

-- Returns the item type of a kind and a byte order, if the kind can have this order.
abbrev pub in_order : ByteOrder → Kind → Option ItemType
in_order order kind = if order_goes_with order kind then Some (record { kind = kind; order = order }) else None

-- Returns the item type that is written as a mark, a letter and the size `n`, if there is one.
unfoldable pub item_type_named : ℕ → ℕ → ℕ → Option ItemType
item_type_named mark letter n = order_marked mark >>? λ order. npy_kind_named letter n >>? λ kind. in_order order kind
