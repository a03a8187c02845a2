-- The text of an item, which is that of the number or of the truth value that its bytes are.
use Rattle.std.specs.Prelude.{ℕ, Bool, true, false, List, slice_index, Option, None, Some, codes, if◌then◌else◌}
use Rattle.std.specs.Fmt.{decimal, signed_decimal}
use Rattle.std.specs.Int.{w8, w16, w32, w64, cast_signed}
use Rattle.nd_npy_text.specs.declared.item_type.ItemType.{ItemType}
use Rattle.nd_npy_text.specs.declared.item_type.Kind.{Kind}
use Rattle.nd_npy_text.specs.declared.item_type.Kind.TheVariants as kinds
use Rattle.nd_npy_text.specs.declared.item_type.ByteOrder.{ByteOrder}
use Rattle.nd_npy.specs.ItemBytes.{number_of_bytes, truth_of}

-- Returns the text of an item of this kind with these bytes: `true` or `false`, or the number's decimal digits. The
-- text of floats isn't known, and complex numbers have none.
abbrev pub text_of_kind : Kind → ByteOrder → List ℕ → Option (List ℕ)
text_of_kind kinds.Bool order bytes = Some (if truth_of bytes then codes "true" else codes "false")
text_of_kind kinds.Int8 order bytes = Some (signed_decimal (cast_signed w8 (slice_index bytes 0)))
text_of_kind kinds.Int16 order bytes = Some (signed_decimal (cast_signed w16 (number_of_bytes w16 order bytes)))
text_of_kind kinds.Int32 order bytes = Some (signed_decimal (cast_signed w32 (number_of_bytes w32 order bytes)))
text_of_kind kinds.Int64 order bytes = Some (signed_decimal (cast_signed w64 (number_of_bytes w64 order bytes)))
text_of_kind kinds.UInt8 order bytes = Some (decimal (slice_index bytes 0))
text_of_kind kinds.UInt16 order bytes = Some (decimal (number_of_bytes w16 order bytes))
text_of_kind kinds.UInt32 order bytes = Some (decimal (number_of_bytes w32 order bytes))
text_of_kind kinds.UInt64 order bytes = Some (decimal (number_of_bytes w64 order bytes))
text_of_kind _ order bytes = None

-- Returns the text of an item of this type with these bytes, if it has one.
abbrev pub text_of_item : ItemType → List ℕ → Option (List ℕ)
text_of_item item_type bytes = text_of_kind item_type.kind item_type.order bytes

-- Returns whether items of this kind have a text.
abbrev pub has_text : Kind → Bool
has_text kinds.Float16 = false
has_text kinds.Float32 = false
has_text kinds.Float64 = false
has_text kinds.Complex64 = false
has_text kinds.Complex128 = false
has_text _ = true
