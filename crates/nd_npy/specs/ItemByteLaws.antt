-- The laws that each type of elements keeps: its bytes are as many as its kind has, and they mean the value.
use Rattle.std.proofs.Common.{◌≡◌, ◌∙◌, ◌<◌, ◌^◌, ℕ, Bool, true, false, ℤ, List, length, slice_get, T, refl, sym, ap, eqb-true, to_bits, from_bits, FitsSigned}
use Rattle.std.specs.Prelude.{Some, IsTrue, ⊤, [], ◌∷◌}
use Rattle.std.specs.Int.{w16, w32, w64, cast_signed, cast_unsigned}
use Rattle.std.specs.Float.{Float, binary32, binary64}
use Rattle.std.specs.Float.Ieee
use Rattle.std.proofs.lemmas.Nat.{from_le_bytes-to_le_bytes_2, from_le_bytes-to_le_bytes_4, from_le_bytes-to_le_bytes_8, from_be_bytes-to_be_bytes_2, from_be_bytes-to_be_bytes_4, from_be_bytes-to_be_bytes_8}
use Rattle.std.proofs.Math.Facts.{Fits-of_z}
use Rattle.std.proofs.lemmas.Int.{to_z-of_z}
use lib.Ieee.Bits.{of_bits-to_bits, to_bits-lt}
use Rattle.nd_npy_text.specs.declared.item_type.Kind.{Kind}
use Rattle.nd_npy_text.specs.declared.item_type.Kind.TheVariants as kinds
use Rattle.nd_npy_text.specs.declared.item_type.ByteOrder.{ByteOrder}
use Rattle.nd_npy_text.specs.declared.item_type.ByteOrder.TheVariants.{Little, Big, NotApplicable}
use Rattle.nd_npy_text.specs.ItemTypes.{kind_size}
use Rattle.nd_npy.specs.ItemBytes.{kind_number, is_kind, number_of_bytes, bytes_of_number, truth_of, byte_of_truth}

-- ---- kinds

abbrev kinds_listed : List Kind
kinds_listed = kinds.Bool ∷ kinds.Int8 ∷ kinds.Int16 ∷ kinds.Int32 ∷ kinds.Int64 ∷ kinds.UInt8 ∷ kinds.UInt16 ∷ kinds.UInt32 ∷ kinds.UInt64 ∷ kinds.Float16 ∷ kinds.Float32 ∷ kinds.Float64 ∷ kinds.Complex64 ∷ kinds.Complex128 ∷ []

numbered : (kind : Kind) → slice_get kinds_listed (kind_number kind) ≡ Some kind
numbered kinds.Bool = refl
numbered kinds.Int8 = refl
numbered kinds.Int16 = refl
numbered kinds.Int32 = refl
numbered kinds.Int64 = refl
numbered kinds.UInt8 = refl
numbered kinds.UInt16 = refl
numbered kinds.UInt32 = refl
numbered kinds.UInt64 = refl
numbered kinds.Float16 = refl
numbered kinds.Float32 = refl
numbered kinds.Float64 = refl
numbered kinds.Complex64 = refl
numbered kinds.Complex128 = refl

-- a kind with the number of another is that other
pub kind_is : (kind other : Kind) → IsTrue (is_kind kind other) → other ≡ kind
kind_is kind other is =
    let same : Some other ≡ Some kind = sym (numbered other) ∙ ap (slice_get kinds_listed) (eqb-true _ _ is) ∙ numbered kind in
    cc

pub size_is : (kind other : Kind) → IsTrue (is_kind kind other) → kind_size other ≡ kind_size kind
size_is kind other is = ap kind_size (kind_is kind other is)

-- ---- numbers

pub unsigned_whole_16 : (order : ByteOrder) (x : ℕ) → x < 2 ^ 16 → length (bytes_of_number w16 order x) ≡ 2
unsigned_whole_16 Little x fits = refl
unsigned_whole_16 Big x fits = refl
unsigned_whole_16 NotApplicable x fits = refl

pub unsigned_back_16 : (order : ByteOrder) (x : ℕ) → x < 2 ^ 16 → number_of_bytes w16 order (bytes_of_number w16 order x) ≡ x
unsigned_back_16 Little x fits = from_le_bytes-to_le_bytes_2 x fits
unsigned_back_16 Big x fits = from_be_bytes-to_be_bytes_2 x fits
unsigned_back_16 NotApplicable x fits = from_le_bytes-to_le_bytes_2 x fits

pub signed_whole_16 : (order : ByteOrder) (x : ℤ) → FitsSigned w16 x → length (bytes_of_number w16 order (cast_unsigned w16 x)) ≡ 2
signed_whole_16 order x fits = unsigned_whole_16 order (cast_unsigned w16 x) (Fits-of_z fits).fits

pub signed_back_16 : (order : ByteOrder) (x : ℤ) → FitsSigned w16 x → cast_signed w16 (number_of_bytes w16 order (bytes_of_number w16 order (cast_unsigned w16 x))) ≡ x
signed_back_16 order x fits = ap (cast_signed w16) (unsigned_back_16 order (cast_unsigned w16 x) (Fits-of_z fits).fits) ∙ to_z-of_z w16 x fits

pub unsigned_whole_32 : (order : ByteOrder) (x : ℕ) → x < 2 ^ 32 → length (bytes_of_number w32 order x) ≡ 4
unsigned_whole_32 Little x fits = refl
unsigned_whole_32 Big x fits = refl
unsigned_whole_32 NotApplicable x fits = refl

pub unsigned_back_32 : (order : ByteOrder) (x : ℕ) → x < 2 ^ 32 → number_of_bytes w32 order (bytes_of_number w32 order x) ≡ x
unsigned_back_32 Little x fits = from_le_bytes-to_le_bytes_4 x fits
unsigned_back_32 Big x fits = from_be_bytes-to_be_bytes_4 x fits
unsigned_back_32 NotApplicable x fits = from_le_bytes-to_le_bytes_4 x fits

pub signed_whole_32 : (order : ByteOrder) (x : ℤ) → FitsSigned w32 x → length (bytes_of_number w32 order (cast_unsigned w32 x)) ≡ 4
signed_whole_32 order x fits = unsigned_whole_32 order (cast_unsigned w32 x) (Fits-of_z fits).fits

pub signed_back_32 : (order : ByteOrder) (x : ℤ) → FitsSigned w32 x → cast_signed w32 (number_of_bytes w32 order (bytes_of_number w32 order (cast_unsigned w32 x))) ≡ x
signed_back_32 order x fits = ap (cast_signed w32) (unsigned_back_32 order (cast_unsigned w32 x) (Fits-of_z fits).fits) ∙ to_z-of_z w32 x fits

pub unsigned_whole_64 : (order : ByteOrder) (x : ℕ) → x < 2 ^ 64 → length (bytes_of_number w64 order x) ≡ 8
unsigned_whole_64 Little x fits = refl
unsigned_whole_64 Big x fits = refl
unsigned_whole_64 NotApplicable x fits = refl

pub unsigned_back_64 : (order : ByteOrder) (x : ℕ) → x < 2 ^ 64 → number_of_bytes w64 order (bytes_of_number w64 order x) ≡ x
unsigned_back_64 Little x fits = from_le_bytes-to_le_bytes_8 x fits
unsigned_back_64 Big x fits = from_be_bytes-to_be_bytes_8 x fits
unsigned_back_64 NotApplicable x fits = from_le_bytes-to_le_bytes_8 x fits

pub signed_whole_64 : (order : ByteOrder) (x : ℤ) → FitsSigned w64 x → length (bytes_of_number w64 order (cast_unsigned w64 x)) ≡ 8
signed_whole_64 order x fits = unsigned_whole_64 order (cast_unsigned w64 x) (Fits-of_z fits).fits

pub signed_back_64 : (order : ByteOrder) (x : ℤ) → FitsSigned w64 x → cast_signed w64 (number_of_bytes w64 order (bytes_of_number w64 order (cast_unsigned w64 x))) ≡ x
signed_back_64 order x fits = ap (cast_signed w64) (unsigned_back_64 order (cast_unsigned w64 x) (Fits-of_z fits).fits) ∙ to_z-of_z w64 x fits

pub float_whole_32 : (order : ByteOrder) (x : Float) → T (Ieee.fits binary32 x) → length (bytes_of_number w32 order (to_bits binary32 x)) ≡ 4
float_whole_32 order x fits = unsigned_whole_32 order (to_bits binary32 x) (to_bits-lt binary32 x fits)

pub float_back_32 : (order : ByteOrder) (x : Float) → T (Ieee.fits binary32 x) → from_bits binary32 (number_of_bytes w32 order (bytes_of_number w32 order (to_bits binary32 x))) ≡ x
float_back_32 order x fits = ap (from_bits binary32) (unsigned_back_32 order (to_bits binary32 x) (to_bits-lt binary32 x fits)) ∙ of_bits-to_bits binary32 x fits

pub float_whole_64 : (order : ByteOrder) (x : Float) → T (Ieee.fits binary64 x) → length (bytes_of_number w64 order (to_bits binary64 x)) ≡ 8
float_whole_64 order x fits = unsigned_whole_64 order (to_bits binary64 x) (to_bits-lt binary64 x fits)

pub float_back_64 : (order : ByteOrder) (x : Float) → T (Ieee.fits binary64 x) → from_bits binary64 (number_of_bytes w64 order (bytes_of_number w64 order (to_bits binary64 x))) ≡ x
float_back_64 order x fits = ap (from_bits binary64) (unsigned_back_64 order (to_bits binary64 x) (to_bits-lt binary64 x fits)) ∙ of_bits-to_bits binary64 x fits

-- ---- truth values

pub truth_whole : (order : ByteOrder) (x : Bool) → ⊤ → length (byte_of_truth x) ≡ 1
truth_whole order true fits = refl
truth_whole order false fits = refl

pub truth_back : (order : ByteOrder) (x : Bool) → ⊤ → truth_of (byte_of_truth x) ≡ x
truth_back order true fits = refl
truth_back order false fits = refl
