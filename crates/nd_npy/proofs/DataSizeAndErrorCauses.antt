-- What a file means, from what its head and the bytes behind it are.
use Rattle.std.proofs.Common.{◌≡◌, ◌<◌, ◌≤◌, ◌*◌, ◌^◌, ℕ, zero, suc, true, List, [], ◌∷◌, refl, ap, arith, mul-le-mul_left, mul_comm, ltb-true}
use Rattle.std.specs.Prelude.{Result, Ok, Err}
use Rattle.nd_shape_and_slice.specs.ShapesAndIndexOrders.{size_of, nonzero_product, HasCheckedSize}
use Rattle.nd_npy_text.specs.declared.errors.HeaderError.{HeaderError}
use Rattle.nd_npy_text.specs.declared.errors.HeaderError.TheVariants as header_errors
use Rattle.nd_npy_text.specs.declared.item_type.Kind.{Kind}
use Rattle.nd_npy_text.specs.declared.item_type.Kind.TheVariants as kinds
use Rattle.nd_npy_text.specs.ItemTypes.{kind_size}
use Rattle.nd_npy_text.specs.HeaderDescription.{product_without_zeros, fits_memory}
use Rattle.nd_npy_text.specs.HeaderReading.{IsCause}
use Rattle.nd_npy.specs.declared.errors.ReadNpyError.{ReadNpyError}
use Rattle.nd_npy.specs.declared.errors.ReadNpyError.TheVariants.{Header, OtherKind, WrongSize, Memory}
use Rattle.nd_npy.specs.FileBytesAndArrays.{or_header_error, IsNpyCause}

-- ---- sizes

product_same : (ns : List ℕ) → product_without_zeros ns ≡ nonzero_product ns
product_same [] = refl
product_same (zero ∷ ns) = let same = product_same ns in omega (arith, same)
product_same (suc n ∷ ns) = ap (λ p. suc n * p) (product_same ns)

size_within : (ns : List ℕ) → size_of ns ≤ product_without_zeros ns
size_within [] = omega arith
size_within (zero ∷ ns) = omega arith
size_within (suc n ∷ ns) = mul-le-mul_left (suc n) (size_within ns)

-- the bytes of the elements fit in memory
pub data_fits : (size : ℕ) (ns : List ℕ) → fits_memory size ns ≡ true → size_of ns * size < 2 ^ 63
data_fits size ns fits =
    let low : size * product_without_zeros ns < 2 ^ 63 = ltb-true _ _ fits in
    let less : size * size_of ns ≤ size * product_without_zeros ns = mul-le-mul_left size (size_within ns) in
    omega (arith, low, less, mul_comm size (size_of ns))

-- and so the shape has a checked size
pub checked_is : (size : ℕ) (ns : List ℕ) → 0 < size → fits_memory size ns ≡ true → HasCheckedSize ns
checked_is zero ns some fits = absurd (omega (arith, some))
checked_is (suc n) ns some fits =
    let low : suc n * product_without_zeros ns < 2 ^ 63 = ltb-true _ _ fits in
    let more : product_without_zeros ns ≤ suc n * product_without_zeros ns = omega arith in
    omega (arith, low, more, product_same ns)

-- an element takes a byte at least
pub kind_some : (kind : Kind) → 0 < kind_size kind
kind_some kinds.Bool = omega arith
kind_some kinds.Int8 = omega arith
kind_some kinds.Int16 = omega arith
kind_some kinds.Int32 = omega arith
kind_some kinds.Int64 = omega arith
kind_some kinds.UInt8 = omega arith
kind_some kinds.UInt16 = omega arith
kind_some kinds.UInt32 = omega arith
kind_some kinds.UInt64 = omega arith
kind_some kinds.Float16 = omega arith
kind_some kinds.Float32 = omega arith
kind_some kinds.Float64 = omega arith
kind_some kinds.Complex64 = omega arith
kind_some kinds.Complex128 = omega arith

-- how many bytes the elements take, as it is computed
pub product_is : (count size k : ℕ) (ns ms : List ℕ) → count ≡ size_of ms → ms ≡ ns → size ≡ k → count * size ≡ size_of ns * k
product_is count size k ns ms counted same sized = rw (counted, same, sized) refl

-- ---- causes

-- a cause of a head other than memory is the head's error
pub cause_is : {Y : Type 0} (e : HeaderError) (meant : Result Y HeaderError) → IsCause e meant → (e ≡ header_errors.Memory → ⊥) → or_header_error meant ≡ Err (Header e)
cause_is header_errors.Memory meant is other = absurd (other refl)
cause_is (header_errors.BadByte byte flaw) meant is other = ap or_header_error is
cause_is header_errors.NoMagic meant is other = ap or_header_error is
cause_is (header_errors.UnknownVersion major minor) meant is other = ap or_header_error is
cause_is header_errors.TooShort meant is other = ap or_header_error is
cause_is header_errors.TooLarge meant is other = ap or_header_error is

-- the error that bytes mean is a cause
pub cause_of : {Y : Type 0} (e : ReadNpyError) (meant : Result Y ReadNpyError) → meant ≡ Err e → IsNpyCause e meant
cause_of Memory meant is = tt
cause_of (Header error) meant is = is
cause_of (OtherKind kind) meant is = is
cause_of (WrongSize expected found) meant is = is

-- and it is one of what follows from the same bytes
pub cause_passes : {Y Z : Type 0} (e : ReadNpyError) (meant : Result Y ReadNpyError) (further : Result Z ReadNpyError) → ((error : ReadNpyError) → meant ≡ Err error → further ≡ Err error) → IsNpyCause e meant → IsNpyCause e further
cause_passes Memory meant further passes is = tt
cause_passes (Header error) meant further passes is = passes (Header error) is
cause_passes (OtherKind kind) meant further passes is = passes (OtherKind kind) is
cause_passes (WrongSize expected found) meant further passes is = passes (WrongSize expected found) is

-- a head that is no error is one that was read
pub header_is : {Y : Type 0} (r : Result Y HeaderError) (y : Y) → or_header_error r ≡ Ok y → r ≡ Ok y
header_is (Ok x) y is = let same : x ≡ y = cc in ap Ok same
header_is (Err error) y is = absurd cc
