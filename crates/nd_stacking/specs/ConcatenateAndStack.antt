-- Arrays concatenated along an axis, or stacked along a new one: what the result shows, and why there is none.
use Rattle.std.specs.Prelude.{◌≡◌, ℕ, ◌+◌, ◌-◌, ◌^◌, ◌≤◌, Bool, nat_eq, nat_le, nat_lt, List, [], ◌∷◌, length, map, slice_get, slice_index, slice_set, Option, None, Some, if◌then◌else◌, IsTrue}
use Rattle.std.specs.Cmp.Lexicographic.{pointwise}
use Rattle.std.specs.List.{insert, list_all}
use Rattle.nd_shape_and_slice.specs.ShapesAndIndexOrders.{nonzero_product, HasCheckedSize}
use Rattle.nd_shape_and_slice.specs.declared.errors.ErrorKind.{ErrorKind}
use Rattle.nd_shape_and_slice.specs.declared.errors.ErrorKind.TheVariants.{IncompatibleShape, OutOfBounds, Overflow, Unsupported}
use Rattle.nd_array_core.specs.declared.base.array_error.ArrayError.{ArrayError}
use Rattle.nd_array_core.specs.declared.base.array_error.ArrayError.TheVariants.{Shape, NoMemory}
use Rattle.nd_array_core.specs.ConcatenationAndSplit.{concatenated_shape}
use Rattle.nd_array_core.specs.LayoutLaws.{with_axis_inserted}
use Rattle.nd_array_core.specs.ArrayMeaning.{Meaning, inside}
use Rattle.nd_array_core.specs.growth.AppendEach.{lengths_along}

-- Returns `m` followed by `n` along `axis`: the element of `m` where the coordinate of the axis is below its length,
-- and otherwise that of `n` at the coordinate less that length.
abbrev pub two_after : {A : Type 0} → ℕ → Meaning A → Meaning A → Meaning A
two_after axis m n = record {
  shape = concatenated_shape m.shape n.shape axis;
  at = λ i. inside (concatenated_shape m.shape n.shape axis) i (if nat_lt (slice_index i axis) (slice_index m.shape axis) then m.at i else n.at (slice_set i axis (slice_index i axis - slice_index m.shape axis)));
}

-- Returns `m` followed along `axis` by each item of the list, one after the other.
abbrev pub followed_by : {A : Type 0} → ℕ → Meaning A → List (Meaning A) → Meaning A
followed_by axis m [] = m
followed_by axis m (n ∷ ns) = followed_by axis (two_after axis m n) ns

-- Says that `joined` is the concatenation of a list along `axis`: the first array followed by each next one. An empty
-- list has none.
abbrev pub IsConcatenation : {A : Type 0} → ℕ → List (Meaning A) → Meaning A → Type 0
IsConcatenation axis [] joined = ⊥
IsConcatenation axis (m ∷ ms) joined = joined ≡ followed_by axis m ms

-- Says that `joined` is the stack of the list `ms` along a new `axis`: the concatenation of the arrays with this axis
-- inserted as one of length 1.
abbrev pub IsStack : {A : Type 0} → ℕ → List (Meaning A) → Meaning A → Type 0
IsStack axis ms joined = IsConcatenation axis (map (with_axis_inserted axis) ms) joined

-- ---- Why there is no concatenation or stack: the first cause.

-- Returns whether the shapes `ns` and `ms` are equal except for the length along `axis`.
abbrev pub is_alike_but : ℕ → List ℕ → List ℕ → Bool
is_alike_but axis ns ms = pointwise nat_eq (slice_set ms axis (slice_index ns axis)) ns

-- Returns whether the shape has a checked size: the product of its nonzero lengths is at most `isize::MAX`.
abbrev pub is_checked_size : List ℕ → Bool
is_checked_size ns = nat_lt (nonzero_product ns) (2 ^ 63)

-- Returns the shape of the concatenation: that of the first array, with the sum of all lengths along `axis` there.
abbrev pub concatenation_shape : {A : Type 0} → ℕ → List (Meaning A) → List ℕ
concatenation_shape axis [] = []
concatenation_shape axis (m ∷ ms) = slice_set m.shape axis (lengths_along axis (m ∷ ms))

-- Returns the shape of the stack: that of the concatenation of the arrays with `axis` inserted as one of length 1.
abbrev pub stack_shape : {A : Type 0} → ℕ → List (Meaning A) → List ℕ
stack_shape axis ms = concatenation_shape axis (map (with_axis_inserted axis) ms)

-- Returns why there is no concatenation, if there is none: there are no arrays, the first has no such axis, the shape
-- of another differs from that of the first elsewhere than along `axis`, or the shape of the result has no checked
-- size.
abbrev pub concatenation_refusal : {A : Type 0} → ℕ → List (Meaning A) → Option ErrorKind
concatenation_refusal axis [] = Some Unsupported
concatenation_refusal axis (m ∷ ms) =
    if nat_lt axis (length m.shape)
    then (if list_all (λ n. is_alike_but axis m.shape n.shape) (m ∷ ms)
    then (if is_checked_size (concatenation_shape axis (m ∷ ms)) then None else Some Overflow)
    else Some IncompatibleShape)
    else Some OutOfBounds

-- Says that there is a concatenation of the list `ms` along `axis`, and that `lengths` is its shape.
abbrev pub AreLengthsTogether : {A : Type 0} → ℕ → List (Meaning A) → List ℕ → Type 0
AreLengthsTogether axis ms lengths = (concatenation_refusal axis ms ≡ None) × (lengths ≡ concatenation_shape axis ms)

-- Says that there is a concatenation of the arrays with `axis` inserted as one of length 1, and that `lengths` is its
-- shape.
abbrev pub AreStackedLengths : {A : Type 0} → ℕ → List (Meaning A) → List ℕ → Type 0
AreStackedLengths axis ms lengths = AreLengthsTogether axis (map (with_axis_inserted axis) ms) lengths

-- Says that the result is `n`, or `None` where `n` doesn't fit 64 bits.
abbrev pub IsTotal : ℕ → Option ℕ → Type 0
IsTotal n None = 2 ^ 64 ≤ n
IsTotal n (Some total) = total ≡ n

-- Says that `kind` is `Overflow`, and that the shape `ns` has no checked size.
abbrev pub IsTooLarge : List ℕ → ErrorKind → Type 0
IsTooLarge ns kind = (kind ≡ Overflow) × ¬ (HasCheckedSize ns)

-- Returns why there is no stack, if there is none: there are no arrays, there can be no new axis at that position, the
-- shape of another differs from that of the first, or the shape of the result has no checked size.
abbrev pub stack_refusal : {A : Type 0} → ℕ → List (Meaning A) → Option ErrorKind
stack_refusal axis [] = Some Unsupported
stack_refusal axis (m ∷ ms) =
    if nat_le axis (length m.shape)
    then (if list_all (λ n. pointwise nat_eq n.shape m.shape) (m ∷ ms)
    then (if is_checked_size (insert m.shape axis (length (m ∷ ms))) then None else Some Overflow)
    else Some IncompatibleShape)
    else Some OutOfBounds

-- Says that the error is a shape error of the kind `cause`, or `NoMemory` where there is no such cause.
abbrev pub Tells : Option ErrorKind → ArrayError → Type 0
Tells cause (Shape kind) = cause ≡ Some kind
Tells cause NoMemory = cause ≡ None

-- Says that the dimension type of `has_axes` can have one axis more than the first array of the list, if there is one.
abbrev pub MayHaveAnotherAxis : {A : Type 0} → (ℕ → Bool) → List (Meaning A) → Type 0
MayHaveAnotherAxis {A} has_axes ms = (m : Meaning A) → slice_get ms 0 ≡ Some m → IsTrue (has_axes (length m.shape + 1))
