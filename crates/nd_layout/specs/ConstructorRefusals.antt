-- Why a constructor refuses, by the first cause in its order.
use Rattle.std.specs.Prelude.{ℕ, ◌+◌, ◌*◌, ◌^◌, nat_lt, nat_le, nat_eq, Bool, ◌&&◌, ◌||◌, List, length, slice_index, ℤ, Option, None, Some, if◌then◌else◌}
use Rattle.std.specs.List.{list_all, range_with_len}
use Rattle.nd_shape_and_slice.specs.declared.errors.ErrorKind.{ErrorKind}
use Rattle.nd_shape_and_slice.specs.declared.errors.ErrorKind.TheVariants.{Overflow, OutOfBounds, IncompatibleShape, Unsupported}
use Rattle.nd_shape_and_slice.specs.ShapesAndIndexOrders.{nonzero_product, size_of}
use Rattle.nd_shape_and_slice.specs.PlacesAndOverlaps.{span_of, span_within, magnitude_at}

-- Returns whether axis `k` has at most length 1, or steps further than the other axes of at most its magnitude reach
-- together.
abbrev pub stands_apart : List ℕ → List ℤ → ℕ → Bool
stands_apart lengths strides k = nat_le (slice_index lengths k) 1 || nat_lt (span_within (magnitude_at strides k) lengths strides) (slice_index lengths k * magnitude_at strides k)

-- Returns whether the strides are separated.
abbrev pub is_separated : List ℕ → List ℤ → Bool
is_separated lengths strides = list_all (stands_apart lengths strides) (range_with_len 0 (length lengths))

-- Returns how many elements the caller's strides ask for. A shape with elements needs the places up to the span from
-- the lowest one; a shape without elements names no place, and asks for as many elements as the span alone.
abbrev pub elements_asked : List ℕ → List ℤ → ℕ
elements_asked lengths strides = if nat_eq (size_of lengths) 0 then span_of lengths strides else span_of lengths strides + 1

-- Returns why a slice of `count` elements can't be seen under a shape and the caller's strides, if there are any:
-- `Overflow` if the shape has no checked size or the span is past `isize::MAX`, `OutOfBounds` if the elements are too
-- few. The slice may have more elements than are needed.
abbrev pub slice_refusal : List ℕ → Option (List ℤ) → ℕ → Option ErrorKind
slice_refusal lengths None count =
    if nat_lt (nonzero_product lengths) (2 ^ 63)
    then (if nat_lt count (size_of lengths) then Some OutOfBounds else None)
    else Some Overflow
slice_refusal lengths (Some strides) count =
    if nat_lt (nonzero_product lengths) (2 ^ 63) && nat_lt (span_of lengths strides) (2 ^ 63)
    then (if nat_lt count (elements_asked lengths strides) then Some OutOfBounds else None)
    else Some Overflow

-- Returns why a vector of `count` elements can't be taken for an array: `Overflow` and `OutOfBounds` as for a slice;
-- `IncompatibleShape` if no strides are given and elements are left over; `Unsupported` if strides are given that
-- aren't separated, unless there are no indexes.
abbrev pub vec_refusal : List ℕ → Option (List ℤ) → ℕ → Option ErrorKind
vec_refusal lengths None count =
    if nat_lt (nonzero_product lengths) (2 ^ 63)
    then (if nat_lt count (size_of lengths) then Some OutOfBounds else (if nat_lt (size_of lengths) count then Some IncompatibleShape else None))
    else Some Overflow
vec_refusal lengths (Some strides) count =
    if nat_lt (nonzero_product lengths) (2 ^ 63) && nat_lt (span_of lengths strides) (2 ^ 63)
    then (if nat_lt count (elements_asked lengths strides) then Some OutOfBounds else (if nat_eq (size_of lengths) 0 || is_separated lengths strides then None else Some Unsupported))
    else Some Overflow

-- Returns why a slice of `count` elements can't be seen mutably: the refusal of a slice if no strides are given, and
-- that of a vector if there are, since no two indexes may share an element.
abbrev pub slice_mut_refusal : List ℕ → Option (List ℤ) → ℕ → Option ErrorKind
slice_mut_refusal lengths None count = slice_refusal lengths None count
slice_mut_refusal lengths (Some strides) count = vec_refusal lengths (Some strides) count
