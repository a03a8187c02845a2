-- The sum, the mean, the least and the greatest element of each lane along an axis, and the files of the arrays of these.
use Rattle.std.specs.Prelude.{◌+◌, ◌%◌, ◌^◌, ◌&&◌, ◌==◌, not, nat_lt, ℕ, ℤ, pos, Bool, true, false, List, [], ◌∷◌, ◌++◌, length, slice_index, Option, Some, Result, Ok, Err, if◌then◌else◌, to_bits, from_bits}
use Rattle.std.specs.List.{fold, reduce, flat_map}
use Rattle.std.specs.Option.{option_map, unwrap_or}
use Rattle.std.specs.Int.{w8, w16, w32, w64, cast_signed, cast_unsigned, from_bool, int_wrapping_add, to_le_bytes}
use Rattle.std.specs.Float.{Float, Format, binary32, binary64, float_zero}
use Rattle.std.specs.Float.Ieee.{add, div, of_int}
use Rattle.std.specs.Ordering.{nat_cmp, int_cmp, nan_last_cmp}
use Rattle.std.specs.declared.cmp.Ordering.{Ordering}
use Rattle.nd_shape_and_slice.specs.LayoutIndexMaps.{indexed_shape}
use Rattle.nd_shape_and_slice.specs.declared.dimension.Dimension as dimension
use Rattle.nd_shape_and_slice.specs.declared.dimension.AxisCount as axis_count
use Rattle.nd_shape_and_slice.specs.declared.dimension.StrideList as stride_list
use Rattle.nd_elements.specs.ShapeAndElements.{Meaning, inside, row_major_elements}
use Rattle.nd_array_core.specs.declared.base.array.ArrayBase.{ArrayBase}
use Rattle.nd_array_core.specs.Data as data_trait
use Rattle.nd_array_core.specs.ArrayMeaning.{shape_of}
use Rattle.nd_array_core.specs.along.AxisFolds.{lane_elements}
use Rattle.nd_numeric.specs.LeastAndGreatest.{lesser_by, greater_by}
use Rattle.nd_npy_text.specs.declared.item_type.ItemType.{ItemType}
use Rattle.nd_npy_text.specs.declared.item_type.Kind.{Kind}
use Rattle.nd_npy_text.specs.declared.item_type.Kind.TheVariants as kinds
use Rattle.nd_npy_text.specs.declared.item_type.ByteOrder.{ByteOrder}
use Rattle.nd_npy_text.specs.HeaderDescription.{described}
use Rattle.nd_npy_text.specs.HeaderWriting.{npy_header_text}
use Rattle.nd_npy.specs.ItemBytes.{number_of_bytes, truth_of, byte_of_truth}
use Rattle.nd_npy.specs.FileBytesAndArrays.{little_items}
use Rattle.nd_npy.specs.declared.item.NpyItem as npy_item
use Rattle.nd_npy_run.specs.declared.reduction.Reduction.{Reduction}
use Rattle.nd_npy_run.specs.declared.reduction.Reduction.TheVariants.{Sum, Mean, Min, Max}
use Rattle.nd_npy_run.specs.declared.reduction.ReductionError.{ReductionError}
use Rattle.nd_npy_run.specs.declared.reduction.ReductionError.TheVariants.{NoAxis, NoElements, NoNumbers}

-- ---- The array of what is made of each lane

-- Returns the array of the values of items, where `value` gives the value of an item, for example that of its bytes.
abbrev pub values_of : {X A : Type 0} → (X → A) → Meaning X → Meaning A
values_of value m = record { shape = m.shape; at = λ i. option_map value (m.at i) }

-- Returns the array that has, at each index of the axes other than `axis`, what `made` gives for all elements of the lane
-- along `axis` there, by rising coordinate.
abbrev pub lanes_reduced : {A B : Type 0} → (List A → B) → ℕ → Meaning A → Meaning B
lanes_reduced made axis m = record {
  shape = indexed_shape m.shape axis;
  at = λ i. inside (indexed_shape m.shape axis) i (Some (made (lane_elements m.at axis (slice_index m.shape axis) i)));
}

-- Returns the file of an array of numbers of this kind, in row-major order and with the least significant byte of each
-- number first. `bytes_of` gives the bytes of a number.
abbrev pub numbers_file : {B : Type 0} → Kind → (B → List ℕ) → Meaning B → List ℕ
numbers_file kind bytes_of m = npy_header_text (described (little_items kind) false m.shape) ++ flat_map bytes_of (row_major_elements m)

-- Returns the same file, where a number is written as a value of the type of elements `item`.
abbrev pub numbers_written : {B : Type 0} → npy_item.Ghosts B → Kind → Meaning B → List ℕ
numbers_written item kind m = numbers_file kind (item.bytes_of (little_items kind).order) m

-- Returns the file of what `made` gives for the values of each lane of an array of items.
abbrev pub lanes_file : {A B : Type 0} → Kind → (B → List ℕ) → (List A → B) → (List ℕ → A) → ℕ → Meaning (List ℕ) → List ℕ
lanes_file kind bytes_of made value axis m = numbers_file kind bytes_of (lanes_reduced made axis (values_of value m))

-- Returns the number that an item's bytes are, where `converted` turns the item's own value into it.
abbrev pub read_as : {I A : Type 0} → npy_item.Ghosts I → (I → A) → ByteOrder → List ℕ → A
read_as item converted order bytes = converted (item.value_of order bytes)

-- Returns the same file, where a number is written as a value of the type of elements `item`.
abbrev pub lanes_written : {A B : Type 0} → npy_item.Ghosts B → Kind → (List A → B) → (List ℕ → A) → ℕ → Meaning (List ℕ) → List ℕ
lanes_written item kind made value axis m = lanes_file kind (item.bytes_of (little_items kind).order) made value axis m

-- ---- What an item's bytes are as a number

-- Returns the signed integer that an item of this kind is. A truth value is 1 or 0.
abbrev pub signed_item : Kind → ByteOrder → List ℕ → ℤ
signed_item kinds.Bool order bytes = pos (from_bool (truth_of bytes))
signed_item kinds.Int8 order bytes = cast_signed w8 (slice_index bytes 0)
signed_item kinds.Int16 order bytes = cast_signed w16 (number_of_bytes w16 order bytes)
signed_item kinds.Int32 order bytes = cast_signed w32 (number_of_bytes w32 order bytes)
signed_item _ order bytes = cast_signed w64 (number_of_bytes w64 order bytes)

-- Returns the unsigned integer that an item of this kind is.
abbrev pub unsigned_item : Kind → ByteOrder → List ℕ → ℕ
unsigned_item kinds.UInt8 order bytes = slice_index bytes 0
unsigned_item kinds.UInt16 order bytes = number_of_bytes w16 order bytes
unsigned_item kinds.UInt32 order bytes = number_of_bytes w32 order bytes
unsigned_item _ order bytes = number_of_bytes w64 order bytes

-- Returns the float of 4 bytes, or of 8 bytes, that an item is.
abbrev pub single_item : ByteOrder → List ℕ → Float
single_item order bytes = from_bits binary32 (number_of_bytes w32 order bytes)

abbrev pub double_item : ByteOrder → List ℕ → Float
double_item order bytes = from_bits binary64 (number_of_bytes w64 order bytes)

-- ---- What is made of the numbers of a lane

-- Returns the sum of numbers, which are added to `nought` one after another.
abbrev pub lane_sum : {A : Type 0} → (A → A → A) → A → List A → A
lane_sum plus nought numbers = fold plus nought numbers

-- Returns the mean of `count` numbers: their sum, divided by the count.
abbrev pub mean_by : {A : Type 0} → (A → A → A) → (A → A → A) → A → (ℕ → A) → ℕ → List A → A
mean_by plus over nought of_count count numbers = over (lane_sum plus nought numbers) (of_count count)

-- Returns the mean of `count` numbers if the flag is true, and otherwise their sum.
abbrev pub total_by : {A : Type 0} → Bool → (A → A → A) → (A → A → A) → A → (ℕ → A) → ℕ → List A → A
total_by true plus over nought of_count count = mean_by plus over nought of_count count
total_by false plus over nought of_count count = lane_sum plus nought

-- Returns the mean of `count` floats in this format.
abbrev pub mean_of : Format → ℕ → List Float → Float
mean_of format count numbers = mean_by (add format) (div format) float_zero (λ n. of_int format (pos n)) count numbers

-- Returns which of two elements is kept in an order: the greater one if the flag is true, and otherwise the lesser one.
-- Of two equal elements it is the first.
abbrev pub kept_by : {A : Type 0} → Bool → (A → A → Ordering) → A → A → A
kept_by true order = greater_by order
kept_by false order = lesser_by order

-- Returns the greatest element in an order if the flag is true, and otherwise the least one. Where several are equal it is
-- the first of them, and where there are none it is `none_there`.
abbrev pub lane_end : {A : Type 0} → Bool → (A → A → Ordering) → A → List A → A
lane_end greatest order none_there elements = unwrap_or (reduce (kept_by greatest order) elements) none_there

-- Returns what is kept of a lane as it is written, or `none_there` where nothing is.
abbrev pub end_written : {A B : Type 0} → (A → B) → A → Option A → B
end_written converted none_there kept = converted (unwrap_or kept none_there)

-- ---- How numbers are written, with the least significant byte first

-- Returns the bytes of a signed integer of this kind.
abbrev pub signed_bytes : Kind → ℤ → List ℕ
signed_bytes kinds.Int8 x = cast_unsigned w8 x ∷ []
signed_bytes kinds.Int16 x = to_le_bytes w16 (cast_unsigned w16 x)
signed_bytes kinds.Int32 x = to_le_bytes w32 (cast_unsigned w32 x)
signed_bytes _ x = to_le_bytes w64 (cast_unsigned w64 x)

-- Returns the bytes of an unsigned integer of this kind.
abbrev pub unsigned_bytes : Kind → ℕ → List ℕ
unsigned_bytes kinds.UInt8 x = x ∷ []
unsigned_bytes kinds.UInt16 x = to_le_bytes w16 x
unsigned_bytes kinds.UInt32 x = to_le_bytes w32 x
unsigned_bytes _ x = to_le_bytes w64 x

-- Returns the bytes of a float of 4 bytes, or of 8 bytes.
abbrev pub single_bytes : Float → List ℕ
single_bytes x = to_le_bytes w32 (to_bits binary32 x)

abbrev pub double_bytes : Float → List ℕ
double_bytes x = to_le_bytes w64 (to_bits binary64 x)

-- ---- The file for each kind of items

-- Returns one of four results by what items of this kind are: truth values and signed integers, unsigned integers, floats
-- of 4 bytes, or floats of 8 bytes. Items of other kinds aren't reduced.
abbrev pub by_sort : {X : Type 0} → X → X → X → X → Kind → Result X ReductionError
by_sort signed unsigned single double kinds.Bool = Ok signed
by_sort signed unsigned single double kinds.Int8 = Ok signed
by_sort signed unsigned single double kinds.Int16 = Ok signed
by_sort signed unsigned single double kinds.Int32 = Ok signed
by_sort signed unsigned single double kinds.Int64 = Ok signed
by_sort signed unsigned single double kinds.UInt8 = Ok unsigned
by_sort signed unsigned single double kinds.UInt16 = Ok unsigned
by_sort signed unsigned single double kinds.UInt32 = Ok unsigned
by_sort signed unsigned single double kinds.UInt64 = Ok unsigned
by_sort signed unsigned single double kinds.Float32 = Ok single
by_sort signed unsigned single double kinds.Float64 = Ok double
by_sort signed unsigned single double kind = Err (NoNumbers kind)

module _ (axis : ℕ) (m : Meaning (List ℕ)) where
  -- Returns the file of the sums of the lanes: integers of 8 bytes, which wrap, signed or unsigned as the items are, or
  -- floats as the items are.
  abbrev pub sums_file : Kind → ByteOrder → Result (List ℕ) ReductionError
  sums_file kind order =
      by_sort (lanes_file kinds.Int64 (signed_bytes kinds.Int64) (lane_sum (int_wrapping_add w64) (pos 0)) (signed_item kind order) axis m)
      (lanes_file kinds.UInt64 (unsigned_bytes kinds.UInt64) (lane_sum (λ x y. (x + y) % 2 ^ 64) 0) (unsigned_item kind order) axis m)
      (lanes_file kinds.Float32 single_bytes (lane_sum (add binary32) float_zero) (single_item order) axis m)
      (lanes_file kinds.Float64 double_bytes (lane_sum (add binary64) float_zero) (double_item order) axis m)
      kind

  -- Returns the file of the means of the lanes: floats of 4 bytes if the items are such floats, and otherwise floats of 8
  -- bytes, to which integers are rounded before they are added.
  abbrev pub means_file : Kind → ByteOrder → Result (List ℕ) ReductionError
  means_file kind order =
      by_sort (lanes_file kinds.Float64 double_bytes (mean_of binary64 (slice_index m.shape axis)) (λ bytes. of_int binary64 (signed_item kind order bytes)) axis m)
      (lanes_file kinds.Float64 double_bytes (mean_of binary64 (slice_index m.shape axis)) (λ bytes. of_int binary64 (pos (unsigned_item kind order bytes))) axis m)
      (lanes_file kinds.Float32 single_bytes (mean_of binary32 (slice_index m.shape axis)) (single_item order) axis m)
      (lanes_file kinds.Float64 double_bytes (mean_of binary64 (slice_index m.shape axis)) (double_item order) axis m)
      kind

  -- Returns the file of the greatest elements of the lanes if the flag is true, and otherwise of the least ones, of the
  -- items' kind. Truth values are compared as 0 and 1, and among floats a NaN comes after all numbers.
  abbrev pub ends_file : Bool → Kind → ByteOrder → Result (List ℕ) ReductionError
  ends_file greatest kinds.Bool order =
      Ok (lanes_file kinds.Bool byte_of_truth (λ truths. not (lane_end greatest nat_cmp 0 truths == 0)) (λ bytes. from_bool (truth_of bytes)) axis m)
  ends_file greatest kind order =
      by_sort (lanes_file kind (signed_bytes kind) (lane_end greatest int_cmp (pos 0)) (signed_item kind order) axis m)
      (lanes_file kind (unsigned_bytes kind) (lane_end greatest nat_cmp 0) (unsigned_item kind order) axis m)
      (lanes_file kind single_bytes (lane_end greatest nan_last_cmp float_zero) (single_item order) axis m)
      (lanes_file kind double_bytes (lane_end greatest nan_last_cmp float_zero) (double_item order) axis m)
      kind

-- ---- The file of an array that is reduced

-- Returns the file of what is made of the lanes along the axis, by the kind and the byte order of the items.
abbrev pub made_file : Reduction → ItemType → ℕ → Meaning (List ℕ) → Result (List ℕ) ReductionError
made_file Sum item_type axis m = sums_file axis m item_type.kind item_type.order
made_file Mean item_type axis m = means_file axis m item_type.kind item_type.order
made_file Min item_type axis m = ends_file axis m false item_type.kind item_type.order
made_file Max item_type axis m = ends_file axis m true item_type.kind item_type.order

-- Returns one of four results by what is made of the lanes. `ends` gives the one for the greatest elements if its flag is
-- true, and otherwise the one for the least.
abbrev pub by_reduction : {X : Type 0} → X → X → (Bool → X) → Reduction → X
by_reduction sum mean ends Sum = sum
by_reduction sum mean ends Mean = mean
by_reduction sum mean ends Min = ends false
by_reduction sum mean ends Max = ends true

-- Returns whether nothing can be made of a lane without elements.
abbrev pub wants_elements : Reduction → Bool
wants_elements Sum = false
wants_elements Mean = true
wants_elements Min = true
wants_elements Max = true

-- Returns the file of an array of items of this type that is reduced along the axis, or why it isn't.
abbrev pub reduced_file : Reduction → ℕ → ItemType → Meaning (List ℕ) → Result (List ℕ) ReductionError
reduced_file reduction axis item_type m =
    if nat_lt axis (length m.shape) then (if wants_elements reduction && (slice_index m.shape axis == 0) then Err (NoElements axis) else made_file reduction item_type axis m) else Err (NoAxis axis (length m.shape))

module _ {S D T R : Type 0} {s : data_trait.Ghosts S (List ℕ)} {d : dimension.Ghosts D R} {n : axis_count.Ghosts D} {r : stride_list.Ghosts R} {t : stride_list.Ghosts T} where
  -- Returns the length of the axis of an array of items.
  abbrev pub length_along : ArrayBase S D T (List ℕ) R s d n r t → ℕ → ℕ
  length_along a axis = slice_index (shape_of a) axis
