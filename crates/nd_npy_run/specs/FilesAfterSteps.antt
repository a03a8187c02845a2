-- The file that steps make of a file: its elements are items of some bytes, whatever they mean.
use Rattle.std.specs.Prelude.{◌≡◌, ◌<◌, ℕ, false, List, ◌++◌, length, drop, codes, Option, Some, Result, Ok, Err}
use Rattle.std.specs.Fmt.{◌++?◌}
use Rattle.std.specs.List.{flat_map}
use Rattle.std.specs.Result.{result_ok}
use Rattle.nd_elements.specs.ShapeAndElements.{Meaning, inside, row_major_elements}
use Rattle.nd_array_core.specs.printing.ArrayTexts.{array_text}
use Rattle.nd_npy_text.specs.declared.errors.HeaderError.{HeaderError}
use Rattle.nd_npy_text.specs.declared.item_type.ItemType.{ItemType}
use Rattle.nd_npy_text.specs.declared.item_type.Kind.{Kind}
use Rattle.nd_npy_text.specs.ItemTypes.{kind_size}
use Rattle.nd_npy_text.specs.HeaderDescription.{Description, described}
use Rattle.nd_npy_text.specs.HeaderReading.{npy_header_in}
use Rattle.nd_npy_text.specs.HeaderWriting.{npy_header_text, padded, roomy_text, tuple_text}
use Rattle.nd_npy.specs.ItemBytes.{item_at}
use Rattle.nd_npy.specs.FileBytesAndArrays.{item_number, data_size}
use Rattle.nd_npy_run.specs.declared.steps.errors.Refusal.{Refusal}
use Rattle.nd_npy_run.specs.ViewSelectAndReshapeSteps.{AskedNpyStep}
use Rattle.nd_npy_run.specs.StepListResults.{array_after_steps}
use Rattle.nd_npy_run.specs.declared.reduction.Reduction.{Reduction}
use Rattle.nd_npy_run.specs.declared.reduction.ReductionError.{ReductionError}
use Rattle.nd_npy_run.specs.Reductions.{reduced_file}
use Rattle.nd_npy_run.specs.ItemTexts.{text_of_item, has_text}
use Rattle.nd_npy_run.specs.declared.output_or_fault.Fault.{Fault}
use Rattle.nd_npy_run.specs.declared.wanted_outputs.Wanted.{Wanted}
use Rattle.nd_npy_run.specs.declared.wanted_outputs.Wanted.TheVariants.{File, Description as Told, Shape, Text, Reduced}
use Rattle.nd_npy_run.specs.declared.output_or_fault.Fault.TheVariants.{WrongSize, Memory}

-- An array of items, each a list of bytes.
abbrev pub Items : Type 0
Items = Meaning (List ℕ)

-- Returns the array of a description and of the bytes behind the head: its elements are the bytes of the items.
abbrev pub items_in : Description → List ℕ → Items
items_in d bytes = record {
  shape = d.array_shape;
  at = λ i. inside d.array_shape i (Some (item_at (kind_size d.item_type.kind) bytes (item_number d.fortran_order d.array_shape i)));
}

-- Says that the bytes are a head with the description `d`, and as many bytes as its elements take, which are the
-- items of `m`.
pub record IsFile (bytes : List ℕ) (d : Description) (m : Items) : Type 0 where
  pub data_start : ℕ
  pub head : npy_header_in bytes ≡ Ok (d, data_start)
  pub data_whole : length (drop data_start bytes) ≡ data_size d
  pub items : m ≡ items_in d (drop data_start bytes)

-- Returns the bytes of a file of this array, with items of this type: the head, and the items in row-major order.
abbrev pub file_text : ItemType → Items → List ℕ
file_text item_type m = npy_header_text (described item_type false m.shape) ++ flat_map (λ item. item) (row_major_elements m)

-- Returns the text of an array and a line feed, if `shown` gives a text for each item.
abbrev pub printed_as : (List ℕ → Option (List ℕ)) → Items → Option (List ℕ)
printed_as shown m = array_text shown false m ++? Some (codes "\n")

-- Returns the text of an array with items of this type and a line feed, if each item has a text.
abbrev pub printed_text : ItemType → Items → Option (List ℕ)
printed_text item_type m = printed_as (text_of_item item_type) m

-- Returns what is wanted of an array with items of this type, if there is such a thing: its file; the dict in the head of
-- that file, with the spaces and the line feed which end the head; its shape in a line; its text; or the file of what is
-- made of the lanes along an axis.
abbrev pub wanted_text : Wanted → ItemType → Items → Option (List ℕ)
wanted_text File item_type m = Some (file_text item_type m)
wanted_text Told item_type m = Some (padded (roomy_text (described item_type false m.shape)))
wanted_text Shape item_type m = Some (tuple_text m.shape ++ codes "\n")
wanted_text Text item_type m = printed_text item_type m
wanted_text (Reduced reduction axis) item_type m = result_ok (reduced_file reduction axis item_type m)

-- Says that an array with items of this type is to be reduced along an axis, but can't be for this cause.
abbrev pub IsNotReduced : Wanted → ItemType → Items → ReductionError → Type 0
IsNotReduced wanted item_type m error = (reduction : Reduction) × (axis : ℕ) × (wanted ≡ Reduced reduction axis) × (reduced_file reduction axis item_type m ≡ Err error)

-- Says that `turned` is what is wanted of the array after the steps. Its items have the type of those of the file
-- `bytes`.
abbrev pub TurnsInto : Wanted → List AskedNpyStep → List ℕ → List ℕ → Type 0
TurnsInto wanted steps bytes turned = (d : Description) × (m : Items) × (n : Items) × IsFile bytes d m × (array_after_steps steps m ≡ Ok n) × (wanted_text wanted d.item_type n ≡ Some turned)

-- Says that the bytes are a file whose items have this kind, that no step is refused on its array, and that what is wanted
-- is the text of the array after them, but items of this kind have none.
abbrev pub HasNoText : Wanted → List AskedNpyStep → List ℕ → Kind → Type 0
HasNoText wanted steps bytes kind = (d : Description) × (m : Items) × (n : Items) × IsFile bytes d m × (array_after_steps steps m ≡ Ok n) × (wanted ≡ Text) × (kind ≡ d.item_type.kind) × (has_text kind ≡ false)

-- Says that the bytes are a file, that no step is refused on its array, and that the array after them is to be reduced
-- along an axis, but can't be for this cause.
abbrev pub HasNoReduction : Wanted → List AskedNpyStep → List ℕ → ReductionError → Type 0
HasNoReduction wanted steps bytes error =
    (d : Description) × (m : Items) × (n : Items) × IsFile bytes d m × (array_after_steps steps m ≡ Ok n) × IsNotReduced wanted d.item_type n error

-- Says that the bytes are a file, and that the first step which is refused on its array is this one.
abbrev pub IsRefused : List AskedNpyStep → List ℕ → Refusal → Type 0
IsRefused steps bytes refusal = (d : Description) × (m : Items) × IsFile bytes d m × (array_after_steps steps m ≡ Err refusal)

-- Says that the bytes begin with a head whose items have this type and take `size` bytes each.
abbrev pub HasItems : List ℕ → ItemType → ℕ → Type 0
HasItems bytes item_type size = (d : Description) × (start : ℕ) × (npy_header_in bytes ≡ Ok (d, start)) × (item_type ≡ d.item_type) × (kind_size d.item_type.kind ≡ size)

-- Says that the bytes begin with a head whose elements take `expected` bytes, and that `found` bytes follow it, which
-- is another number.
abbrev pub HasWrongSize : List ℕ → ℕ → ℕ → Type 0
HasWrongSize bytes expected found =
    (d : Description) × (start : ℕ) × (npy_header_in bytes ≡ Ok (d, start)) × (expected ≡ data_size d) × (found ≡ length (drop start bytes)) × ¬ (found ≡ expected)

-- Says that the bytes don't begin with a head, for this cause.
abbrev pub HasNoHead : List ℕ → HeaderError → Type 0
HasNoHead bytes error = npy_header_in bytes ≡ Err error

-- Says that the result is the array of a file whose items have this type, or that the file has the wrong size. Memory
-- may run out if there are bytes.
abbrev pub ReadsItems : List ℕ → ItemType → Result Items Fault → Type 0
ReadsItems bytes item_type (Ok m) = (d : Description) × IsFile bytes d m × (item_type ≡ d.item_type)
ReadsItems bytes item_type (Err (WrongSize expected found)) = HasWrongSize bytes expected found
ReadsItems bytes item_type (Err Memory) = 0 < length bytes
ReadsItems bytes item_type (Err _) = ⊥
