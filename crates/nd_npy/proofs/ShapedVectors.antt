-- A vector as the array of a shape in one of two orders.
use Rattle.std.proofs.Common.{◌≡◌, ◌^◌, ℕ, Bool, true, false, List, slice_get, refl, arith, lt-ltb}
use Rattle.std.specs.Prelude.{None, nat_lt, if◌then◌else◌}
use Rattle.std.proofs.lemmas.Bool.{le-ltb}
use Rattle.nd_shape_and_slice.specs.ShapesAndIndexOrders.{size_of, nonzero_product, HasCheckedSize}
use Rattle.nd_shape_and_slice.specs.declared.shape_builder.Order.TheVariants.{RowMajor, ColumnMajor}
use Rattle.nd_layout.specs.ConstructorRefusals.{vec_refusal, slice_refusal}
use Rattle.nd_layout.specs.GivenStrides.{given_place}
use Rattle.nd_elements.specs.StoragePlaces.{stored_at}
use Rattle.nd_elements.specs.ShapeAndElements.{inside}
use Rattle.nd_npy.specs.FileBytesAndArrays.{item_number}

-- as many elements as the shape has aren't refused
pub none_refused : (ns : List ℕ) (count : ℕ) → HasCheckedSize ns → count ≡ size_of ns → vec_refusal ns None count ≡ None
none_refused ns count checked counted =
    let first : nat_lt (nonzero_product ns) (2 ^ 63) ≡ true = lt-ltb _ _ checked in
    let enough : nat_lt count (size_of ns) ≡ false = le-ltb _ _ (omega (arith, counted)) in
    let over : nat_lt (size_of ns) count ≡ false = le-ltb _ _ (omega (arith, counted)) in
    rw (first, enough, over) refl

pub none_refused_to_view : (ns : List ℕ) (count : ℕ) → HasCheckedSize ns → count ≡ size_of ns → slice_refusal ns None count ≡ None
none_refused_to_view ns count checked counted =
    let first : nat_lt (nonzero_product ns) (2 ^ 63) ≡ true = lt-ltb _ _ checked in
    let enough : nat_lt count (size_of ns) ≡ false = le-ltb _ _ (omega (arith, counted)) in
    rw (first, enough) refl

-- each index has the element of its number
pub number_shown : {A : Type 0} (order : Bool) (ns : List ℕ) (xs : List A) (i : List ℕ) → inside ns i (stored_at (slice_get xs) (given_place ns (if order then ColumnMajor else RowMajor) None i)) ≡ inside ns i (slice_get xs (item_number order ns i))
number_shown true ns xs i = refl
number_shown false ns xs i = refl
