-- The array behind a head, by the tests that its bytes pass.
use Rattle.std.proofs.Common.{◌≡◌, ◌∙◌, ◌<◌, ◌-◌, ℕ, Bool, true, false, cond, List, length, take, drop, slice_get, refl, sym, ap, arith, eq-eqb, eqb-true}
use Rattle.std.proofs.Math.Path.{fun_ext}
use Rattle.std.proofs.lemmas.List.{length-drop}
use Rattle.std.proofs.Math.Seq.{take-length}
use Rattle.std.specs.Prelude.{Option, Some, Result, Ok, Err, ◌==◌}
use Rattle.nd_shape_and_slice.specs.ShapesAndIndexOrders.{in_box, size_of}
use Rattle.nd_shape_and_slice.proofs.RowMajor.{row_rank_below}
use Rattle.nd_shape_and_slice.proofs.ColumnMajor.{column_rank_below}
use Rattle.nd_elements.specs.ShapeAndElements.{Meaning, inside}
use Rattle.nd_elements.proofs.BoolAndResultCases.{by_bool}
use Rattle.nd_npy_text.specs.declared.item_type.ByteOrder.{ByteOrder}
use Rattle.nd_npy_text.specs.ItemTypes.{kind_size}
use Rattle.nd_npy_text.specs.HeaderDescription.{Description}
use Rattle.nd_npy_text.specs.HeaderTokens.{◌>>=◌}
use Rattle.nd_npy.specs.declared.item.NpyItem as npy_item
use Rattle.nd_npy.specs.declared.errors.ReadNpyError.{ReadNpyError}
use Rattle.nd_npy.specs.declared.errors.ReadNpyError.TheVariants.{OtherKind, WrongSize}
use Rattle.nd_npy.specs.ItemBytes.{item_at, values_in}
use Rattle.nd_npy.specs.FileBytesAndArrays.{item_number, data_size, unless_wrong_size, unless_other_kind, array_of_items, array_after_head, or_header_error, npy_in, IsNpyCause}
use Rattle.nd_npy_text.specs.HeaderReading.{npy_header_in}
use Rattle.nd_npy.proofs.DataSizeAndErrorCauses.{cause_passes}
use Rattle.nd_npy.proofs.ItemValues.{value_at}

module _ {A : Type 0} where
  pub same_meaning : (m : Meaning A) (shape : List ℕ) (at : List ℕ → Option A) → shape ≡ m.shape → ((i : List ℕ) → at i ≡ m.at i) → (let n : Meaning A = record { shape = shape; at = at } in n) ≡ m
  same_meaning m shape at e h = rw (fun_ext h, e) refl

  inside_here : (ns i : List ℕ) (x y : Option A) → (in_box ns i ≡ true → x ≡ y) → inside ns i x ≡ inside ns i y
  inside_here ns i x y same = by_bool (in_box ns i) (λ h. ap (inside ns i) (same h)) (λ h. rw h refl)

module _ {A : Type 0} (item : npy_item.Ghosts A) (d : Description) (bytes : List ℕ) where
  after_kind : (t : Bool) → item.accepts d.item_type.kind ≡ t → unless_other_kind item d ≡ cond t (Ok d) (Err (OtherKind d.item_type.kind))
  after_kind t is = ap (λ b. cond b (Ok d) (Err (OtherKind d.item_type.kind))) is

  after_size : (t : Bool) → (length bytes == data_size d) ≡ t → unless_wrong_size d bytes ≡ cond t (Ok bytes) (Err (WrongSize (data_size d) (length bytes)))
  after_size t is = ap (λ b. cond b (Ok bytes) (Err (WrongSize (data_size d) (length bytes)))) is

  abbrev array_unless_wrong_size : Result Description ReadNpyError → Result (Meaning A) ReadNpyError
  array_unless_wrong_size r = r >>= λ own. unless_wrong_size own bytes >>= λ whole. Ok (array_of_items item own whole)

  abbrev array_if : Result (List ℕ) ReadNpyError → Result (Meaning A) ReadNpyError
  array_if r = r >>= λ whole. Ok (array_of_items item d whole)

  pub array_of_other_kind : item.accepts d.item_type.kind ≡ false → array_after_head item d bytes ≡ Err (OtherKind d.item_type.kind)
  unfolding array_after_head
  array_of_other_kind is = ap array_unless_wrong_size (after_kind false is)

  pub array_of_wrong_size : item.accepts d.item_type.kind ≡ true → (length bytes ≡ data_size d → ⊥) → array_after_head item d bytes ≡ Err (WrongSize (data_size d) (length bytes))
  unfolding array_after_head
  array_of_wrong_size is other = ap array_unless_wrong_size (after_kind true is) ∙ ap array_if (after_size false (ne_test (length bytes) (data_size d) other))
    where
      ne_test : (m n : ℕ) → (m ≡ n → ⊥) → (m == n) ≡ false
      ne_test m n differ = by_test (m == n) refl
        where
          by_test : (t : Bool) → (m == n) ≡ t → t ≡ false
          by_test true e = absurd (differ (eqb-true m n e))
          by_test false e = refl

  pub array_of_whole_bytes : item.accepts d.item_type.kind ≡ true → length bytes ≡ data_size d → array_after_head item d bytes ≡ Ok (array_of_items item d bytes)
  unfolding array_after_head
  array_of_whole_bytes is same = ap array_unless_wrong_size (after_kind true is) ∙ ap array_if (after_size true (eq-eqb (length bytes) (data_size d) same))

  number_below : (order : Bool) (shape i : List ℕ) → in_box shape i ≡ true → item_number order shape i < size_of shape
  number_below true shape i h = column_rank_below shape i h
  number_below false shape i h = row_rank_below shape i h

  -- an array that has the shape, and at each index the value of its number, is the array of the bytes
  pub array_is : (m : Meaning A) (values : List A) (size count : ℕ) → m.shape ≡ d.array_shape → size ≡ kind_size d.item_type.kind → count ≡ size_of d.array_shape → values ≡ values_in (item.value_of d.item_type.order) size count bytes → ((i : List ℕ) → m.at i ≡ inside d.array_shape i (slice_get values (item_number d.fortran_order d.array_shape i))) → m ≡ array_of_items item d bytes
  array_is m values size count shape sized counted are shows = same_meaning (array_of_items item d bytes) m.shape m.at shape each
    where
      here : (i : List ℕ) → in_box d.array_shape i ≡ true → slice_get values (item_number d.fortran_order d.array_shape i) ≡ Some (item.value_of d.item_type.order (item_at (kind_size d.item_type.kind) bytes (item_number d.fortran_order d.array_shape i)))
      here i h =
          let below = number_below d.fortran_order d.array_shape i h in
          ap (λ l. slice_get l (item_number d.fortran_order d.array_shape i)) are
          ∙ value_at (item.value_of d.item_type.order) size count bytes (item_number d.fortran_order d.array_shape i) (omega (arith, below, counted))
          ∙ ap (λ n. Some (item.value_of d.item_type.order (item_at n bytes (item_number d.fortran_order d.array_shape i)))) sized

      each : (i : List ℕ) → m.at i ≡ (array_of_items item d bytes).at i
      each i = shows i ∙ inside_here d.array_shape i (slice_get values (item_number d.fortran_order d.array_shape i)) (Some (item.value_of d.item_type.order (item_at (kind_size d.item_type.kind) bytes (item_number d.fortran_order d.array_shape i)))) (here i)

-- an array of items that are their bytes
pub raw_array_is : (item : npy_item.Ghosts (List ℕ)) (d : Description) (bytes : List ℕ) → item.value_of ≡ (λ order x. x) → item.accepts d.item_type.kind ≡ true → length bytes ≡ data_size d → (m : Meaning (List ℕ)) (values : List (List ℕ)) (size count : ℕ)
    → m.shape ≡ d.array_shape → size ≡ kind_size d.item_type.kind → count ≡ size_of d.array_shape → values ≡ values_in (λ x. x) size count bytes → ((i : List ℕ) → m.at i ≡ inside d.array_shape i (slice_get values (item_number d.fortran_order d.array_shape i))) → array_after_head item d bytes ≡ Ok m
raw_array_is item d bytes raw accepts whole m values size count shape sized counted are shows =
    let same : values ≡ values_in (item.value_of d.item_type.order) size count bytes = are ∙ ap (λ (f : ByteOrder → List ℕ → List ℕ). values_in (f d.item_type.order) size count bytes) (sym raw) in
    array_of_whole_bytes item d bytes accepts whole ∙ ap Ok (sym (array_is item d bytes m values size count shape sized counted same shows))

-- ---- a file, from its head

module _ {A : Type 0} (item : npy_item.Ghosts A) (bytes : List ℕ) where
  abbrev after_head : Result (Description × ℕ) ReadNpyError → Result (Meaning A) ReadNpyError
  after_head r = r >>= λ head. array_after_head item head.0 (drop head.1 bytes)

  rest_whole : (n : ℕ) → take (length bytes - n) (drop n bytes) ≡ drop n bytes
  rest_whole n = ap (λ m. take m (drop n bytes)) (sym (length-drop n bytes)) ∙ take-length (drop n bytes)

  pub npy_of_head : (head : Description × ℕ) → or_header_error (npy_header_in bytes) ≡ Ok head → npy_in item bytes ≡ array_after_head item head.0 (take (length bytes - head.1) (drop head.1 bytes))
  unfolding npy_in
  npy_of_head head is = ap after_head is ∙ ap (array_after_head item head.0) (sym (rest_whole head.1))

  pub npy_of_cause : (e : ReadNpyError) → IsNpyCause e (or_header_error (npy_header_in bytes)) → IsNpyCause e (npy_in item bytes)
  unfolding npy_in
  npy_of_cause e is = cause_passes e (or_header_error (npy_header_in bytes)) (after_head (or_header_error (npy_header_in bytes))) (λ error same. ap after_head same) is
