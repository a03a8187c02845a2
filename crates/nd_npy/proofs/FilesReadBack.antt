-- The file of an array, read back.
use Rattle.std.proofs.Common.{◌≡◌, ◌∙◌, ◌+◌, ◌*◌, ℕ, zero, suc, Bool, true, false, List, [], ◌∷◌, ◌++◌, length, take, drop, slice_get, refl, sym, ap, arith, is_some, All, slice_index_or, subst}
use Rattle.std.specs.Prelude.{Option, Some, None, Ok, IsTrue}
use Rattle.std.specs.List.{flat_map}
use Rattle.std.proofs.lemmas.List.{drop-drop, length-append}
use Rattle.std.proofs.Math.Seq.{drop-append_seam, take-append_seam}
use Rattle.nd_shape_and_slice.specs.ShapesAndIndexOrders.{in_box}
use Rattle.nd_elements.specs.ShapeAndElements.{Meaning, inside}
use Rattle.nd_elements.proofs.BoolAndResultCases.{by_bool}
use Rattle.nd_npy_text.specs.declared.item_type.Kind.{Kind}
use Rattle.nd_npy_text.specs.declared.item_type.ByteOrder.{ByteOrder}
use Rattle.nd_npy_text.specs.declared.item_type.ItemType.{ItemType}
use Rattle.nd_npy_text.specs.ItemTypes.{kind_size}
use Rattle.nd_npy_text.specs.HeaderDescription.{Description, IsWholeHeader, described}
use Rattle.nd_npy_text.specs.HeaderLaws.{HeadersReadBack}
use Rattle.nd_npy_text.specs.HeaderTokens.{◌>>=◌}
use Rattle.nd_npy_text.specs.HeaderWriting.{npy_header_text}
use Rattle.nd_npy.specs.declared.item.NpyItem as npy_item
use Rattle.nd_npy.specs.ItemBytes.{item_at}
use Rattle.nd_npy.specs.FileBytesAndArrays.{item_number, listed_elements, data_size, array_of_items, array_after_head, npy_in, file_of, file_in, or_header_error}
use Rattle.nd_npy.specs.ReadBackLaws.{IsWholeArray}
use Rattle.nd_npy.proofs.ArrayAfterHeader.{array_of_whole_bytes, same_meaning}
use Rattle.nd_npy.proofs.ElementsInFileOrder.{listed_count, listed_get}

-- ---- items behind one another

first_of : {X : Type 0} (P : X → Type 0) (x : X) (xs : List X) → All P (x ∷ xs) → P x
first_of P x xs all = all 0 x (omega arith)

rest_of : {X : Type 0} (P : X → Type 0) (x : X) (xs : List X) → All P (x ∷ xs) → All P xs
rest_of P x xs all k d h = all (suc k) d (omega (arith, h))

module _ {A : Type 0} (f : A → List ℕ) (size : ℕ) where
  abbrev Sized : A → Type 0
  Sized x = length (f x) ≡ size

  front : (x : A) (bytes : List ℕ) → length (f x) ≡ size → take size (f x ++ bytes) ≡ f x
  front x bytes is = ap (λ n. take n (f x ++ bytes)) (sym is) ∙ take-append_seam (f x) bytes

  behind : (x : A) (bytes : List ℕ) → length (f x) ≡ size → drop size (f x ++ bytes) ≡ bytes
  behind x bytes is = ap (λ n. drop n (f x ++ bytes)) (sym is) ∙ drop-append_seam (f x) bytes

  pub items_long : (xs : List A) → All (λ x. length (f x) ≡ size) xs → length (flat_map f xs) ≡ length xs * size
  items_long [] sized = omega arith
  items_long (x ∷ xs) sized =
      let one = first_of Sized x xs sized in
      let others = items_long xs (rest_of Sized x xs sized) in
      let product : length (x ∷ xs) * size ≡ size + length xs * size = grind arith in
      length-append (f x) (flat_map f xs) ∙ omega (arith, one, others, product)

  -- the item of number k is the bytes of the k-th element
  pub item_is : (xs : List A) (k : ℕ) (x : A) → All (λ x. length (f x) ≡ size) xs → slice_get xs k ≡ Some x → take size (drop (k * size) (flat_map f xs)) ≡ f x
  item_is [] k x sized is = absurd cc
  item_is (y ∷ ys) zero x sized is =
      let same : y ≡ x = cc in
      let none : 0 * size ≡ 0 = omega arith in
      ap (λ k. take size (drop k (f y ++ flat_map f ys))) none ∙ front y (flat_map f ys) (first_of Sized y ys sized) ∙ ap f same
  item_is (y ∷ ys) (suc k) x sized is =
      let sum : size + k * size ≡ suc k * size = grind arith in
      let further : drop (k * size) (drop size (f y ++ flat_map f ys)) ≡ drop (suc k * size) (f y ++ flat_map f ys) = drop-drop (k * size) size (f y ++ flat_map f ys) ∙ ap (λ m. drop m (f y ++ flat_map f ys)) sum in
      let past : drop size (f y ++ flat_map f ys) ≡ flat_map f ys = behind y (flat_map f ys) (first_of Sized y ys sized) in
      ap (take size) (sym further ∙ ap (drop (k * size)) past) ∙ item_is ys k x (rest_of Sized y ys sized) is

-- ---- an array's file

holds_at : {X : Type 0} (P : X → Type 0) (xs : List X) (k : ℕ) (x : X) → All P xs → slice_get xs k ≡ Some x → P x
holds_at P [] k x all is = absurd cc
holds_at P (y ∷ ys) zero x all is = let same : y ≡ x = cc in subst P same (first_of P y ys all)
holds_at P (y ∷ ys) (suc k) x all is = holds_at P ys k x (rest_of P y ys all) is

module _
    {A : Type 0} (item : npy_item.Ghosts A)
    (sizes : (kind : Kind) → IsTrue (item.accepts kind) → kind_size kind ≡ item.size)
    (sized : (order : ByteOrder) (x : A) → item.fits x → length (item.bytes_of order x) ≡ item.size)
    (back : (order : ByteOrder) (x : A) → item.fits x → item.value_of order (item.bytes_of order x) ≡ x)
    (m : Meaning A) (t : ItemType) (fortran : Bool) (whole : IsWholeArray m) (fits : All item.fits (listed_elements fortran m)) (accepts : IsTrue (item.accepts t.kind)) where
  abbrev d : Description
  d = described t fortran m.shape

  abbrev listed : List A
  listed = listed_elements fortran m

  abbrev items : List ℕ
  items = flat_map (item.bytes_of t.order) listed

  all_sized : All (λ x. length (item.bytes_of t.order x) ≡ kind_size t.kind) listed
  all_sized k e below = sized t.order (slice_index_or listed k e) (fits k e below) ∙ sym (sizes t.kind accepts)

  items_fit : length items ≡ data_size d
  items_fit = items_long (item.bytes_of t.order) (kind_size t.kind) listed all_sized ∙ ap (λ n. n * kind_size t.kind) (listed_count m whole.some_inside fortran)

  abbrev shown : List ℕ → Option A
  shown i = Some (item.value_of t.order (item_at (kind_size t.kind) items (item_number fortran m.shape i)))

  shown_is : (i : List ℕ) (o : Option A) → m.at i ≡ o → is_some o ≡ true → slice_get listed (item_number fortran m.shape i) ≡ o → shown i ≡ o
  shown_is i None is some found = absurd cc
  shown_is i (Some x) is some found =
      let bytes = item_is (item.bytes_of t.order) (kind_size t.kind) listed (item_number fortran m.shape i) x all_sized found in
      ap (λ l. Some (item.value_of t.order l)) bytes ∙ ap Some (back t.order x (holds_at item.fits listed (item_number fortran m.shape i) x fits found))

  each_shown : (i : List ℕ) → inside m.shape i (shown i) ≡ m.at i
  each_shown i = by_bool (in_box m.shape i)
      (λ h. rw h (shown_is i (m.at i) refl (whole.some_inside i h) (listed_get m whole.some_inside fortran i h)))
      (λ h. rw h (sym (whole.outside i h)))

  array_back : array_of_items item d items ≡ m
  array_back = same_meaning m m.shape (λ i. inside m.shape i (shown i)) refl each_shown

  pub read_back_in : HeadersReadBack → IsWholeHeader d → npy_in item (file_in item fortran t m) ≡ Ok m
  unfolding npy_in file_in
  read_back_in headers head =
      ap (λ r. or_header_error r >>= λ h. array_after_head item h.0 (drop h.1 (npy_header_text d ++ items))) (headers d items head)
      ∙ ap (array_after_head item d) (drop-append_seam (npy_header_text d) items)
      ∙ array_of_whole_bytes item d items accepts items_fit
      ∙ ap Ok array_back

-- the file in row-major order
pub file_is : {A : Type 0} (item : npy_item.Ghosts A) (t : ItemType) (m : Meaning A) → file_of item t m ≡ file_in item false t m
unfolding file_of file_in
file_is item t m = refl
