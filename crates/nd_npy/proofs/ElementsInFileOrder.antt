-- The elements in the order in which a file lists them.
use Rattle.std.proofs.Common.{◌≡◌, ◌∙◌, ℕ, Bool, true, false, List, length, reverse, slice_get, refl, sym, ap, is_some}
use Rattle.std.specs.Prelude.{IsTrue, IsSome}
use Rattle.std.proofs.lemmas.List.{length-reverse, reverse-reverse}
use Rattle.nd_shape_and_slice.specs.ShapesAndIndexOrders.{in_box, size_of, row_rank, column_rank}
use Rattle.nd_shape_and_slice.specs.declared.shape_builder.Order.TheVariants.{RowMajor}
use Rattle.nd_shape_and_slice.proofs.RowMajor.{length-in_box}
use Rattle.nd_layout.proofs.reshape_lemmas.AxesFromFastest.{size_of-ordered, in_box-ordered, rank_in-ordered}
use Rattle.nd_elements.specs.ShapeAndElements.{Meaning}
use Rattle.nd_elements.proofs.elements_lemmas.ElementsCollectedInOrder.{meaning_count, meaning_get}
use Rattle.nd_npy.specs.FileBytesAndArrays.{item_number, axes_reversed, listed_elements}

-- an index of the shape with its axes in the opposite order
pub reversed_box : (ns i : List ℕ) → in_box ns i ≡ true → in_box (reverse ns) (reverse i) ≡ true
reversed_box ns i h = in_box-ordered RowMajor ns i (length-in_box ns i h) ∙ h

back_box : (ns i : List ℕ) → in_box (reverse ns) i ≡ true → in_box ns (reverse i) ≡ true
back_box ns i h = ap (λ ms. in_box ms (reverse i)) (sym (reverse-reverse ns)) ∙ reversed_box (reverse ns) i h

-- its row-major rank is the column-major rank
reversed_rank : (ns i : List ℕ) → in_box ns i ≡ true → row_rank (reverse ns) (reverse i) ≡ column_rank ns i
reversed_rank ns i h =
    let l = length-reverse i ∙ length-in_box ns i h ∙ sym (length-reverse ns) in
    sym (rank_in-ordered RowMajor (reverse ns) (reverse i) l) ∙ ap (λ ms. column_rank ms (reverse (reverse i))) (reverse-reverse ns) ∙ ap (column_rank ns) (reverse-reverse i)

module _ {A : Type 0} (m : Meaning A) (some_inside : (i : List ℕ) → IsTrue (in_box m.shape i) → IsSome (m.at i)) where
  reversed_at : (i : List ℕ) → in_box (reverse m.shape) i ≡ true → (axes_reversed m).at i ≡ m.at (reverse i)
  reversed_at i h = rw h refl

  reversed_some : (i : List ℕ) → in_box (reverse m.shape) i ≡ true → is_some ((axes_reversed m).at i) ≡ true
  reversed_some i h = ap is_some (reversed_at i h) ∙ some_inside (reverse i) (back_box m.shape i h)

  -- a file lists as many elements as the array has
  pub listed_count : (order : Bool) → length (listed_elements order m) ≡ size_of m.shape
  listed_count true = meaning_count (axes_reversed m) reversed_some ∙ size_of-ordered RowMajor m.shape
  listed_count false = meaning_count m some_inside

  -- the element of each index is listed at its number
  pub listed_get : (order : Bool) (i : List ℕ) → in_box m.shape i ≡ true → slice_get (listed_elements order m) (item_number order m.shape i) ≡ m.at i
  listed_get true i h =
      let there = reversed_box m.shape i h in
      ap (slice_get (listed_elements true m)) (sym (reversed_rank m.shape i h))
      ∙ meaning_get (axes_reversed m) reversed_some (reverse i) there
      ∙ reversed_at (reverse i) there
      ∙ ap m.at (reverse-reverse i)
  listed_get false i h = meaning_get m some_inside i h
