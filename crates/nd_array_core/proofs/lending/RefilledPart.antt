-- An array with other elements in a part of its storage is the old one but for these.
use Rattle.nd_array_core.proofs.NamesFromOtherCrates.{◌≡◌, ℕ, Bool, true, false, List, length, refl, sym, ap, ◌∙◌, Option, Some, written_where, KeepsPlaces, written_long, written_itself, written_again, OthersStay}
use Rattle.std.specs.Option.{is_some}
use Rattle.nd_shape_and_slice.specs.declared.dimension.Dimension as dimension
use Rattle.nd_shape_and_slice.specs.declared.dimension.AxisCount as axis_count
use Rattle.nd_shape_and_slice.specs.declared.dimension.StrideList as stride_list
use Rattle.nd_elements.specs.declared.storage.Data as data_trait
use Rattle.nd_array_core.specs.declared.base.array.ArrayBase.{ArrayBase}
use Rattle.nd_array_core.specs.ArrayMeaning.{storage_of, meaning_of, memory_layout_of}
use Rattle.nd_array_core.specs.layout.ArrayAfterMutableView.{IsRefilled, array_with_part}
use Rattle.nd_array_core.proofs.lending.ArrayAfterElementWrite.{same_array}

module _ {S D A T R : Type 0} {s : data_trait.Ghosts S A} {d : dimension.Ghosts D R} {n : axis_count.Ghosts D} {r : stride_list.Ghosts R} {t : stride_list.Ghosts T} (refill : (x : S) → List A → (y : S) × KeepsPlaces (s.stored x) (s.stored y)) (items : S → List A) (a : ArrayBase S D T A R s d n r t) (test : ℕ → Bool) where
  pub is_refilled : {F : Type 0} (frame : S → F) (ws : List A) → ((x : S) (us : List A) (p : ℕ) → is_some (s.stored (refill x us).0 p) ≡ is_some (s.stored x p)) → ((x : S) (us : List A) → frame (refill x us).0 ≡ frame x)
      → IsRefilled frame a (array_with_part refill items a test ws)
  unfolding meaning_of memory_layout_of array_with_part
  is_refilled frame ws there same = let us = written_where test (items a.storage) ws in (refl, refl, (λ i. refl), there a.storage us, same a.storage us)

  -- with its own elements it is itself, and so it is with those that were put there last
  pub items_here : ((x : S) → (refill x (items x)).0 ≡ x) → a ≡ array_with_part refill items a test (items a.storage)
  unfolding array_with_part
  items_here itself =
      same_array a (array_with_part refill items a test (items a.storage)) (sym (ap (λ us. (refill a.storage us).0) (written_itself test (items a.storage)) ∙ itself a.storage)) refl

  pub items_again : (ws : List A) → ((x : S) (us : List A) → length us ≡ length (items x) → items (refill x us).0 ≡ us) → array_with_part refill items a test ws ≡ array_with_part refill items a test (items (array_with_part refill items a test ws).storage)
  unfolding array_with_part
  items_again ws put =
      let xs = items a.storage in
      same_array (array_with_part refill items a test ws) (array_with_part refill items a test (items (array_with_part refill items a test ws).storage))
      (ap (λ us. (refill a.storage us).0) (sym (ap (written_where test xs) (put a.storage (written_where test xs ws) (written_long test xs ws)) ∙ written_again test xs ws))) refl

  -- where each place that passes is that of an index of the view, each other place keeps what it held
  pub others_stay : ((x : S) (g : ℕ → Bool) (us : List A) (p : ℕ) → g p ≡ false → s.stored (refill x (written_where g (items x) us)).0 p ≡ s.stored x p)
      → (place : List ℕ → Option ℕ) → ((p : ℕ) → test p ≡ true → (i : List ℕ) × (place i ≡ Some p)) → (ws : List A) → OthersStay place (s.stored (storage_of a)) (s.stored (storage_of (array_with_part refill items a test ws)))
  unfolding memory_layout_of array_with_part
  others_stay outside place named ws p none = by_test (test p) refl
    where
      by_test : (b : Bool) → test p ≡ b → s.stored (refill a.storage (written_where test (items a.storage) ws)).0 p ≡ s.stored a.storage p
      by_test true e = let at = named p e in absurd (none at.0 at.1)
      by_test false e = outside a.storage test ws p e
