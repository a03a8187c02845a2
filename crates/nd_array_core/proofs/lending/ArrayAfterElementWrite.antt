-- An array of which one element is written is the one that has another storage, and shows it.
use Rattle.nd_array_core.proofs.NamesFromOtherCrates.{◌≡◌, ℕ, ◌<◌, Bool, true, false, List, length, ℤ, pos, negsuc, refl, ap, sym, ◌∙◌, props, is_prop→PathP, nat_abs, nat_eq, Option, Some, is_some, if◌then◌else◌, unsigned_Decides, in_box, size_of, place_of, IsSeparated, names_place, written_at, place_number, inside, OthersStay, written_element, KeepsPlaces}
use Rattle.nd_shape_and_slice.specs.declared.dimension.Dimension as dimension
use Rattle.nd_shape_and_slice.specs.declared.dimension.AxisCount as axis_count
use Rattle.nd_shape_and_slice.specs.declared.dimension.StrideList as stride_list
use Rattle.nd_elements.specs.declared.storage.Data as data_trait
use Rattle.nd_array_core.specs.declared.base.array.ArrayBase.{ArrayBase}
use Rattle.nd_array_core.specs.ArrayMeaning.{shape_of, meaning_of, memory_layout_of}
use Rattle.nd_array_core.specs.base.ArrayWrites.{IsWrittenAt}
use Rattle.nd_array_core.specs.base.ArrayAfterElementBorrow.{array_with_element}
use Rattle.nd_array_core.specs.reshape.ArrayAfterSliceBorrow.{array_with_run, array_with_lent}

numbered : {A : Type 0} (stored : ℕ → Option A) (z : ℤ) → names_place stored z ≡ true → (pos (nat_abs z) ≡ z) × (is_some (stored (nat_abs z)) ≡ true)
numbered stored (pos p) has = (refl, has)
numbered stored (negsuc p) has = cc

others : {A : Type 0} (stored new : ℕ → Option A) (place : List ℕ → Option ℕ) (index : List ℕ) (q : ℕ) (x : A) → place index ≡ Some q
    → ((p : ℕ) → new p ≡ written_at stored q x p) → OthersStay place stored new
others stored new place index q x at_q is p unnamed = is p ∙ by_test (nat_eq p q) refl
  where
    by_test : (b : Bool) → nat_eq p q ≡ b → (if b then Some x else stored p) ≡ stored p
    by_test true e = absurd (unnamed index (at_q ∙ ap Some (sym ((unsigned_Decides p q).0 e))))
    by_test false e = refl

module _ {S D T A R : Type 0} {s : data_trait.Ghosts S A} {d : dimension.Ghosts D R} {n : axis_count.Ghosts D} {r : stride_list.Ghosts R} {t : stride_list.Ghosts T} where
  -- arrays of one storage and one layout are one array
  pub same_array : (a b : ArrayBase S D T A R s d n r t) → a.storage ≡ b.storage → a.layout ≡ b.layout → a ≡ b
  same_array a b p q = λ k. record {
    storage = p k;
    layout = q k;
    inside = is_prop→PathP (λ j. (i : List ℕ) → in_box (d.lengths (q j).dim) i ≡ true → names_place (s.stored (p j)) (place_of (q j).offset (t.strides_of (q j).strides) i) ≡ true) (λ j. hlevel props) a.inside b.inside k;
    separated = is_prop→PathP (λ j. s.exclusive ≡ true → 0 < size_of (d.lengths (q j).dim) → IsSeparated (d.lengths (q j).dim) (t.strides_of (q j).strides)) (λ j. hlevel props) a.separated b.separated k;
  }

  -- one whose storage has another element at the place of an index
  pub with_element_is : (set : (x : S) → ℕ → A → (y : S) × KeepsPlaces (s.stored x) (s.stored y)) (a : ArrayBase S D T A R s d n r t) (p : ℕ) (i : List ℕ) (x : A) (b : ArrayBase S D T A R s d n r t)
      → p ≡ nat_abs (place_of a.layout.offset (t.strides_of a.layout.strides) i) → b.storage ≡ (set a.storage p x).0 → b.layout ≡ a.layout → b ≡ array_with_element set a i x
  unfolding array_with_element
  with_element_is set a p i x b at_p storage layout = same_array b (array_with_element set a i x) (storage ∙ ap (λ q. (set a.storage q x).0) at_p) layout

  -- one whose storage has others at as many places as it has elements
  pub with_run_is : (set : (x : S) → ℕ → ℕ → List A → (y : S) × KeepsPlaces (s.stored x) (s.stored y)) (a : ArrayBase S D T A R s d n r t) (first p k : ℕ) (ws : List A) (b : ArrayBase S D T A R s d n r t)
      → p ≡ first → k ≡ size_of (d.lengths a.layout.dim) → b.storage ≡ (set a.storage p k ws).0 → b.layout ≡ a.layout → b ≡ array_with_run set a first ws
  unfolding array_with_run
  with_run_is set a first p k ws b at_first count storage layout = same_array b (array_with_run set a first ws) (storage ∙ ap (λ q. (set a.storage q k ws).0) at_first ∙ ap (λ m. (set a.storage first m ws).0) count) layout

  -- one whose storage has others at as many places as a slice has items
  pub with_lent_is : (set : (x : S) → ℕ → ℕ → List A → (y : S) × KeepsPlaces (s.stored x) (s.stored y)) (a : ArrayBase S D T A R s d n r t) (first p k : ℕ) (xs ws : List A) (b : ArrayBase S D T A R s d n r t)
      → p ≡ first → length xs ≡ k → b.storage ≡ (set a.storage p k ws).0 → b.layout ≡ a.layout → b ≡ array_with_lent set a first xs ws
  unfolding array_with_lent
  with_lent_is set a first p k xs ws b at_first count storage layout = same_array b (array_with_lent set a first xs ws) (storage ∙ ap (λ q. (set a.storage q k ws).0) at_first ∙ ap (λ m. (set a.storage first m ws).0) (sym count)) layout

  -- it shows the new element at the index, and every other as it was
  pub is_written : (set : (x : S) → ℕ → A → (y : S) × KeepsPlaces (s.stored x) (s.stored y)) {F : Type 0} (frame : S → F) (a : ArrayBase S D T A R s d n r t) (i : List ℕ) (x : A)
      → s.exclusive ≡ true → ((u : S) (q : ℕ) (y : A) (p : ℕ) → is_some (s.stored u q) ≡ true → s.stored (set u q y).0 p ≡ written_at (s.stored u) q y p)
      → ((u : S) (q : ℕ) (y : A) → frame (set u q y).0 ≡ frame u) → in_box (shape_of a) i ≡ true → IsWrittenAt frame a i x (array_with_element set a i x)
  unfolding array_with_element meaning_of memory_layout_of
  is_written set frame a i x alone written same_frame h =
      let ns = d.lengths a.layout.dim in let ss = t.strides_of a.layout.strides in
      let z = place_of a.layout.offset ss i in
      let there = numbered (s.stored a.storage) z (a.inside i h) in
      let new = set a.storage (nat_abs z) x in
      let law : (p : ℕ) → s.stored new.0 p ≡ written_at (s.stored a.storage) (nat_abs z) x p = λ p. written a.storage (nat_abs z) x p there.1 in (
        written_element (s.stored a.storage) (s.stored new.0) ns ss a.layout.offset i (nat_abs z) x a.layout.as_many (a.separated alone) h there.0 law,
        (
          refl,
          refl,
          (λ k. refl),
          others (s.stored a.storage) (s.stored new.0) (λ k. inside ns k (place_number (place_of a.layout.offset ss k))) i (nat_abs z) x (rw h (ap place_number (sym there.0))) law,
          same_frame a.storage (nat_abs z) x,
          refl,
        ),
      )
