-- What a list of slices names was filled, and the rest kept: the same by a test on each index.
use Rattle.nd_array_core.proofs.NamesFromOtherCrates.{◌≡◌, ◌∙◌, ap, sym, ℕ, Bool, true, false, List, refl, Option, Some, if◌then◌else◌, nat_le, and_parts, true≢false, SliceInfoElem, in_box, fits_shape, each_fits, axes_kept, shape_after, index_before, names_index, names_of}
use Rattle.nd_shape_and_slice.proofs.IndexInSlicesTest.{named_by}
use Rattle.nd_array_core.specs.scoped.ViewTasks.{OthersKeep}

module _ {A : Type 0} (ns : List ℕ) (es : List SliceInfoElem) (old new : List ℕ → Option A) where
  pub kept_unnamed : fits_shape ns es ≡ true → OthersKeep (shape_after ns es) (index_before ns es) old new → (j : List ℕ) → names_index ns es j ≡ false → new j ≡ old j
  kept_unnamed fits kept j none =
      let f = and_parts (each_fits ns es) (nat_le (axes_kept es) 32) fits in
      kept j (λ i within same. true≢false (sym (names_of ns es i f.0 within) ∙ ap (names_index ns es) same ∙ none))

  pub named_filled : (x : A) → fits_shape ns es ≡ true → ((i : List ℕ) → in_box (shape_after ns es) i ≡ true → new (index_before ns es i) ≡ Some x)
      → (j : List ℕ) → in_box ns j ≡ true → names_index ns es j ≡ true → new j ≡ Some x
  named_filled x fits filled j within e =
      let f = and_parts (each_fits ns es) (nat_le (axes_kept es) 32) fits in
      let i = named_by ns es j f.0 within e in
      ap new (sym i.2) ∙ filled i.0 i.1

  pub filled_where : (x : A) → fits_shape ns es ≡ true → OthersKeep (shape_after ns es) (index_before ns es) old new → ((i : List ℕ) → in_box (shape_after ns es) i ≡ true → new (index_before ns es i) ≡ Some x)
      → (j : List ℕ) → in_box ns j ≡ true → new j ≡ (if names_index ns es j then Some x else old j)
  filled_where x fits kept filled j within = by_test (names_index ns es j) refl
    where
      by_test : (b : Bool) → names_index ns es j ≡ b → new j ≡ (if b then Some x else old j)
      by_test true e = named_filled x fits filled j within e
      by_test false e = kept_unnamed fits kept j e
