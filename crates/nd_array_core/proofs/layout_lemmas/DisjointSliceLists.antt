-- Parts of an array that lists of slices name.
use Rattle.nd_array_core.proofs.NamesFromOtherCrates.{◌≡◌, ℕ, true, List, ℤ, refl, ap, sym, ◌∙◌, SliceInfoElem, in_box, shape_after, index_before, LayoutsShareNoPlace, IsStep}
use Rattle.nd_shape_and_slice.specs.declared.dimension.Dimension as dimension
use Rattle.nd_shape_and_slice.specs.declared.dimension.AxisCount as axis_count
use Rattle.nd_shape_and_slice.specs.declared.dimension.StrideList as stride_list
use Rattle.nd_elements.specs.declared.storage.Data as data_trait
use Rattle.nd_array_core.specs.declared.base.array.ArrayBase.{ArrayBase}
use Rattle.nd_array_core.specs.layout.MultiSlice.{NameNothingInCommon}
use Rattle.nd_array_core.proofs.layout_lemmas.TakenAndLeftStorage.{steps_apart}

module _ {S D T A R : Type 0} {s : data_trait.Ghosts S A} {d : dimension.Ghosts D R} {n : axis_count.Ghosts D} {r : stride_list.Ghosts R} {t : stride_list.Ghosts T} (a : ArrayBase S D T A R s d n r t) (alone : s.exclusive ≡ true)
    {offset' : ℕ} {ns' : List ℕ} {ss' : List ℤ} {es : List SliceInfoElem} (is : ns' ≡ shape_after (d.lengths a.layout.dim) es) (step : IsStep a.layout.offset (d.lengths a.layout.dim) (t.strides_of a.layout.strides) offset' ns' ss' (index_before (d.lengths a.layout.dim) es)) where
  -- lists that name nothing in common give layouts that share no place
  pub lists_apart : {offset'' : ℕ} {ns'' : List ℕ} {ss'' : List ℤ} {fs : List SliceInfoElem} → ns'' ≡ shape_after (d.lengths a.layout.dim) fs → IsStep a.layout.offset (d.lengths a.layout.dim) (t.strides_of a.layout.strides) offset'' ns'' ss'' (index_before (d.lengths a.layout.dim) fs)
      → NameNothingInCommon (d.lengths a.layout.dim) es fs → LayoutsShareNoPlace offset' ns' ss' offset'' ns'' ss''
  lists_apart is' step' nothing =
      steps_apart a.layout.offset (d.lengths a.layout.dim) (t.strides_of a.layout.strides) a.layout.as_many (a.separated alone) step step' (λ i j h k e. nothing (record {
        common = index_before (d.lengths a.layout.dim) es i;
        in_first = record { new = i; in_result = ap (λ m. in_box m i) (sym is) ∙ h; stands_for = refl };
        in_second = record { new = j; in_result = ap (λ m. in_box m j) (sym is') ∙ k; stands_for = sym e };
      }))
