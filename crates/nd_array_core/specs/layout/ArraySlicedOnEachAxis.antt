-- An array sliced on each axis by the slice that a closure returns for it.
use Rattle.std.specs.Prelude.{List}
use Rattle.nd_shape_and_slice.specs.declared.dimension.Dimension as dimension
use Rattle.nd_shape_and_slice.specs.declared.dimension.AxisCount as axis_count
use Rattle.nd_shape_and_slice.specs.declared.dimension.StrideList as stride_list
use Rattle.nd_shape_and_slice.specs.declared.slice.Slice.{Slice}
use Rattle.nd_elements.specs.declared.storage.Data as data_trait
use Rattle.nd_array_core.specs.declared.base.array.ArrayBase.{ArrayBase}
use Rattle.nd_array_core.specs.PartsOfArrays.{each_sliced_part, ShowsPart, BecomesPart}
use Rattle.nd_array_core.specs.layout.ArrayAfterMutableView.{LeavesBut}

module _
    {S D T A R : Type 0} {s : data_trait.Ghosts S A} {d : dimension.Ghosts D R} {n : axis_count.Ghosts D} {r : stride_list.Ghosts R} {t : stride_list.Ghosts T}
    {Z E U X : Type 0} {z : data_trait.Ghosts Z A} {e : dimension.Ghosts E X} {k : axis_count.Ghosts E} {x : stride_list.Ghosts X} {u : stride_list.Ghosts U} where
  -- Says that `b` is the part of `a` that `slices`, one for each axis, select.
  abbrev pub ShowsEachSliced : ArrayBase S D T A R s d n r t → ArrayBase Z E U A X z e k x u → List Slice → Type 0
  ShowsEachSliced a b slices = ShowsPart a (each_sliced_part a slices) b

  -- Says that `b` is the part of `a` that `slices`, one for each axis, select, and that `left ws`, the array after this
  -- view has ended with the elements `ws`, keeps every other element of `a`.
  abbrev pub LendsEachSliced : ArrayBase S D T A R s d n r t → (List A → ArrayBase S D T A R s d n r t) → ArrayBase Z E U A X z e k x u → List Slice → Type 0
  LendsEachSliced a left b slices = ShowsPart a (each_sliced_part a slices) b × LeavesBut a left (each_sliced_part a slices)

module _
    {S D T A R : Type 0} {s : data_trait.Ghosts S A} {d : dimension.Ghosts D R} {n : axis_count.Ghosts D} {r : stride_list.Ghosts R} {t : stride_list.Ghosts T}
    {E U X : Type 0} {e : dimension.Ghosts E X} {k : axis_count.Ghosts E} {x : stride_list.Ghosts X} {u : stride_list.Ghosts U} where
  -- Says that `b` is the part of `a` that `slices`, one for each axis, select, in the storage of `a`.
  abbrev pub BecomesEachSliced : ArrayBase S D T A R s d n r t → ArrayBase S E U A X s e k x u → List Slice → Type 0
  BecomesEachSliced a b slices = BecomesPart a (each_sliced_part a slices) b
