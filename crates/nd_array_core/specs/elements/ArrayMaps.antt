-- Arrays that show what a function gives of the elements of another array.
use Rattle.std.specs.Prelude.{◌≡◌, ℕ, List, Option, Some}
use Rattle.std.specs.Borrow.{MutBor}
use Rattle.std.specs.Fn.{Mut}
use Rattle.nd_shape_and_slice.specs.declared.dimension.Dimension as dimension
use Rattle.nd_shape_and_slice.specs.declared.dimension.AxisCount as axis_count
use Rattle.nd_shape_and_slice.specs.declared.dimension.StrideList as stride_list
use Rattle.nd_elements.specs.declared.storage.Data as data_trait
use Rattle.nd_array_core.specs.declared.base.array.ArrayBase.{ArrayBase}
use Rattle.nd_array_core.specs.ArrayMeaning.{meaning_of, shape_of, element_at}
use Rattle.nd_elements.specs.ShapeAndElements.{inside}
use Rattle.nd_elements.specs.WritesByIndex.{IsOldOrNew}
use Rattle.nd_elements.specs.elements.ElementMapsMut.{HandsOutElements}
use Rattle.nd_elements.specs.elements.ElementMaps.{HasAnswersOfAll, HasSomeAnswersOf, IsMappedBy, IsOldOrMapped}

module _
    {S D T A R : Type 0} {s : data_trait.Ghosts S A} {d : dimension.Ghosts D R} {n : axis_count.Ghosts D} {r : stride_list.Ghosts R} {t : stride_list.Ghosts T}
    {Z E U B X : Type 0} {z : data_trait.Ghosts Z B} {e : dimension.Ghosts E X} {k : axis_count.Ghosts E} {x : stride_list.Ghosts X} {u : stride_list.Ghosts U} where
  -- Says that `b` has at each index what the function `h` gives of the element of `a` there.
  abbrev pub ShowsMapped : (A → B) → ArrayBase S D T A R s d n r t → ArrayBase Z E U B X z e k x u → Type 0
  ShowsMapped h a b = IsMappedBy h (element_at a) (element_at b)

  -- Says that `b` has at each index what the closure answered for the element of `a` there, with one call for each
  -- element.
  abbrev pub ShowsAnswers : {F : Type 0} → (F → Option A → B → F → Type 0) → F → ArrayBase S D T A R s d n r t → ArrayBase Z E U B X z e k x u → Type 0
  ShowsAnswers answers f a b = HasAnswersOfAll answers (meaning_of a) f (element_at b)

module _ {S D T A R : Type 0} {s : data_trait.Ghosts S A} {d : dimension.Ghosts D R} {n : axis_count.Ghosts D} {r : stride_list.Ghosts R} {t : stride_list.Ghosts T} where
  -- Says that `b` has at each index the element of `a`, or what the function `h` gives of it.
  abbrev pub ShowsOldOrMapped : (A → A) → ArrayBase S D T A R s d n r t → ArrayBase S D T A R s d n r t → Type 0
  ShowsOldOrMapped h a b = IsOldOrMapped h (element_at a) (element_at b)

  -- Says that the closure was handed each element of `a` once, and that at its index `b` has what the call left there,
  -- and `c` has what it answered.
  abbrev pub ShowsHanded : {F Z E U B X : Type 0} {z : data_trait.Ghosts Z B} {e : dimension.Ghosts E X} {k : axis_count.Ghosts E} {x : stride_list.Ghosts X} {u : stride_list.Ghosts U}
      → Mut F (MutBor A × Unit {0}) (B × (MutBor A × Unit {0})) → F → ArrayBase S D T A R s d n r t → ArrayBase S D T A R s d n r t → ArrayBase Z E U B X z e k x u → Type 0
  ShowsHanded g f a b = λ c. HandsOutElements g f (meaning_of a) (element_at b) (element_at c)

  -- Says that `b` has the value `x` at each index of the shape of `a`.
  abbrev pub ShowsValue : A → ArrayBase S D T A R s d n r t → ArrayBase S D T A R s d n r t → Type 0
  ShowsValue x a b = (i : List ℕ) → element_at b i ≡ inside (shape_of a) i (Some x)

  -- Says that `b` has at each index the element of `a`, or the value `x`.
  abbrev pub ShowsOldOrValue : A → ArrayBase S D T A R s d n r t → ArrayBase S D T A R s d n r t → Type 0
  ShowsOldOrValue x a b = IsOldOrNew (shape_of a) (element_at a) x (element_at b)

  -- Says that `b` has at some indexes what the closure answered for the element of `a` there, and the element of `a` at
  -- all others.
  abbrev pub ShowsSomeAnswers : {F : Type 0} → (F → Option A → A → F → Type 0) → F → ArrayBase S D T A R s d n r t → ArrayBase S D T A R s d n r t → Type 0
  ShowsSomeAnswers answers f a b = HasSomeAnswersOf answers (meaning_of a) f (element_at b)
