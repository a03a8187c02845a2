-- What a view of another array, or an array of its own, shows.
use Rattle.nd_array_core.proofs.NamesFromOtherCrates.{◌≡◌, ℕ, List, Order}
use Rattle.nd_shape_and_slice.specs.declared.dimension.Dimension as dimension
use Rattle.nd_shape_and_slice.specs.declared.dimension.AxisCount as axis_count
use Rattle.nd_shape_and_slice.specs.declared.dimension.StrideList as stride_list
use Rattle.nd_elements.specs.declared.storage.Data as data_trait
use Rattle.nd_array_core.specs.declared.base.array.ArrayBase.{ArrayBase}
use Rattle.nd_array_core.specs.ArrayMeaning.{meaning_of, shape_of, element_at}
use Rattle.nd_array_core.specs.PartsOfArrays.{ShowsWhole}
use Rattle.nd_array_core.specs.reshape.ServingStrides.{KeepsRanks, ShowsServed, regrouped_meaning}
use Rattle.nd_array_core.proofs.law_lemmas.LayoutLaws.{same_meaning}

module _
    {S D A T R : Type 0} {s : data_trait.Ghosts S A} {d : dimension.Ghosts D R} {n : axis_count.Ghosts D} {r : stride_list.Ghosts R} {t : stride_list.Ghosts T}
    {Z E U X : Type 0} {z : data_trait.Ghosts Z A} {e : dimension.Ghosts E X} {k : axis_count.Ghosts E} {x : stride_list.Ghosts X} {u : stride_list.Ghosts U} where
  -- one that shows the whole
  pub whole_shown : (a : ArrayBase S D T A R s d n r t) (b : ArrayBase Z E U A X z e k x u) → ShowsWhole a b → meaning_of b ≡ meaning_of a
  whole_shown a b shows = same_meaning (meaning_of a) (shape_of b) (element_at b) shows.0 shows.2

  -- one where each element keeps its rank
  pub ranks_shown : (a : ArrayBase S D T A R s d n r t) (order : Order) (ms : List ℕ) (b : ArrayBase Z E U A X z e k x u) → KeepsRanks a order ms b → meaning_of b ≡ regrouped_meaning order ms (meaning_of a)
  ranks_shown a order ms b keeps = same_meaning (regrouped_meaning order ms (meaning_of a)) (shape_of b) (element_at b) keeps.0 keeps.1

  -- one by strides that serve
  pub served_shown : (a : ArrayBase S D T A R s d n r t) (order : Order) (ms : List ℕ) (b : ArrayBase Z E U A X z e k x u) → ShowsServed a order ms b → meaning_of b ≡ regrouped_meaning order ms (meaning_of a)
  served_shown a order ms b shows = ranks_shown a order ms b (shows.0.0, shows.0.2)
