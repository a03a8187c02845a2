-- Another shape of the same elements under strides that leave each element in its place, where there are such strides.
use Rattle.std.specs.Prelude.{ℕ, ◌≡◌, ◌<◌, ◌≤◌, List, ℤ, pos, length, replicate, slice_get}
use Rattle.nd_shape_and_slice.specs.declared.dimension.Dimension as dimension
use Rattle.nd_shape_and_slice.specs.declared.dimension.AxisCount as axis_count
use Rattle.nd_shape_and_slice.specs.declared.dimension.StrideList as stride_list
use Rattle.nd_shape_and_slice.specs.declared.shape_builder.Order.{Order}
use Rattle.nd_shape_and_slice.specs.ShapesAndIndexOrders.{size_of}
use Rattle.nd_shape_and_slice.specs.PlacesAndOverlaps.{span_of, IsSeparated}
use Rattle.nd_layout.specs.RanksAndReshapeStrides.{Serves, index_in}
use Rattle.nd_layout.specs.StridesAfterLayoutCalls.{RestsAtOnes}
use Rattle.nd_elements.specs.declared.storage.Data as data_trait
use Rattle.nd_array_core.specs.declared.base.array.ArrayBase.{ArrayBase}
use Rattle.nd_elements.specs.ShapeAndElements.{Meaning, inside}
use Rattle.nd_array_core.specs.ArrayMeaning.{shape_of, element_at, layout_strides, layout_offset}
use Rattle.nd_array_core.specs.PartsOfArrays.{Part, ShowsPart}
use Rattle.nd_array_core.specs.reshape.ReshapeByRank.{regrouped_index}
use Rattle.nd_layout.specs.LayoutStepsOfCalls.{Placement, IsViewStepOf}
use Rattle.nd_layout.specs.declared.layout.Layout.{Layout}

-- Says that some strides serve the shape `ms`: they give each of its indexes the place that the index of `ns` with the
-- same rank in `order` has under the strides `ss`.
abbrev pub SomeServe : Order → List ℕ → List ℤ → List ℕ → Type 0
SomeServe order ns ss ms = (ts : List ℤ) × Serves order ns ss ms ts

-- Says that the strides `ts` serve the shape `ms`, span no more places than `ss`, give each index a place of its own
-- where `ss` do, are 0 on axes of length 1, and are all 0 where there is no element.
pub record IsServedBy (order : Order) (ns : List ℕ) (ss : List ℤ) (ms : List ℕ) (ts : List ℤ) : Type 0 where
  pub serve : Serves order ns ss ms ts
  pub span_no_larger : span_of ms ts ≤ span_of ns ss
  pub stays_separated : 0 < size_of ms → IsSeparated ns ss → IsSeparated ms ts
  pub rests : RestsAtOnes ms ts
  pub empty : size_of ms ≡ 0 → ts ≡ replicate (length ms) (pos 0)

-- Returns the elements of `m` under the shape `ms`, each with its rank in `order`.
abbrev pub regrouped_meaning : {A : Type 0} → Order → List ℕ → Meaning A → Meaning A
regrouped_meaning order ms m = record { shape = ms; at = λ i. inside ms i (m.at (regrouped_index order m.shape ms i)) }

module _ {S D A T R : Type 0} {s : data_trait.Ghosts S A} {d : dimension.Ghosts D R} {n : axis_count.Ghosts D} {r : stride_list.Ghosts R} {t : stride_list.Ghosts T} where
  -- Says that some strides serve the shape `ms`: they leave each element of `a` in its place, with its rank in `order`.
  abbrev pub StridesServe : ArrayBase S D T A R s d n r t → Order → List ℕ → Type 0
  StridesServe a order ms = SomeServe order (shape_of a) (layout_strides a) ms

  -- Returns the elements of `a` under the shape `ms`, each with its rank in `order`, as a part with the strides `ts`.
  abbrev pub regrouped_part : ArrayBase S D T A R s d n r t → Order → List ℕ → List ℤ → Part
  regrouped_part a order ms ts = record { part_shape = ms; part_strides = ts; index_named = regrouped_index order (shape_of a) ms }

module _
    {S D A T R : Type 0} {s : data_trait.Ghosts S A} {d : dimension.Ghosts D R} {n : axis_count.Ghosts D} {r : stride_list.Ghosts R} {t : stride_list.Ghosts T}
    {Z E U X : Type 0} {z : data_trait.Ghosts Z A} {e : dimension.Ghosts E X} {k : axis_count.Ghosts E} {x : stride_list.Ghosts X} {u : stride_list.Ghosts U} where
  -- Says that `b` has the shape `ms`, and that each element has in `b` the rank in `order` that it has in `a`.
  abbrev pub KeepsRanks : ArrayBase S D T A R s d n r t → Order → List ℕ → ArrayBase Z E U A X z e k x u → Type 0
  KeepsRanks a order ms b =
      (shape_of b ≡ ms)
      × ((i : List ℕ) → element_at b i ≡ inside ms i (element_at a (regrouped_index order (shape_of a) ms i)))

  -- Says that `b` shows each element of `a` in its place under the shape `ms`, with its rank in `order`, by strides
  -- that serve, and has the same offset.
  abbrev pub ShowsServed : ArrayBase S D T A R s d n r t → Order → List ℕ → ArrayBase Z E U A X z e k x u → Type 0
  ShowsServed a order ms b =
      ShowsPart a (regrouped_part a order ms (layout_strides b)) b
      × IsServedBy order (shape_of a) (layout_strides a) ms (layout_strides b)
      × (layout_offset b ≡ layout_offset a)

-- ---- Reshapes of elements that lie by a placement: an offset, lengths and strides.
-- Says that some strides serve the shape `ms`: they leave each element of the placement `l` in its place, with its rank
-- in `order`.
abbrev pub SomeServeFor : Order → Placement → List ℕ → Type 0
SomeServeFor order l ms = SomeServe order l.lengths l.strides ms

-- Says that the placement `new` shows the elements of `old` under the shape `ms`, each in its place and with its rank
-- in `order`.
abbrev pub IsRegroupedStep : Order → Placement → List ℕ → Placement → Type 0
IsRegroupedStep order old ms new = IsViewStepOf old new (regrouped_index order old.lengths ms)

-- Says that, where the shape `ms` has elements, the strides of the placement `l` give each index a place of its own.
abbrev pub IsApartFor : List ℕ → Placement → Type 0
IsApartFor ms l = 0 < size_of ms → IsSeparated l.lengths l.strides

-- Says that, where the shape `ms` has elements and the strides of `old` give each index a place of its own, those of
-- `new` do so too.
abbrev pub StaysApartFor : List ℕ → Placement → Placement → Type 0
StaysApartFor ms old new = 0 < size_of ms → IsSeparated old.lengths old.strides → IsSeparated new.lengths new.strides

module _ {D T R : Type 0} {d : dimension.Ghosts D R} {n : axis_count.Ghosts D} {r : stride_list.Ghosts R} {t : stride_list.Ghosts T} where
  -- Says that the strides `ts` serve the shape `ms`: they leave each element of the layout `l` in its place, with its
  -- rank in `order`.
  abbrev pub IsServedOver : Order → Layout D T R d n r t → List ℕ → List ℤ → Type 0
  IsServedOver order l ms ts = IsServedBy order (d.lengths l.dim) (t.strides_of l.strides) ms ts

module _ {S D A T R : Type 0} {s : data_trait.Ghosts S A} {d : dimension.Ghosts D R} {n : axis_count.Ghosts D} {r : stride_list.Ghosts R} {t : stride_list.Ghosts T} where
  -- Says that the list `xs` has the elements of `a` by their rank in `order`.
  abbrev pub ListsInOrder : Order → ArrayBase S D T A R s d n r t → List A → Type 0
  ListsInOrder order a xs = (rank : ℕ) → rank < size_of (shape_of a) → slice_get xs rank ≡ element_at a (index_in order (shape_of a) rank)
