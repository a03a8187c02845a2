-- Another shape of the same elements, each of which keeps its rank in an order: row-major or column-major.
use Rattle.std.specs.Prelude.{ℕ, ◌≡◌, List, [], ◌∷◌, ℤ, pos, IsTrue}
use Rattle.nd_shape_and_slice.specs.declared.dimension.Dimension as dimension
use Rattle.nd_shape_and_slice.specs.declared.dimension.AxisCount as axis_count
use Rattle.nd_shape_and_slice.specs.declared.dimension.StrideList as stride_list
use Rattle.nd_shape_and_slice.specs.declared.shape_builder.Order.{Order}
use Rattle.nd_shape_and_slice.specs.declared.shape_builder.Order.TheVariants.{RowMajor, ColumnMajor}
use Rattle.nd_shape_and_slice.specs.declared.errors.ErrorKind.{ErrorKind}
use Rattle.nd_shape_and_slice.specs.declared.errors.ErrorKind.TheVariants.{IncompatibleShape, IncompatibleLayout}
use Rattle.nd_shape_and_slice.specs.ShapesAndIndexOrders.{in_box, size_of, HasCheckedSize}
use Rattle.nd_shape_and_slice.specs.PlacesAndOverlaps.{displacement_of}
use Rattle.nd_layout.specs.RanksAndReshapeStrides.{rank_in, index_in}
use Rattle.nd_layout.specs.GivenStrides.{ordered_strides}
use Rattle.nd_elements.specs.declared.storage.Data as data_trait
use Rattle.nd_array_core.specs.declared.base.array.ArrayBase.{ArrayBase}
use Rattle.nd_array_core.specs.ArrayMeaning.{shape_of, layout_strides}
use Rattle.nd_array_core.specs.PartsOfArrays.{Part, BecomesPart}
use Rattle.nd_layout.specs.LayoutStepsOfCalls.{Placement}

-- Returns the index of the shape `ns` that has the rank of the index `i` of the shape `ms` in `order`.
abbrev pub regrouped_index : Order → List ℕ → List ℕ → List ℕ → List ℕ
regrouped_index order ns ms i = index_in order ns (rank_in order ms i)

-- Says that each index of the shape `ns` lies, under the strides `ss`, as far from the offset as its rank in `order`.
abbrev pub IsInOrder : Order → List ℕ → List ℤ → Type 0
IsInOrder order ns ss = (i : List ℕ) → IsTrue (in_box ns i) → displacement_of ss i ≡ pos (rank_in order ns i)

-- Says that the shape `ms` has a checked size and as many elements as the shape `ns`.
abbrev pub IsShapeOf : List ℕ → List ℕ → Type 0
IsShapeOf ns ms = HasCheckedSize ms × (size_of ms ≡ size_of ns)

-- The errors with which a reshape from `ns` to `ms` in `order` without copies is refused: `IncompatibleShape` where
-- `ms` isn't a shape of as many elements, and `IncompatibleLayout` where it is one but the elements don't lie in this
-- order.
pub data IsRefused (order : Order) (ns : List ℕ) (ss : List ℤ) (ms : List ℕ) : ErrorKind → Type 0 where
  NoShape : ¬ (IsShapeOf ns ms) → IsRefused order ns ss ms IncompatibleShape
  NotInOrder : IsShapeOf ns ms → ¬ (IsInOrder order ns ss) → IsRefused order ns ss ms IncompatibleLayout

-- Says that a reshape of the elements of the placement `l` to `ms` in `order` without copies is refused with the error
-- `e`.
abbrev pub IsRefusedFor : Order → Placement → List ℕ → ErrorKind → Type 0
IsRefusedFor order l ms e = IsRefused order l.lengths l.strides ms e

-- Says that a reshape from `ns` to `ms` without copies is refused with the error `e` in row-major order and in
-- column-major order.
abbrev pub IsRefusedInBoth : List ℕ → List ℤ → List ℕ → ErrorKind → Type 0
IsRefusedInBoth ns ss ms e = IsRefused RowMajor ns ss ms e × IsRefused ColumnMajor ns ss ms e

-- The order in which a reshape is tried: row-major where the elements lie so, and otherwise column-major.
pub data IsOrderTried (ns : List ℕ) (ss : List ℤ) : Order → Type 0 where
  Rows : IsInOrder RowMajor ns ss → IsOrderTried ns ss RowMajor
  Columns : ¬ (IsInOrder RowMajor ns ss) → IsOrderTried ns ss ColumnMajor

module _ {S D T A R : Type 0} {s : data_trait.Ghosts S A} {d : dimension.Ghosts D R} {n : axis_count.Ghosts D} {r : stride_list.Ghosts R} {t : stride_list.Ghosts T} where
  -- Says that each element of `a` lies as far from the offset as its rank in `order`.
  abbrev pub LiesInOrder : Order → ArrayBase S D T A R s d n r t → Type 0
  LiesInOrder order a = IsInOrder order (shape_of a) (layout_strides a)

  -- Returns the elements of `a` under the shape `ms`, each with its rank in `order`, as a part with the strides of a
  -- new array.
  abbrev pub ordered_part : ArrayBase S D T A R s d n r t → Order → List ℕ → Part
  ordered_part a order ms = record { part_shape = ms; part_strides = ordered_strides order ms; index_named = regrouped_index order (shape_of a) ms }

  -- Returns the shape of one axis that is as long as `a` has elements.
  abbrev pub flat_shape : ArrayBase S D T A R s d n r t → List ℕ
  flat_shape a = size_of (shape_of a) ∷ []

  -- Says that a reshape of `a` to `ms` in `order` without copies is refused with the given error.
  abbrev pub RefusesShapeInOrder : ArrayBase S D T A R s d n r t → Order → List ℕ → ErrorKind → Type 0
  RefusesShapeInOrder a order ms = IsRefused order (shape_of a) (layout_strides a) ms

module _
    {S D T A R : Type 0} {s : data_trait.Ghosts S A} {d : dimension.Ghosts D R} {n : axis_count.Ghosts D} {r : stride_list.Ghosts R} {t : stride_list.Ghosts T}
    {E U X : Type 0} {e : dimension.Ghosts E X} {k : axis_count.Ghosts E} {x : stride_list.Ghosts X} {u : stride_list.Ghosts U} where
  -- Says that `b` shows the elements of `a` in the same storage under the shape `ms`, each with its rank in `order`, by
  -- the strides of a new array.
  abbrev pub IsReshapeOf : ArrayBase S D T A R s d n r t → Order → List ℕ → ArrayBase S E U A X s e k x u → Type 0
  IsReshapeOf a order ms b = BecomesPart a (ordered_part a order ms) b
