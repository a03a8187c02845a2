-- What an array is after a mutable borrow of all its elements as one slice has ended.
use Rattle.std.specs.Prelude.{◌≡◌, ℕ, List, Option, length, slice_get}
use Rattle.std.specs.Borrow.{Fml, RattleType, MutBor, Lends, LendsIf, Array, follows_if}
use Rattle.std.specs.Option.{ghost_name_of}
use Rattle.nd_shape_and_slice.specs.ShapesAndIndexOrders.{size_of, row_rank}
use Rattle.nd_shape_and_slice.specs.declared.dimension.Dimension as dimension
use Rattle.nd_shape_and_slice.specs.declared.dimension.AxisCount as axis_count
use Rattle.nd_shape_and_slice.specs.declared.dimension.StrideList as stride_list
use Rattle.nd_elements.specs.declared.storage.Data as data_trait
use Rattle.nd_array_core.specs.declared.base.array.ArrayBase.{ArrayBase}
use Rattle.nd_array_core.specs.ArrayMeaning.{shape_of, element_at, layout_offset}
use Rattle.nd_elements.specs.ShapeAndElements.{inside}
use Rattle.nd_elements.specs.ElementBorrowEnds.{KeepsPlaces}
use Rattle.nd_region.specs.declared.divided_mutable_borrow.Region.{Region}
use Rattle.nd_region.specs.RegionPlaces.{overwritten_items, run_written}
use Rattle.nd_elements.specs.declared.storage.RegionRepr.{RegionRepr}
use Rattle.nd_array_core.specs.base.BorrowBehindMutableView.{region_of}
use Rattle.nd_array_core.specs.base.ArrayAfterElementBorrow.{DimensionMembers, array_row, with_storage}
use Rattle.nd_array_core.specs.base.ArrayWrites.{KeepsFrame}
use Rattle.nd_array_core.specs.reshape.ElementsAsSlice.{IsInMemoryOrder, lowest_place}

module _ {S D T A R : Type 0} {s : data_trait.Ghosts S A} {d : dimension.Ghosts D R} {n : axis_count.Ghosts D} {r : stride_list.Ghosts R} {t : stride_list.Ghosts T} where
  -- Returns `a` with the elements `ws` at as many places as `a` has elements, from the place `first` on; `set` writes a
  -- run of places of a storage.
  unfoldable pub array_with_run : ((x : S) → ℕ → ℕ → List A → (y : S) × KeepsPlaces (s.stored x) (s.stored y)) → ArrayBase S D T A R s d n r t → ℕ → List A → ArrayBase S D T A R s d n r t
  array_with_run set a first ws = with_storage a (set a.storage first (size_of (d.lengths a.layout.dim)) ws)

  -- Returns `a` with the elements `ws` at as many places as `xs` has items, from the place `first` on; `set` writes a
  -- run of places of a storage.
  unfoldable pub array_with_lent : ((x : S) → ℕ → ℕ → List A → (y : S) × KeepsPlaces (s.stored x) (s.stored y)) → ArrayBase S D T A R s d n r t → ℕ → List A → List A → ArrayBase S D T A R s d n r t
  array_with_lent set a first xs ws = with_storage a (set a.storage first (length xs) ws)

  module _ (set : (x : S) → ℕ → ℕ → List A → (y : S) × KeepsPlaces (s.stored x) (s.stored y)) where
    -- Returns `a` with the elements `ws` at as many places as it has elements, from its offset on.
    abbrev pub array_with_rows : ArrayBase S D T A R s d n r t → List A → ArrayBase S D T A R s d n r t
    array_with_rows a ws = array_with_run set a (layout_offset a) ws

    -- Returns `a` with the elements `ws` at as many places as it has elements, from its lowest place on.
    abbrev pub array_with_places : ArrayBase S D T A R s d n r t → List A → ArrayBase S D T A R s d n r t
    array_with_places a ws = array_with_run set a (lowest_place a) ws

    -- Returns `a` with the elements `ws` from its offset on, at as many places as the slice `xs` that was lent has
    -- items.
    abbrev pub rows_lent : ArrayBase S D T A R s d n r t → List A → List A → ArrayBase S D T A R s d n r t
    rows_lent a xs ws = array_with_lent set a (layout_offset a) xs ws

    -- Returns `a` with the elements `ws` from its lowest place on, at as many places as the slice `xs` that was lent
    -- has items.
    abbrev pub run_lent : ArrayBase S D T A R s d n r t → List A → List A → ArrayBase S D T A R s d n r t
    run_lent a xs ws = array_with_lent set a (lowest_place a) xs ws

  module _ {F : Type 0} (frame : S → F) where
    -- Says that `new` is `old` but for its elements, and that each index has the item of `ws` at its row-major rank.
    abbrev pub IsRewrittenByRank : ArrayBase S D T A R s d n r t → List A → ArrayBase S D T A R s d n r t → Type 0
    IsRewrittenByRank old ws new = ((i : List ℕ) → element_at new i ≡ inside (shape_of old) i (slice_get ws (row_rank (shape_of old) i))) × KeepsFrame frame old new

    -- Says that `new` is `old` but for its elements, and that these are `ws` in the order of their places.
    abbrev pub IsRewrittenInMemoryOrder : ArrayBase S D T A R s d n r t → List A → ArrayBase S D T A R s d n r t → Type 0
    IsRewrittenInMemoryOrder old ws new = IsInMemoryOrder new ws × KeepsFrame frame old new

    -- Says that, whatever items `ws` the slice ends with, as many as `old` has elements, `left ws` is `old` with these
    -- as its elements in row-major order.
    abbrev pub LeavesByRank : ArrayBase S D T A R s d n r t → (List A → ArrayBase S D T A R s d n r t) → Type 0
    LeavesByRank old left = (ws : List A) → length ws ≡ size_of (shape_of old) → IsRewrittenByRank old ws (left ws)

    -- Says that, whatever items `ws` the slice ends with, as many as `old` has elements, `left ws` is `old` with these
    -- as its elements in the order of their places.
    abbrev pub LeavesInMemoryOrder : ArrayBase S D T A R s d n r t → (List A → ArrayBase S D T A R s d n r t) → Type 0
    LeavesInMemoryOrder old left = (ws : List A) → length ws ≡ size_of (shape_of old) → IsRewrittenInMemoryOrder old ws (left ws)

    -- Says that, after a slice without items was lent, the array `left ws` that it leaves is `old`, with the same
    -- elements.
    abbrev pub LeavesAsItWas : ArrayBase S D T A R s d n r t → (List A → ArrayBase S D T A R s d n r t) → Type 0
    LeavesAsItWas old left = (ws : List A) → length ws ≡ 0 → ((i : List ℕ) → element_at (left ws) i ≡ element_at old i) × KeepsFrame frame old (left ws)

module _ (S A D R : RattleType) (s : data_trait.Ghosts S.Denot A.Denot) (d : DimensionMembers D.Denot) (n : axis_count.Ghosts D.Denot) (r : stride_list.Ghosts R.Denot) where
  -- Says that `a` ends with the items that the slice `x` ends with as its elements from its offset on.
  abbrev pub lends_rows : MutBor (array_row S A D R s d n r).Denot → MutBor (List A.Denot) → Fml
  lends_rows a x = Lends (array_row S A D R s d n r) (Array A 0) a x (array_with_rows s.with_run a.now)

  -- Says that `a` ends with the items that the slice `x` ends with as its elements from its lowest place on.
  abbrev pub lends_places : MutBor (array_row S A D R s d n r).Denot → MutBor (List A.Denot) → Fml
  lends_places a x = Lends (array_row S A D R s d n r) (Array A 0) a x (array_with_places s.with_run a.now)

  -- Says that `a` ends with the items that the slice `x` ends with from its offset on, at as many places as `x` has
  -- items.
  abbrev pub lends_all_or_none : MutBor (array_row S A D R s d n r).Denot → MutBor (List A.Denot) → Fml
  lends_all_or_none a x = Lends (array_row S A D R s d n r) (Array A 0) a x (rows_lent s.with_run a.now x.now)

  -- Says that `a` ends with the items that the slice `x` ends with from its lowest place on, at as many places as `x`
  -- has items.
  abbrev pub lends_run_or_none : MutBor (array_row S A D R s d n r).Denot → MutBor (List A.Denot) → Fml
  lends_run_or_none a x = Lends (array_row S A D R s d n r) (Array A 0) a x (run_lent s.with_run a.now x.now)

  -- Says that `a` ends with the items that the slice ends with as its elements from its offset on, or as it is now
  -- where no slice was lent.
  abbrev pub may_lend_rows : MutBor (array_row S A D R s d n r).Denot → Option (MutBor (List A.Denot)) → Fml
  may_lend_rows a x = LendsIf (array_row S A D R s d n r) (Array A 0) a x (array_with_rows s.with_run a.now) a.now

  -- Says that `a` ends with the items that the slice ends with as its elements from its lowest place on, or as it is
  -- now where no slice was lent.
  abbrev pub may_lend_places : MutBor (array_row S A D R s d n r).Denot → Option (MutBor (List A.Denot)) → Fml
  may_lend_places a x = LendsIf (array_row S A D R s d n r) (Array A 0) a x (array_with_places s.with_run a.now) a.now

module _ (A : RattleType) where
  -- Says that the borrow of the region `r` ends with the items that the slice ends with at the `n` places from `p` on,
  -- and with what it held at all others; where no slice was lent, it ends with what it held.
  abbrev pub run_may_follow : Region A.Denot → ℕ → ℕ → Option (MutBor (List A.Denot)) → Fml
  run_may_follow r p n xs = follows_if (Array A 0) (Array A 0) r.name (ghost_name_of xs) (λ ws. overwritten_items r.items (run_written r.items p n ws)) r.items

module _ (A : RattleType) {D T R : Type 0} {s : data_trait.Ghosts (RegionRepr (Region A.Denot)) A.Denot} {d : dimension.Ghosts D R} {n : axis_count.Ghosts D} {r : stride_list.Ghosts R} {t : stride_list.Ghosts T} where
  -- Says that the borrow of which `v` is a mutable view ends with the items that the slice ends with at as many places
  -- as `v` has elements, from `first` on, and with what it held at all others, or at all of them where no slice was
  -- lent.
  abbrev pub may_follow_run : ArrayBase (RegionRepr (Region A.Denot)) D T A.Denot R s d n r t → ℕ → Option (MutBor (List A.Denot)) → Fml
  may_follow_run v first xs = run_may_follow A (region_of v) first (size_of (shape_of v)) xs
