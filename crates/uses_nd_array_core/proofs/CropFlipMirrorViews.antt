-- What views of images show, and what a write through a rectangle keeps: one lemma for each call, so that the proof of a
-- body of several calls takes a line for each.
use Rattle.std.proofs.Common.{◌≡◌, ◌∙◌, ℕ, ◌+◌, ◌-◌, ◌<◌, ◌≤◌, ◌^◌, true, List, [], ◌∷◌, ap, subst, sym, arith}
use Rattle.std.specs.Prelude.{Option, None, slice_index, if◌then◌else◌}
use Rattle.nd_array_core.specs.declared.base.array.ArrayBase.{ArrayBase}
use Rattle.nd_array_core.specs.Prelude.{Table, shape_of, element_at, inside, in_box, rows_of, columns_of, table_of, SliceInfoElem, fits_shape, shape_after, index_before, HasRowsAndColumns, ShowsTable, ShowsPart, sliced_part, cropped, mirrored, flipped, KeepsOtherIndexes, SameAround}
use Rattle.nd_array_core.specs.PartsOfArrays.{inverted_part}
use Rattle.nd_array_core.specs.scoped.AssignedOrChangedParts.{index_after}
use Rattle.nd_array_core.specs.IndexesNamedBySlices.{names_index}
use Rattle.nd_array_core.proofs.IndexesWithChangedCoordinates.{in_two_axes}
use Rattle.nd_array_core.proofs.AxesOfDimensionTypes.{length_short}
use Rattle.uses_nd_array_core.proofs.RangesOfAxes.{rectangle_of, rectangle_fits, rectangle_shape, rectangle_index, rectangle_named, rectangle_after, above_unnamed, below_unnamed, before_unnamed, after_unnamed, rows_backwards, rows_backwards_shape, rows_backwards_index}

-- an element within two axes
seen_inside : {A : Type 0} (ns : List ℕ) (n m i j : ℕ) (e : Option A) → ns ≡ n ∷ m ∷ [] → i < n → j < m → inside ns (i ∷ j ∷ []) e ≡ e
seen_inside ns n m i j e two r c = ap (λ t. if t then e else None) (ap (λ l. in_box l (i ∷ j ∷ [])) two ∙ in_two_axes n m i j r c)

module _ {S D T A R : Type 0} {s : _} {d : _} {n : _} {r : _} {t : _} {Z E U X : Type 0} {z : _} {e : _} {k : _} {x : _} {u : _} (a : ArrayBase S D T A R s d n r t) (b : ArrayBase Z E U A X z e k x u) where
  -- a slice by two ranges
  pub rectangle_seen : (top left height width : ℕ) (es : List SliceInfoElem) → ShowsPart a (sliced_part a es) b → es ≡ rectangle_of top left height width → HasRowsAndColumns a (rows_of a) (columns_of a) → top + height ≤ rows_of a → left + width ≤ columns_of a → ShowsTable b (cropped top left height width (table_of a))
  rectangle_seen top left height width es part named two low right =
      let rows = rows_of a in
      let columns = columns_of a in
      let few_rows = length_short a 0 in
      let few_columns = length_short a 1 in
      let list : shape_after (shape_of a) es ≡ height ∷ width ∷ [] =
      ap (λ l. shape_after (shape_of a) l) named ∙ ap (λ ns. shape_after ns (rectangle_of top left height width)) two ∙ rectangle_shape rows columns top left height width few_rows few_columns low right in
      let from : (i j : ℕ) → index_before (shape_of a) es (i ∷ j ∷ []) ≡ (top + i) ∷ (left + j) ∷ [] =
      λ i j. ap (λ l. index_before (shape_of a) l (i ∷ j ∷ [])) named ∙ ap (λ ns. index_before ns (rectangle_of top left height width) (i ∷ j ∷ [])) two ∙ rectangle_index rows columns top left height width few_rows few_columns low right i j in
      (part.0 ∙ list, λ i j r c. part.2 (i ∷ j ∷ []) ∙ seen_inside (shape_after (shape_of a) es) height width i j (element_at a (index_before (shape_of a) es (i ∷ j ∷ []))) list r c ∙ ap (λ l. element_at a l) (from i j))

  -- a slice of the rows by a step of -1
  pub flipped_seen : (es : List SliceInfoElem) → ShowsPart a (sliced_part a es) b → es ≡ rows_backwards → HasRowsAndColumns a (rows_of a) (columns_of a) → ShowsTable b (flipped (table_of a))
  flipped_seen es part named two =
      let rows = rows_of a in
      let columns = columns_of a in
      let list : shape_after (shape_of a) es ≡ rows ∷ columns ∷ [] = ap (λ l. shape_after (shape_of a) l) named ∙ ap (λ ns. shape_after ns rows_backwards) two ∙ rows_backwards_shape rows columns in
      let from : (i j : ℕ) → index_before (shape_of a) es (i ∷ j ∷ []) ≡ (rows - 1 - i) ∷ j ∷ [] =
      λ i j. ap (λ l. index_before (shape_of a) l (i ∷ j ∷ [])) named ∙ ap (λ ns. index_before ns rows_backwards (i ∷ j ∷ [])) two ∙ rows_backwards_index rows columns i j in
      (part.0 ∙ list, λ i j r c. part.2 (i ∷ j ∷ []) ∙ seen_inside (shape_after (shape_of a) es) rows columns i j (element_at a (index_before (shape_of a) es (i ∷ j ∷ []))) list r c ∙ ap (λ l. element_at a l) (from i j))

  -- an axis of columns inverted
  pub mirrored_seen : (table : Table A) → ShowsTable a table → ShowsPart a (inverted_part a 1) b → ShowsTable b (mirrored table)
  mirrored_seen table seen part = (
    part.0 ∙ seen.0,
    λ i j r c.
        part.2 (i ∷ j ∷ [])
        ∙ seen_inside (shape_of a) table.rows table.columns i j (element_at a (i ∷ (slice_index (shape_of a) 1 - 1 - j) ∷ [])) seen.0 r c
        ∙ ap (λ ns. element_at a (i ∷ (slice_index ns 1 - 1 - j) ∷ [])) seen.0
        ∙ seen.1 i (table.columns - 1 - j) r (omega (arith, c)),
  )

  -- a copy
  pub copied_seen : (table : Table A) → ShowsTable a table → shape_of b ≡ shape_of a → ((i : List ℕ) → element_at b i ≡ element_at a i) → ShowsTable b table
  copied_seen table seen same cells = (same ∙ seen.0, λ i j r c. cells (i ∷ j ∷ []) ∙ seen.1 i j r c)

-- what a slice by two ranges names of an image of two axes
module _ (ns : List ℕ) (top left height width : ℕ) (es : List SliceInfoElem) (named : es ≡ rectangle_of top left height width) (two : ns ≡ slice_index ns 0 ∷ slice_index ns 1 ∷ []) (few_rows : slice_index ns 0 < 2 ^ 63) (few_columns : slice_index ns 1 < 2 ^ 63) (low : top + height ≤ slice_index ns 0) (right : left + width ≤ slice_index ns 1) where
  -- what holds of two lengths and of the list of two ranges holds of the shape and of the list
  as_named : (W : List ℕ → List SliceInfoElem → Type 0) → W (slice_index ns 0 ∷ slice_index ns 1 ∷ []) (rectangle_of top left height width) → W ns es
  as_named W w = subst (λ (ns : List ℕ). W ns es) (sym two) (subst (λ (es : List SliceInfoElem). W (slice_index ns 0 ∷ slice_index ns 1 ∷ []) es) (sym named) w)

  pub range_fits_shape : fits_shape ns es ≡ true
  range_fits_shape = as_named (λ ns es. fits_shape ns es ≡ true) (rectangle_fits (slice_index ns 0) (slice_index ns 1) top left height width few_rows few_columns low right)

  pub shape_of_range : shape_after ns es ≡ height ∷ width ∷ []
  shape_of_range = as_named (λ ns es. shape_after ns es ≡ height ∷ width ∷ []) (rectangle_shape (slice_index ns 0) (slice_index ns 1) top left height width few_rows few_columns low right)

  pub named_in_range : (i j : ℕ) → top ≤ i → i < top + height → left ≤ j → j < left + width → names_index ns es (i ∷ j ∷ []) ≡ true
  named_in_range i j above below after before = as_named (λ ns es. names_index ns es (i ∷ j ∷ []) ≡ true) (rectangle_named (slice_index ns 0) (slice_index ns 1) top left height width few_rows few_columns low right i j above below after before)

  pub in_range_box : (i j : ℕ) → i < top + height → j < left + width → in_box ns (i ∷ j ∷ []) ≡ true
  in_range_box i j below before = ap (λ ns. in_box ns (i ∷ j ∷ [])) two ∙ in_two_axes (slice_index ns 0) (slice_index ns 1) i j (omega (arith, below, low)) (omega (arith, before, right))

  pub index_in_range : (i j : ℕ) → index_after ns es (i ∷ j ∷ []) ≡ (i - top) ∷ (j - left) ∷ []
  index_in_range i j = as_named (λ ns es. index_after ns es (i ∷ j ∷ []) ≡ (i - top) ∷ (j - left) ∷ []) (rectangle_after (slice_index ns 0) (slice_index ns 1) top left height width few_rows few_columns low right i j)

module _ {S D T A R : Type 0} {s : _} {d : _} {n : _} {r : _} {t : _} (a b : ArrayBase S D T A R s d n r t) where
  -- a write through a slice by two ranges
  pub same_around : (top left height width : ℕ) (es : List SliceInfoElem) → KeepsOtherIndexes a b es → es ≡ rectangle_of top left height width → HasRowsAndColumns a (rows_of a) (columns_of a) → top + height ≤ rows_of a → left + width ≤ columns_of a → SameAround top left height width (table_of a) (table_of b)
  same_around top left height width es kept named two low right =
      let rows = rows_of a in
      let columns = columns_of a in
      let few_rows = length_short a 0 in
      let few_columns = length_short a 1 in
      let list : (i j : ℕ) → names_index (shape_of a) es (i ∷ j ∷ []) ≡ names_index (rows ∷ columns ∷ []) (rectangle_of top left height width) (i ∷ j ∷ []) =
      λ i j. ap (λ l. names_index (shape_of a) l (i ∷ j ∷ [])) named ∙ ap (λ ns. names_index ns (rectangle_of top left height width) (i ∷ j ∷ [])) two in (
        λ i j o. kept (i ∷ j ∷ []) (list i j ∙ above_unnamed rows columns top left height width few_rows few_columns low right i j o),
        λ i j o. kept (i ∷ j ∷ []) (list i j ∙ below_unnamed rows columns top left height width few_rows few_columns low right i j o),
        λ i j o. kept (i ∷ j ∷ []) (list i j ∙ before_unnamed rows columns top left height width few_rows few_columns low right i j o),
        λ i j o. kept (i ∷ j ∷ []) (list i j ∙ after_unnamed rows columns top left height width few_rows few_columns low right i j o),
      )
