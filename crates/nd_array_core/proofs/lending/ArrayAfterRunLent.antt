-- What an array shows once its elements were lent as one slice.
use Rattle.nd_array_core.proofs.NamesFromOtherCrates.{◌≡◌, ℕ, suc, ◌+◌, ◌-◌, ◌<◌, Bool, true, false, List, [], ◌∷◌, length, get_or, ℤ, pos, refl, ap, sym, ◌∙◌, subst, arith, Option, Some, slice_get, slice_get-get_or, in_box, size_of, row_rank, index_at, place_of, in_box-index_at, row_rank-index_at, row_rank_below, sums, IsStandard, reach_down, inside, stored_at, place_number, HoldsAll, KeepsPlaces, IsOutsideRun, HasRunAt, HoldsWrittenRun, KeepsOutsideRun, OthersStay}
use Rattle.nd_shape_and_slice.specs.declared.dimension.Dimension as dimension
use Rattle.nd_shape_and_slice.specs.declared.dimension.AxisCount as axis_count
use Rattle.nd_shape_and_slice.specs.declared.dimension.StrideList as stride_list
use Rattle.nd_elements.specs.declared.storage.Data as data_trait
use Rattle.nd_array_core.specs.declared.base.array.ArrayBase.{ArrayBase}
use Rattle.nd_array_core.specs.ArrayMeaning.{meaning_of, memory_layout_of, shape_of, element_at}
use Rattle.nd_array_core.specs.base.ArrayAfterElementBorrow.{kept_names, with_storage}
use Rattle.nd_array_core.specs.reshape.ElementsAsSlice.{LiesAlong, IsStandardArray, IsRunArray}
use Rattle.nd_array_core.specs.reshape.ArrayAfterSliceBorrow.{array_with_run, array_with_rows, array_with_places, array_with_lent, rows_lent, run_lent, IsRewrittenByRank, IsRewrittenInMemoryOrder}
use Rattle.nd_array_core.specs.base.ArrayWrites.{KeepsFrame}
use Rattle.nd_array_core.proofs.reshape_lemmas.MemoryOrder.{run_has, run_lies}
use Rattle.nd_array_core.proofs.reshape_lemmas.RunElements.{standard_has}

-- a slice of a run, read item by item
pub run_read : {A : Type 0} (stored : ℕ → Option A) (first count : ℕ) (xs : List A) → length xs ≡ count → ((k : ℕ) → k < count → stored (first + k) ≡ slice_get xs k) → (k : ℕ) (d : A) → k < count → stored (first + k) ≡ Some (get_or xs k d)
run_read stored first count xs long is k d below = is k below ∙ slice_get-get_or xs k d (subst (λ n. k < n) (sym long) below)

-- all elements where they are asked for, and else none
pub all_or_none : {A : Type 0} (stored : ℕ → Option A) (first n count : ℕ) (asked : Bool) → (asked ≡ true → HasRunAt stored first n) → (asked ≡ true → count ≡ n) → (asked ≡ false → count ≡ 0) → HasRunAt stored first count
all_or_none stored first n count true there all none = rw (all refl) (there refl)
all_or_none stored first n count false there all none = λ k below. absurd (let e = none refl in omega (arith, below, e))

pub empty_list : {A : Type 0} (xs : List A) → length xs ≡ 0 → xs ≡ []
empty_list [] none = refl
empty_list (x ∷ xs) none = absurd (let bad : suc (length xs) ≡ 0 = none in omega (arith, bad))

module _ {A : Type 0} (old new : ℕ → Option A) (offset : ℕ) (ns : List ℕ) (ss : List ℤ) (ws : List A) where
  abbrev place : List ℕ → Option ℕ
  place i = inside ns i (place_number (place_of offset ss i))

  -- in row-major order
  module _ (standard : IsStandard ns ss) (written : (k : ℕ) → k < size_of ns → new (offset + k) ≡ slice_get ws k) (left : (p : ℕ) → IsOutsideRun offset (size_of ns) p → new p ≡ old p) where
    rank_place : (i : List ℕ) → in_box ns i ≡ true → place_of offset ss i ≡ pos (offset + row_rank ns i)
    rank_place i h = omega (arith, sums, standard i h)

    by_rank : (i : List ℕ) → inside ns i (stored_at new (place_of offset ss i)) ≡ inside ns i (slice_get ws (row_rank ns i))
    by_rank i = by_test (in_box ns i) refl
      where
        by_test : (t : Bool) → in_box ns i ≡ t → inside ns i (stored_at new (place_of offset ss i)) ≡ inside ns i (slice_get ws (row_rank ns i))
        by_test true h = rw (h, rank_place i h) (written (row_rank ns i) (row_rank_below ns i h))
        by_test false out = rw out refl

    at_rank : (k p : ℕ) → k < size_of ns → p ≡ offset + k → place (index_at ns k) ≡ Some p
    at_rank k p below e =
        let h = in_box-index_at ns k below in
        let same : offset + row_rank ns (index_at ns k) ≡ p = omega (arith, e, row_rank-index_at ns k below) in
        rw (h, rank_place (index_at ns k) h) (ap Some same)

    others_by_rank : OthersStay place old new
    others_by_rank p unnamed = left p (λ k below e. unnamed (index_at ns k) (at_rank k p below e))

  -- in the order of the places
  module _ (lies : LiesAlong ns (offset - reach_down ns ss) place (λ i. inside ns i (stored_at new (place_of offset ss i))) ws) (left : (p : ℕ) → IsOutsideRun (offset - reach_down ns ss) (size_of ns) p → new p ≡ old p) where
    others_by_place : OthersStay place old new
    others_by_place p unnamed = left p (λ k below e. let at = lies.each k below in unnamed at.0 (at.2 ∙ ap Some (sym e)))

module _ {S D T A R : Type 0} {s : data_trait.Ghosts S A} {d : dimension.Ghosts D R} {n : axis_count.Ghosts D} {r : stride_list.Ghosts R} {t : stride_list.Ghosts T} where
  -- the elements are at these places
  pub standard_there : (a : ArrayBase S D T A R s d n r t) → IsStandardArray a → HasRunAt (s.stored a.storage) a.layout.offset (size_of (d.lengths a.layout.dim))
  unfolding meaning_of memory_layout_of
  standard_there a standard k below = standard_has (s.stored a.storage) a.layout.offset (d.lengths a.layout.dim) (t.strides_of a.layout.strides) standard a.inside k below

  pub run_there : (a : ArrayBase S D T A R s d n r t) → IsRunArray a → HasRunAt (s.stored a.storage) (a.layout.offset - reach_down (d.lengths a.layout.dim) (t.strides_of a.layout.strides)) (size_of (d.lengths a.layout.dim))
  unfolding meaning_of memory_layout_of
  run_there a which k below = run_has (s.stored a.storage) a.layout.offset (d.lengths a.layout.dim) (t.strides_of a.layout.strides) a.layout.as_many a.inside which k below

  module _ (set : (x : S) → ℕ → ℕ → List A → (y : S) × KeepsPlaces (s.stored x) (s.stored y)) {F : Type 0} (frame : S → F)
      (written : HoldsWrittenRun s.stored set) (left : KeepsOutsideRun s.stored set) (same_frame : (u : S) (p k : ℕ) (ws : List A) → frame (set u p k ws).0 ≡ frame u) where
    pub rewritten_by_rank : (a : ArrayBase S D T A R s d n r t) (ws : List A) → IsStandardArray a → length ws ≡ size_of (shape_of a) → IsRewrittenByRank frame a ws (array_with_rows set a ws)
    unfolding array_with_run meaning_of memory_layout_of
    rewritten_by_rank a ws standard long =
        let ns = d.lengths a.layout.dim in
        let ss = t.strides_of a.layout.strides in
        let first = a.layout.offset in
        let new = set a.storage first (size_of ns) ws in
        let there = standard_there a standard in
        let at = written a.storage first (size_of ns) ws there long in
        let outside = left a.storage first (size_of ns) ws there long in (
          by_rank (s.stored a.storage) (s.stored new.0) first ns ss ws standard at outside,
          (refl, refl, (λ k. refl), others_by_rank (s.stored a.storage) (s.stored new.0) first ns ss ws standard at outside, same_frame a.storage first (size_of ns) ws, refl),
        )

    pub rewritten_by_place : (a : ArrayBase S D T A R s d n r t) (ws : List A) → IsRunArray a → length ws ≡ size_of (shape_of a) → IsRewrittenInMemoryOrder frame a ws (array_with_places set a ws)
    unfolding array_with_run meaning_of memory_layout_of
    rewritten_by_place a ws which long =
        let ns = d.lengths a.layout.dim in
        let ss = t.strides_of a.layout.strides in
        let first = a.layout.offset - reach_down ns ss in
        let new = set a.storage first (size_of ns) ws in
        let there = run_there a which in
        let at = written a.storage first (size_of ns) ws there long in
        let outside = left a.storage first (size_of ns) ws there long in
        let kept : HoldsAll (s.stored new.0) a.layout.offset ns ss = λ i h. kept_names (s.stored a.storage) (s.stored new.0) new.1 (place_of a.layout.offset ss i) (a.inside i h) in
        let lies = run_lies (s.stored new.0) a.layout.offset ns ss a.layout.as_many kept which ws long (run_read (s.stored new.0) first (size_of ns) ws long at) in (
          lies,
          (refl, refl, (λ k. refl), others_by_place (s.stored a.storage) (s.stored new.0) a.layout.offset ns ss ws lies outside, same_frame a.storage first (size_of ns) ws, refl),
        )

    -- the same where a slice of as many items was lent
    lent_is_run : (a : ArrayBase S D T A R s d n r t) (first : ℕ) (xs ws : List A) → length xs ≡ size_of (d.lengths a.layout.dim) → array_with_run set a first ws ≡ array_with_lent set a first xs ws
    unfolding array_with_run array_with_lent
    lent_is_run a first xs ws all = ap (λ k. with_storage a (set a.storage first k ws)) (sym all)

    pub lent_by_rank : (a : ArrayBase S D T A R s d n r t) (xs ws : List A) → IsStandardArray a → length xs ≡ size_of (d.lengths a.layout.dim) → length ws ≡ size_of (shape_of a) → IsRewrittenByRank frame a ws (rows_lent set a xs ws)
    unfolding memory_layout_of
    lent_by_rank a xs ws standard all long = subst (IsRewrittenByRank frame a ws) (lent_is_run a a.layout.offset xs ws all) (rewritten_by_rank a ws standard long)

    pub lent_by_place : (a : ArrayBase S D T A R s d n r t) (xs ws : List A) → IsRunArray a → length xs ≡ size_of (d.lengths a.layout.dim) → length ws ≡ size_of (shape_of a) → IsRewrittenInMemoryOrder frame a ws (run_lent set a xs ws)
    unfolding meaning_of memory_layout_of
    lent_by_place a xs ws which all long = subst (IsRewrittenInMemoryOrder frame a ws) (lent_is_run a (a.layout.offset - reach_down (d.lengths a.layout.dim) (t.strides_of a.layout.strides)) xs ws all) (rewritten_by_place a ws which long)

    -- an empty slice was lent
    pub lent_nothing : (a : ArrayBase S D T A R s d n r t) (first : ℕ) (xs ws : List A) → length xs ≡ 0 → length ws ≡ 0 → ((i : List ℕ) → element_at (array_with_lent set a first xs ws) i ≡ element_at a i) × KeepsFrame frame a (array_with_lent set a first xs ws)
    unfolding array_with_lent meaning_of memory_layout_of
    lent_nothing a first xs ws none empty =
        let ns = d.lengths a.layout.dim in
        let ss = t.strides_of a.layout.strides in
        let new = set a.storage first (length xs) ws in
        let same : (p : ℕ) → s.stored new.0 p ≡ s.stored a.storage p = λ p. left a.storage first (length xs) ws (λ k below. absurd (omega (arith, below, none))) (omega (arith, none, empty)) p (λ k below. absurd (omega (arith, below, none))) in (
          (λ i k. inside ns i (stored_at (λ p. same p k) (place_of a.layout.offset ss i))),
          (refl, refl, (λ k. refl), (λ p unnamed. same p), same_frame a.storage first (length xs) ws, refl),
        )
