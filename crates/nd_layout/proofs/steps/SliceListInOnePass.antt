-- A list of slices in one pass: each element changes the axis that it reads, and the axis goes at once to its place in
-- the result.
use Rattle.nd_layout.proofs.NamesFromOtherCrates.{◌≡◌, ℕ, zero, suc, ◌+◌, ◌<◌, ◌≤◌, Bool, true, false, ◌||◌, eqb, ⊎_elim, inl, inr, List, [], ◌∷◌, length, drop, get_or, set, ℤ, pos, ◌+ℤ◌, ◌*ℤ◌, refl, ap, sym, ◌∙◌, subst, arith, slice_get, unwrap_or, ◌⊎◌, and_parts, or_parts, false≢true, nat_tests, drop_more, get_or-set_same, length-set, set-get_or, ints, Slice, fits_axis, low_of, high_of, sliced_length, sliced_from, SliceInfoElem, Index, NewAxis, size_of, coordinate_on, fits_next, each_fits, reads_axis, keeps_axis, axes_read, axes_kept, shape_after, index_before, collapsed_after, collapsed_before, shape_with, index_with, next_axis, kept_items, put_back, indexed_ones}
use Rattle.nd_layout.specs.ValidMemoryPlaces.{is_place, ReachesPlaces}
use Rattle.nd_layout.specs.ValidLayoutsAndSteps.{IsStep}
use Rattle.nd_layout.specs.SliceElementOnAxis.{length_by, start_by, stride_by, strides_with, LeadsToPlaces}
use Rattle.nd_layout.specs.StridesAfterLayoutCalls.{strides_after, collapsed_strides}
use Rattle.nd_shape_and_slice.specs.declared.slice_info.SliceInfoElem.TheVariants.{Slice as Part}
use Rattle.nd_layout.proofs.steps.AxisCollapseSplitInvert.{positive, moved_place, collapse_is_step}
use Rattle.nd_layout.proofs.steps.IndexedAndNewAxesStep.{IsKeptTo, kept_item, kept_none, kept_more, kept_gone, kept_all, read_all, ones_collapsed, keep_is_step, slice_list_is_step}
use Rattle.nd_layout.proofs.steps.IndexAxisAndInsertAxis.{same_is_step}
use Rattle.nd_layout.proofs.steps.SliceLoop.{IsSlicedTo, fits_from, after_from, after_more, strides_from, strides_more, coordinate_within, sliced_none, sliced_fits, sliced_more, sliced_all, sliced_all_shape, sliced_all_strides, part_fits, index_fits}
use Rattle.nd_layout.proofs.steps.StepsKeepValidLayouts.{step_reaches}
use Rattle.nd_layout.proofs.SlicedAxis.{stepped_from-within}
use Rattle.nd_layout.proofs.steps.SlicingOneAxis.{step_moves, high_within, slice_is_step, sliced_length-le, none_left, none_left_only}

-- an offset that moves: elements are left
pub some_left : (none : Bool) (m : ℕ) (stays : Bool) → stays ≡ none || eqb m 0 → stays ≡ false → (none ≡ false) × (0 < m)
some_left none m stays is goes =
    let parts = or_parts none (eqb m 0) (sym is ∙ goes) in
    (parts.0, not_zero m parts.1)
  where
    not_zero : (m : ℕ) → eqb m 0 ≡ false → 0 < m
    not_zero zero h = absurd cc
    not_zero (suc m) h = omega arith

-- and one that stays: none were left
pub goes_on : (none : Bool) (m : ℕ) (stays : Bool) → stays ≡ none || eqb m 0 → none ≡ false → 0 < m → stays ≡ false
goes_on none m stays is here some =
    let left : eqb m 0 ≡ false = grind (arith, nat_tests) in
    is ∙ ap (λ b. b || eqb m 0) here ∙ left

pub stays_put : (none : Bool) (m : ℕ) (stays : Bool) → stays ≡ none || eqb m 0 → none ≡ true → stays ≡ true
stays_put none m stays is gone = is ∙ ap (λ b. b || eqb m 0) gone

-- where a slice leaves coordinates, its first is on the axis
pub first_within : (n : ℕ) (s : Slice) → fits_axis n s ≡ true → 0 < sliced_length n s → sliced_from n s 0 < n
first_within n s fits some =
    let range = stepped_from-within (low_of n s) (high_of n s) s.step 0 (step_moves n s fits) some in
    let high = high_within n s in
    omega (arith, range.1, high)

-- the offset of an axis that leads to places is one
pub leads_from : (offset n : ℕ) (s : ℤ) → 0 < n → LeadsToPlaces offset n s → offset < 9223372036854775808
leads_from offset n s some leads = place (subst (λ z. is_place z ≡ true) (nothing (pos offset) s) (leads 0 some))
  where
    nothing : (z s : ℤ) → z +ℤ (pos 0 *ℤ s) ≡ z
    nothing z s = omega (arith, ints)

    place : is_place (pos offset) ≡ true → offset < 9223372036854775808
    place h = grind (arith, h)

-- the items of the axes that are done
after_done : (a : ℕ) (ns : List ℕ) (es : List SliceInfoElem) (j : ℕ) → j < a → get_or (after_from a ns es) j 0 ≡ get_or ns j 0
after_done zero ns es j h = absurd (omega arith)
after_done (suc a) [] es j h = refl
after_done (suc a) (n ∷ ns) es zero h = refl
after_done (suc a) (n ∷ ns) es (suc j) h = after_done a ns es j (omega (arith, h))

strides_done : (a : ℕ) (ns : List ℕ) (ss : List ℤ) (es : List SliceInfoElem) (j : ℕ) → length ss ≡ length ns → j < a → get_or (strides_from a ns ss es) j (pos 0) ≡ get_or ss j (pos 0)
strides_done zero ns ss es j many h = absurd (omega arith)
strides_done (suc a) [] [] es j many h = refl
strides_done (suc a) [] (s ∷ ss) es j many h = absurd (omega arith)
strides_done (suc a) (n ∷ ns) [] es j many h = absurd (omega arith)
strides_done (suc a) (n ∷ ns) (s ∷ ss) es zero many h = refl
strides_done (suc a) (n ∷ ns) (s ∷ ss) es (suc j) many h = strides_done a ns ss es j (omega (arith, many)) (omega (arith, h))

-- ---- one element
element_step : (f : ℕ) (ns : List ℕ) (ss : List ℤ) (a : ℕ) (e : SliceInfoElem) (f' : ℕ) → length ss ≡ length ns → fits_next (slice_get ns a) e ≡ true → (0 < size_of (shape_with ns a e) → pos f' ≡ pos f +ℤ (pos (start_by (get_or ns a 0) e) *ℤ get_or ss a (pos 0))) → (reads_axis e ≡ false → f' ≡ f) → IsStep f ns ss f' (shape_with ns a e) (strides_with ns ss a e) (index_with ns a e)
element_step f ns ss a (Part start end step) f' many fits moved stays =
    let p = part_fits ns a start end step fits in
    slice_is_step ns ss a (record { start = start; end = end; step = step }) many p.0 p.1 f f' moved
element_step f ns ss a (Index k) f' many fits moved stays =
    let p = index_fits ns a k fits in
    collapse_is_step ns ss a many p.0 (unwrap_or (coordinate_on (get_or ns a 0) k) 0) f f' (coordinate_within (get_or ns a 0) k p.1) moved
element_step f ns ss a NewAxis f' many fits moved stays =
    subst (λ g. IsStep f ns ss g ns ss (λ i. i)) (sym (stays refl)) (same_is_step f ns ss many)

-- where elements are left
element_none : (ns : List ℕ) (a : ℕ) (e : SliceInfoElem) → fits_next (slice_get ns a) e ≡ true → (length_by (get_or ns a 0) e ≡ 0) ⊎ (size_of ns ≡ 0) → size_of (shape_with ns a e) ≡ 0
element_none ns a (Part start end step) fits none =
    let p = part_fits ns a start end step fits in
    let s : Slice = record { start = start; end = end; step = step } in
    none_left ns a (sliced_length (get_or ns a 0) s) p.0 (sliced_length-le (get_or ns a 0) s p.1) none
element_none ns a (Index k) fits none =
    let p = index_fits ns a k fits in
    let below = coordinate_within (get_or ns a 0) k p.1 in
    none_left ns a 1 p.0 (omega (arith, below)) none
element_none ns a NewAxis fits none = ⊎_elim (λ e. absurd (omega (arith, e))) (λ e. e) none

element_none_only : (ns : List ℕ) (a : ℕ) (e : SliceInfoElem) → fits_next (slice_get ns a) e ≡ true → size_of (shape_with ns a e) ≡ 0 → (length_by (get_or ns a 0) e ≡ 0) ⊎ (size_of ns ≡ 0)
element_none_only ns a (Part start end step) fits none =
    let p = part_fits ns a start end step fits in
    none_left_only ns a (sliced_length (get_or ns a 0) (record { start = start; end = end; step = step })) p.0 none
element_none_only ns a (Index k) fits none = let p = index_fits ns a k fits in none_left_only ns a 1 p.0 none
element_none_only ns a NewAxis fits none = inr none

-- the axes after the one that is read stay
same_past : {A : Type 0} (xs : List A) (a : ℕ) (x : A) (j : ℕ) → a < j → slice_get (set xs a x) j ≡ slice_get xs j
same_past [] a x j h = refl
same_past (y ∷ xs) zero x zero h = absurd (omega arith)
same_past (y ∷ xs) zero x (suc j) h = refl
same_past (y ∷ xs) (suc a) x zero h = refl
same_past (y ∷ xs) (suc a) x (suc j) h = same_past xs a x j (omega (arith, h))

lengths_past : (ns : List ℕ) (a : ℕ) (e : SliceInfoElem) (j : ℕ) → next_axis a e ≤ j → slice_get (shape_with ns a e) j ≡ slice_get ns j
lengths_past ns a (Part start end step) j h = same_past ns a _ j (omega (arith, h))
lengths_past ns a (Index k) j h = same_past ns a 1 j (omega (arith, h))
lengths_past ns a NewAxis j h = refl

strides_past : (ns : List ℕ) (ss : List ℤ) (a : ℕ) (e : SliceInfoElem) (j : ℕ) → next_axis a e ≤ j → slice_get (strides_with ns ss a e) j ≡ slice_get ss j
strides_past ns ss a (Part start end step) j h = same_past ss a _ j (omega (arith, h))
strides_past ns ss a (Index k) j h = refl
strides_past ns ss a NewAxis j h = refl

next_after : (a : ℕ) (e : SliceInfoElem) (j : ℕ) → next_axis a e ≤ j → a ≤ j
next_after a (Part start end step) j h = omega (arith, h)
next_after a (Index k) j h = omega (arith, h)
next_after a NewAxis j h = h

same_item : {A : Type 0} (xs ys : List A) (j : ℕ) (d : A) → slice_get xs j ≡ slice_get ys j → get_or xs j d ≡ get_or ys j d
same_item [] [] j d h = refl
same_item [] (y ∷ ys) zero d h = absurd cc
same_item [] (y ∷ ys) (suc j) d h = same_item [] ys j d h
same_item (x ∷ xs) [] zero d h = absurd cc
same_item (x ∷ xs) [] (suc j) d h = same_item xs [] j d h
same_item (x ∷ xs) (y ∷ ys) zero d h = cc
same_item (x ∷ xs) (y ∷ ys) (suc j) d h = same_item xs ys j d h

on_list : (xs : List ℕ) (a c : ℕ) → c < get_or xs a 0 → a < length xs
on_list [] a c h = absurd (omega (arith, h))
on_list (x ∷ xs) zero c h = omega arith
on_list (x ∷ xs) (suc a) c h = let rest = on_list xs a c h in omega (arith, rest)

-- ---- the first k elements have been applied, to lengths and strides that from axis a on are still the old ones
pub record IsSlicedOnce (offset : ℕ) (ns : List ℕ) (ss : List ℤ) (es : List SliceInfoElem) (a k new_offset : ℕ) (none : Bool) : Type 0 where
  pub lengths : List ℕ
  pub strides : List ℤ
  pub sliced : IsSlicedTo offset ns ss es a k new_offset lengths strides
  pub same_lengths : (j : ℕ) → a ≤ j → slice_get lengths j ≡ slice_get ns j
  pub same_strides : (j : ℕ) → a ≤ j → slice_get strides j ≡ slice_get ss j
  pub empty : none ≡ true → size_of lengths ≡ 0
  pub some : none ≡ false → 0 < size_of lengths

is_zero : (m : ℕ) → eqb m 0 ≡ true → m ≡ 0
is_zero m h = grind (arith, nat_tests, h)

module _ (offset : ℕ) (ns : List ℕ) (ss : List ℤ) (es : List SliceInfoElem) where
  pub once_none : (none : Bool) → length ss ≡ length ns → each_fits ns es ≡ true → (none ≡ true → size_of ns ≡ 0) → (size_of ns ≡ 0 → none ≡ true) → IsSlicedOnce offset ns ss es 0 0 offset none
  once_none none many fits empty only = record {
    lengths = ns;
    strides = ss;
    sliced = sliced_none offset ns ss es many fits;
    same_lengths = λ j h. refl;
    same_strides = λ j h. refl;
    empty = empty;
    some = λ e. positive (size_of ns) (λ z. false≢true (sym e ∙ only z));
  }

  module _ (a k f : ℕ) (none : Bool) (so_far : IsSlicedOnce offset ns ss es a k f none) where
    many : length so_far.strides ≡ length so_far.lengths
    many = so_far.sliced.step.as_many

    here_length : get_or so_far.lengths a 0 ≡ get_or ns a 0
    here_length = same_item so_far.lengths ns a 0 (so_far.same_lengths a (omega arith))

    here_stride : get_or so_far.strides a (pos 0) ≡ get_or ss a (pos 0)
    here_stride = same_item so_far.strides ss a (pos 0) (so_far.same_strides a (omega arith))

    pub once_leads : ReachesPlaces offset ns ss → none ≡ false → LeadsToPlaces f (get_or ns a 0) (get_or ss a (pos 0))
    once_leads reach some c below =
        let lengths = so_far.lengths in
        let strides = so_far.strides in
        let within : c < get_or lengths a 0 = subst (λ n. c < n) (sym here_length) below in
        let left : 0 < size_of (set lengths a (get_or lengths a 0)) = subst (λ l. 0 < size_of l) (sym (set-get_or lengths a 0)) (so_far.some some) in
        let there = moved_place lengths strides a many (on_list lengths a c within) f (get_or lengths a 0) c (step_reaches so_far.sliced.step reach) left within in
        subst (λ s. is_place (pos f +ℤ (pos c *ℤ s)) ≡ true) here_stride there

    module _ (d : SliceInfoElem) (within : k < length es) where
      pub once_fits : fits_next (slice_get ns a) (get_or es k d) ≡ true
      once_fits =
          subst (λ o. fits_next o (get_or es k d) ≡ true) (so_far.same_lengths a (omega arith))
          (sliced_fits offset ns ss es a k f so_far.lengths so_far.strides so_far.sliced d within)

      fits : fits_next (slice_get so_far.lengths a) (get_or es k d) ≡ true
      fits = sliced_fits offset ns ss es a k f so_far.lengths so_far.strides so_far.sliced d within

      here : drop k es ≡ get_or es k d ∷ drop (k + 1) es
      here = drop_more es k d within

      fitting : fits_from a so_far.lengths (get_or es k d ∷ drop (k + 1) es) ≡ true
      fitting = subst (λ l. fits_from a so_far.lengths l ≡ true) here so_far.sliced.fits

      pub once_more : (len f' : ℕ) (none' : Bool) (next : ℕ) → len ≡ length_by (get_or ns a 0) (get_or es k d) → (none ≡ false → 0 < len → pos f' ≡ pos f +ℤ (pos (start_by (get_or ns a 0) (get_or es k d)) *ℤ get_or ss a (pos 0))) → (reads_axis (get_or es k d) ≡ false → f' ≡ f) → (none ≡ true → f' ≡ f) → none' ≡ none || eqb len 0 → next ≡ next_axis a (get_or es k d) → IsSlicedOnce offset ns ss es next (k + 1) f' none'
      once_more len f' none' next is moved stays rests left past =
          subst (λ b. IsSlicedOnce offset ns ss es b (k + 1) f' none') (sym past)
          (record {
            lengths = shape_with so_far.lengths a e;
            strides = strides_with so_far.lengths so_far.strides a e;
            sliced = sliced_more offset ns ss es a k f so_far.lengths so_far.strides so_far.sliced d within f' (shape_with so_far.lengths a e) (strides_with so_far.lengths so_far.strides a e) refl refl (λ z. rests (never z)) step;
            same_lengths = λ j h. lengths_past so_far.lengths a e j h ∙ so_far.same_lengths j (next_after a e j h);
            same_strides = λ j h. strides_past so_far.lengths so_far.strides a e j h ∙ so_far.same_strides j (next_after a e j h);
            empty = λ t. element_none so_far.lengths a e fits (gone t);
            some = λ t. positive (size_of (shape_with so_far.lengths a e)) (λ z. there t (element_none_only so_far.lengths a e fits z));
          })
        where
          e : SliceInfoElem
          e = get_or es k d

          long : len ≡ length_by (get_or so_far.lengths a 0) e
          long = is ∙ ap (λ n. length_by n e) (sym here_length)

          -- without elements so far
          never : size_of so_far.lengths ≡ 0 → none ≡ true
          never z = at none refl
            where
              at : (b : Bool) → none ≡ b → none ≡ true
              at true t = t
              at false t = let left = so_far.some t in absurd (omega (arith, z, left))

          -- what the answer says of elements that are left
          gone : none' ≡ true → (length_by (get_or so_far.lengths a 0) e ≡ 0) ⊎ (size_of so_far.lengths ≡ 0)
          gone t = at none len refl (sym left ∙ t) long
            where
              at : (b : Bool) (m : ℕ) → none ≡ b → b || eqb m 0 ≡ true → m ≡ length_by (get_or so_far.lengths a 0) e → (length_by (get_or so_far.lengths a 0) e ≡ 0) ⊎ (size_of so_far.lengths ≡ 0)
              at true m was h same = inr (so_far.empty was)
              at false m was h same = inl (sym same ∙ is_zero m h)

          there : none' ≡ false → (length_by (get_or so_far.lengths a 0) e ≡ 0) ⊎ (size_of so_far.lengths ≡ 0) → ⊥
          there t =
              let kept = some_left none len none' left t in
              ⊎_elim (λ z. omega (arith, z, long, kept.1)) (λ z. let more = so_far.some kept.0 in omega (arith, z, more))

          go : 0 < size_of (shape_with so_far.lengths a e) → pos f' ≡ pos f +ℤ (pos (start_by (get_or so_far.lengths a 0) e) *ℤ get_or so_far.strides a (pos 0))
          go more =
              let was : none ≡ false = at none refl in
              let some : 0 < len = positive len (λ z. let nothing = element_none so_far.lengths a e fits (inl (sym long ∙ z)) in omega (arith, more, nothing)) in
              rw (here_length, here_stride) (moved was some)
            where
              at : (b : Bool) → none ≡ b → none ≡ false
              at true t = let nothing = element_none so_far.lengths a e fits (inr (so_far.empty t)) in absurd (omega (arith, more, nothing))
              at false t = t

          step : IsStep f so_far.lengths so_far.strides f' (shape_with so_far.lengths a e) (strides_with so_far.lengths so_far.strides a e) (index_with so_far.lengths a e)
          step = element_step f so_far.lengths so_far.strides a e f' many fits go stays

      -- what is kept of the axis
      pub once_length : keeps_axis (get_or es k d) ≡ true → length_by (get_or ns a 0) (get_or es k d) ≡ kept_item 1 0 (get_or es k d) (collapsed_after ns es) a
      once_length = at (get_or es k d) here fitting fits
        where
          at : (e : SliceInfoElem) → drop k es ≡ e ∷ drop (k + 1) es → fits_from a so_far.lengths (e ∷ drop (k + 1) es) ≡ true → fits_next (slice_get so_far.lengths a) e ≡ true → keeps_axis e ≡ true → length_by (get_or ns a 0) e ≡ kept_item 1 0 e (collapsed_after ns es) a
          at (Part start end step) first all fit keeps =
              let s : Slice = record { start = start; end = end; step = step } in
              let rest = drop (k + 1) es in
              let on = (part_fits so_far.lengths a start end step fit).0 in
              let whole : collapsed_after ns es ≡ after_from (suc a) (set so_far.lengths a (sliced_length (get_or so_far.lengths a 0) s)) rest =
              so_far.sliced.shape ∙ (ap (after_from a so_far.lengths) first ∙ after_more a so_far.lengths (Part start end step) rest all) in
              ap (λ n. sliced_length n s) (sym here_length)
              ∙ (sym (get_or-set_same so_far.lengths a (sliced_length (get_or so_far.lengths a 0) s) 0 on)
              ∙ (sym (after_done (suc a) (set so_far.lengths a (sliced_length (get_or so_far.lengths a 0) s)) rest a (omega arith)) ∙ ap (λ l. get_or l a 0) (sym whole)))
          at (Index i) first all fit keeps = absurd cc
          at NewAxis first all fit keeps = refl

      pub once_stride : keeps_axis (get_or es k d) ≡ true → stride_by (get_or ns a 0) (get_or ss a (pos 0)) (get_or es k d) ≡ kept_item (pos 0) (pos 0) (get_or es k d) (collapsed_strides ns ss es) a
      once_stride = at (get_or es k d) here fitting fits
        where
          at : (e : SliceInfoElem) → drop k es ≡ e ∷ drop (k + 1) es → fits_from a so_far.lengths (e ∷ drop (k + 1) es) ≡ true → fits_next (slice_get so_far.lengths a) e ≡ true → keeps_axis e ≡ true → stride_by (get_or ns a 0) (get_or ss a (pos 0)) e ≡ kept_item (pos 0) (pos 0) e (collapsed_strides ns ss es) a
          at (Part start end step) first all fit keeps =
              let e : SliceInfoElem = Part start end step in
              let rest = drop (k + 1) es in
              let s = stride_by (get_or so_far.lengths a 0) (get_or so_far.strides a (pos 0)) e in
              let on : a < length so_far.strides = subst (λ n. a < n) (sym many) (part_fits so_far.lengths a start end step fit).0 in
              let new = shape_with so_far.lengths a e in
              let as_many : length (set so_far.strides a s) ≡ length new = length-set so_far.strides a s ∙ (many ∙ sym (length-set so_far.lengths a _)) in
              let whole : collapsed_strides ns ss es ≡ strides_from (suc a) new (set so_far.strides a s) rest =
              so_far.sliced.strides ∙ (ap (strides_from a so_far.lengths so_far.strides) first ∙ strides_more a so_far.lengths so_far.strides e rest many all) in
              rw (sym here_length, sym here_stride) refl
              ∙ (sym (get_or-set_same so_far.strides a s (pos 0) on)
              ∙ (sym (strides_done (suc a) new (set so_far.strides a s) rest a as_many (omega arith)) ∙ ap (λ l. get_or l a (pos 0)) (sym whole)))
          at (Index i) first all fit keeps = absurd cc
          at NewAxis first all fit keeps = refl

    -- all elements
    pub once_all : length es ≤ k → (lengths : List ℕ) × (strides : List ℤ) × (lengths ≡ collapsed_after ns es) × (strides ≡ collapsed_strides ns ss es) × IsStep offset ns ss f lengths strides (collapsed_before ns es)
    once_all done = (
      so_far.lengths,
      so_far.strides,
      sliced_all_shape offset ns ss es a k f so_far.lengths so_far.strides so_far.sliced done,
      sliced_all_strides offset ns ss es a k f so_far.lengths so_far.strides so_far.sliced done,
      sliced_all offset ns ss es a k f so_far.lengths so_far.strides so_far.sliced done,
    )

-- ---- with what is kept
length-collapsed : (ns : List ℕ) (ss : List ℤ) (es : List SliceInfoElem) → length ss ≡ length ns → each_fits ns es ≡ true → length (collapsed_strides ns ss es) ≡ length (collapsed_after ns es)
length-collapsed ns ss [] many h = many
length-collapsed [] ss (Part start end step ∷ es) many h = absurd cc
length-collapsed (n ∷ ns) [] (Part start end step ∷ es) many h = absurd (omega arith)
length-collapsed (n ∷ ns) (s ∷ ss) (Part start end step ∷ es) many h = ap suc (length-collapsed ns ss es (omega (arith, many)) (and_parts _ _ h).1)
length-collapsed [] ss (Index k ∷ es) many h = absurd cc
length-collapsed (n ∷ ns) [] (Index k ∷ es) many h = absurd (omega arith)
length-collapsed (n ∷ ns) (s ∷ ss) (Index k ∷ es) many h = ap suc (length-collapsed ns ss es (omega (arith, many)) (and_parts _ _ h).1)
length-collapsed [] ss (NewAxis ∷ es) many h = length-collapsed [] ss es many h
length-collapsed (n ∷ ns) ss (NewAxis ∷ es) many h = length-collapsed (n ∷ ns) ss es many h

-- what the second pass leaves of the strides
kept_strides : (ns : List ℕ) (ss : List ℤ) (es : List SliceInfoElem) → length ss ≡ length ns → each_fits ns es ≡ true → kept_items (pos 0) es (collapsed_strides ns ss es) ≡ strides_after ns ss es
kept_strides [] ss [] many h = refl
kept_strides (n ∷ ns) ss [] many h = absurd cc
kept_strides [] ss (Part start end step ∷ es) many h = absurd cc
kept_strides (n ∷ ns) [] (Part start end step ∷ es) many h = absurd (omega arith)
kept_strides (n ∷ ns) (s ∷ ss) (Part start end step ∷ es) many h = ap (λ l. stride_by n s (Part start end step) ∷ l) (kept_strides ns ss es (omega (arith, many)) (and_parts _ _ h).1)
kept_strides [] ss (Index k ∷ es) many h = absurd cc
kept_strides (n ∷ ns) [] (Index k ∷ es) many h = absurd (omega arith)
kept_strides (n ∷ ns) (s ∷ ss) (Index k ∷ es) many h = kept_strides ns ss es (omega (arith, many)) (and_parts _ _ h).1
kept_strides [] ss (NewAxis ∷ es) many h = ap (λ l. pos 0 ∷ l) (kept_strides [] ss es many h)
kept_strides (n ∷ ns) ss (NewAxis ∷ es) many h = ap (λ l. pos 0 ∷ l) (kept_strides (n ∷ ns) ss es many h)

gone_axis : (a : ℕ) (e : SliceInfoElem) → keeps_axis e ≡ false → a + 1 ≡ next_axis a e
gone_axis a (Part start end step) h = absurd cc
gone_axis a (Index k) h = omega arith
gone_axis a NewAxis h = absurd cc

-- the layout so far, and the lengths and strides of the c axes that were kept
pub record IsCutTo (offset : ℕ) (ns : List ℕ) (ss : List ℤ) (es : List SliceInfoElem) (a c k new_offset : ℕ) (none : Bool) (ds : List ℕ) (ts : List ℤ) : Type 0 where
  pub once : IsSlicedOnce offset ns ss es a k new_offset none
  pub lengths : IsKeptTo 1 0 es (collapsed_after ns es) ds a c k
  pub strides : IsKeptTo (pos 0) (pos 0) es (collapsed_strides ns ss es) ts a c k

module _ (offset : ℕ) (ns : List ℕ) (ss : List ℤ) (es : List SliceInfoElem) (many : length ss ≡ length ns) (fits : each_fits ns es ≡ true) where
  reads : axes_read es ≡ length (collapsed_after ns es)
  reads = read_all es (collapsed_after ns es) (ones_collapsed ns es fits)

  pub cut_none : (none : Bool) (ds : List ℕ) (ts : List ℤ) → (none ≡ true → size_of ns ≡ 0) → (size_of ns ≡ 0 → none ≡ true) → length ds ≡ axes_kept es → length ts ≡ axes_kept es → IsCutTo offset ns ss es 0 0 0 offset none ds ts
  cut_none none ds ts empty only wide wide_strides = record {
    once = once_none offset ns ss es none many fits empty only;
    lengths = kept_none 1 0 es (collapsed_after ns es) ds reads wide;
    strides = kept_none (pos 0) (pos 0) es (collapsed_strides ns ss es) ts (reads ∙ sym (length-collapsed ns ss es many fits)) wide_strides;
  }

  module _ (a c k f : ℕ) (none : Bool) (ds : List ℕ) (ts : List ℤ) (so_far : IsCutTo offset ns ss es a c k f none ds ts) where
    module _ (d : SliceInfoElem) (within : k < length es) (len f' : ℕ) (none' : Bool) (next : ℕ) (is : len ≡ length_by (get_or ns a 0) (get_or es k d)) (moved : none ≡ false → 0 < len → pos f' ≡ pos f +ℤ (pos (start_by (get_or ns a 0) (get_or es k d)) *ℤ get_or ss a (pos 0))) (stays : reads_axis (get_or es k d) ≡ false → f' ≡ f) (rests : none ≡ true → f' ≡ f) (left : none' ≡ none || eqb len 0) (past : next ≡ next_axis a (get_or es k d)) where
      next_once : IsSlicedOnce offset ns ss es next (k + 1) f' none'
      next_once = once_more offset ns ss es a k f none so_far.once d within len f' none' next is moved stays rests left past

      pub cut_kept : (stride : ℤ) → stride ≡ stride_by (get_or ns a 0) (get_or ss a (pos 0)) (get_or es k d) → keeps_axis (get_or es k d) ≡ true → IsCutTo offset ns ss es next (c + 1) (k + 1) f' none' (set ds c len) (set ts c stride)
      cut_kept stride with_stride keeps = record {
        once = next_once;
        lengths = kept_more 1 0 es (collapsed_after ns es) ds a c k so_far.lengths d within len next keeps (is ∙ once_length offset ns ss es a k f none so_far.once d within keeps) past;
        strides = kept_more (pos 0) (pos 0) es (collapsed_strides ns ss es) ts a c k so_far.strides d within stride next keeps (with_stride ∙ once_stride offset ns ss es a k f none so_far.once d within keeps) past;
      }

      pub cut_gone : keeps_axis (get_or es k d) ≡ false → IsCutTo offset ns ss es next c (k + 1) f' none' ds ts
      cut_gone gone =
          let same = gone_axis a (get_or es k d) gone ∙ sym past in
          record {
            once = next_once;
            lengths = subst (λ b. IsKeptTo 1 0 es (collapsed_after ns es) ds b c (k + 1)) same (kept_gone 1 0 es (collapsed_after ns es) ds a c k so_far.lengths d within gone);
            strides = subst (λ b. IsKeptTo (pos 0) (pos 0) es (collapsed_strides ns ss es) ts b c (k + 1)) same (kept_gone (pos 0) (pos 0) es (collapsed_strides ns ss es) ts a c k so_far.strides d within gone);
          }

    pub cut_all : length es ≤ k → (ds ≡ shape_after ns es) × IsStep offset ns ss f ds ts (index_before ns es) × (ts ≡ strides_after ns ss es)
    cut_all done =
        let all = once_all offset ns ss es a k f none so_far.once done in
        let mid = all.0 in
        let mid_strides = all.1 in
        let collapsed = all.2 in
        let strided = all.3 in
        let step = all.4 in
        let lengths : ds ≡ kept_items 1 es mid = kept_all 1 0 es (collapsed_after ns es) ds a c k so_far.lengths done ∙ ap (kept_items 1 es) (sym collapsed) in
        let strides : ts ≡ kept_items (pos 0) es mid_strides = kept_all (pos 0) (pos 0) es (collapsed_strides ns ss es) ts a c k so_far.strides done ∙ ap (kept_items (pos 0) es) (sym strided) in
        let ones : indexed_ones es mid ≡ true = ap (indexed_ones es) collapsed ∙ ones_collapsed ns es fits in
        let kept : IsStep f mid mid_strides f ds ts (put_back es) = rw (lengths, strides) (keep_is_step f mid mid_strides es step.as_many ones) in
        let whole = slice_list_is_step offset f f ns ss mid mid_strides ds ts es fits collapsed step lengths kept in
        (whole.0, whole.1, strides ∙ (ap (kept_items (pos 0) es) strided ∙ kept_strides ns ss es many fits))
