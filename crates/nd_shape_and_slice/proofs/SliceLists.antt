-- Reading a list of slices element by element, over the axes that are left.
use Rattle.nd_shape_and_slice.proofs.NamesFromOtherCrates.{◌≡◌, ℕ, zero, suc, ◌+◌, ◌<◌, ◌≤◌, Bool, true, false, cond, ◌&&◌, List, [], ◌∷◌, length, drop, get_or, refl, ap, sym, ◌∙◌, subst, arith, eqb, add-one, drop-cons, nat_tests, count_by-le-length, nat_le, slice_get_past, slice_get-get_or, slice_get, Option, None, Some}
use Rattle.nd_shape_and_slice.specs.declared.slice_info.SliceInfoElem.{SliceInfoElem}
use Rattle.nd_shape_and_slice.specs.declared.slice_info.SliceInfoElem.TheVariants.{Slice as Part, Index, NewAxis}
use Rattle.nd_shape_and_slice.specs.SliceInfo.{reads_axis, keeps_axis, axes_kept, each_fits, fits_next}
use Rattle.nd_shape_and_slice.specs.SlicingInTwoPasses.{next_axis}

-- how many axes an element reads
abbrev pub reads : SliceInfoElem → ℕ
reads e = cond (reads_axis e) 1 0

each_fits-cons : (ns : List ℕ) (e : SliceInfoElem) (es : List SliceInfoElem) → each_fits ns (e ∷ es) ≡ fits_next (slice_get ns 0) e && each_fits (drop (reads e) ns) es
each_fits-cons [] (Part start end step) es = refl
each_fits-cons (n ∷ ns) (Part start end step) es = refl
each_fits-cons [] (Index k) es = refl
each_fits-cons (n ∷ ns) (Index k) es = refl
each_fits-cons [] NewAxis es = refl
each_fits-cons (n ∷ ns) NewAxis es = refl

slice_get-drop : (ns : List ℕ) (a : ℕ) → slice_get (drop a ns) 0 ≡ slice_get ns a
slice_get-drop [] zero = refl
slice_get-drop [] (suc a) = refl
slice_get-drop (n ∷ ns) zero = refl
slice_get-drop (n ∷ ns) (suc a) = slice_get-drop ns a

drop_none : (k : ℕ) → ◌≡◌ {A = List ℕ} (drop k []) []
drop_none zero = refl
drop_none (suc k) = refl

drop_more : (ns : List ℕ) (a m : ℕ) → drop m (drop a ns) ≡ drop (a + m) ns
drop_more ns zero m = ap (λ k. drop k ns) first
  where
    first : m ≡ zero + m
    first = omega arith
drop_more [] (suc a) m = drop_none m ∙ sym (drop_none (suc a + m))
drop_more (n ∷ ns) (suc a) m = drop_more ns a m ∙ ap (λ k. drop k (n ∷ ns)) next
  where
    next : suc (a + m) ≡ suc a + m
    next = omega arith

pub next_axis-reads : (a : ℕ) (e : SliceInfoElem) → next_axis a e ≡ a + reads e
next_axis-reads a (Part start end step) = omega arith
next_axis-reads a (Index k) = omega arith
next_axis-reads a NewAxis = omega arith

-- the elements before the k-th fitted, and they read the axes before this one
pub record IsFitUpTo (lengths : List ℕ) (elements : List SliceInfoElem) (axis k : ℕ) : Type 0 where
  pub within : axis ≤ length lengths
  pub same : each_fits lengths elements ≡ each_fits (drop axis lengths) (drop k elements)

fits_at : (ns : List ℕ) (es : List SliceInfoElem) (a k : ℕ) (d : SliceInfoElem) → k < length es → each_fits (drop a ns) (drop k es) ≡ fits_next (slice_get ns a) (get_or es k d) && each_fits (drop (a + reads (get_or es k d)) ns) (drop (k + 1) es)
fits_at ns es a k d h =
    let e = get_or es k d in
    let here : drop k es ≡ e ∷ drop (k + 1) es = rw add-one (drop-cons es k d h) in
    let first = each_fits-cons (drop a ns) e (drop (k + 1) es) in
    let axis = ap (λ o. fits_next o e && each_fits (drop (reads e) (drop a ns)) (drop (k + 1) es)) (slice_get-drop ns a) in
    let rest = ap (λ l. fits_next (slice_get ns a) e && each_fits l (drop (k + 1) es)) (drop_more ns a (reads e)) in
    ap (each_fits (drop a ns)) here ∙ (first ∙ (axis ∙ rest))

-- an element that doesn't fit
pub unfit : (ns : List ℕ) (es : List SliceInfoElem) (a k : ℕ) (d : SliceInfoElem) (o : Option ℕ) (fits : Bool) → k < length es → IsFitUpTo ns es a k → o ≡ slice_get ns a → fits ≡ fits_next o (get_or es k d) → fits ≡ false → false ≡ each_fits ns es
unfit ns es a k d o fits h so_far is tested bad =
    let here : fits_next (slice_get ns a) (get_or es k d) ≡ false = ap (λ p. fits_next p (get_or es k d)) (sym is) ∙ (sym tested ∙ bad) in
    sym (so_far.same ∙ (fits_at ns es a k d h ∙ ap (λ b. b && each_fits (drop (a + reads (get_or es k d)) ns) (drop (k + 1) es)) here))

axis_left : (ns : List ℕ) (a : ℕ) (e : SliceInfoElem) → a ≤ length ns → fits_next (slice_get ns a) e ≡ true → a + reads e ≤ length ns
axis_left [] zero (Part start end step) h fits = absurd cc
axis_left [] zero (Index k) h fits = absurd cc
axis_left [] zero NewAxis h fits = omega arith
axis_left [] (suc a) e h fits = absurd (omega arith)
axis_left (n ∷ ns) zero (Part start end step) h fits = omega arith
axis_left (n ∷ ns) zero (Index k) h fits = omega arith
axis_left (n ∷ ns) zero NewAxis h fits = omega arith
axis_left (n ∷ ns) (suc a) e h fits = let rest = axis_left ns a e (omega arith) fits in omega arith

-- an element that fits
pub fit_more : (ns : List ℕ) (es : List SliceInfoElem) (a k next : ℕ) (d : SliceInfoElem) (o : Option ℕ) (fits : Bool) → k < length es → IsFitUpTo ns es a k → o ≡ slice_get ns a → fits ≡ fits_next o (get_or es k d) → fits ≡ true → next ≡ a + reads (get_or es k d) → IsFitUpTo ns es next (k + 1)
fit_more ns es a k next d o fits h so_far is tested good past =
    let here : fits_next (slice_get ns a) (get_or es k d) ≡ true = ap (λ p. fits_next p (get_or es k d)) (sym is) ∙ (sym tested ∙ good) in
    subst (λ n. IsFitUpTo ns es n (k + 1)) (sym past)
    (record {
      within = axis_left ns a (get_or es k d) so_far.within here;
      same = so_far.same ∙ (fits_at ns es a k d h ∙ ap (λ b. b && each_fits (drop (a + reads (get_or es k d)) ns) (drop (k + 1) es)) here);
    })

no_more : (es : List SliceInfoElem) (k : ℕ) → length es ≤ k → drop k es ≡ []
no_more [] zero h = refl
no_more [] (suc k) h = refl
no_more (e ∷ es) zero h = absurd (omega arith)
no_more (e ∷ es) (suc k) h = no_more es k (omega arith)

none_left : (ns : List ℕ) (a : ℕ) → a ≤ length ns → eqb a (length ns) ≡ each_fits (drop a ns) []
none_left [] zero h = refl
none_left [] (suc a) h = absurd (omega arith)
none_left (n ∷ ns) zero h = grind (arith, nat_tests)
none_left (n ∷ ns) (suc a) h = shifted ∙ none_left ns a (omega arith)
  where
    shifted : eqb (suc a) (suc (length ns)) ≡ eqb a (length ns)
    shifted = grind (arith, nat_tests)

-- after the last element the list fits where no axis is left
pub fit_all : (ns : List ℕ) (es : List SliceInfoElem) (a k : ℕ) → length es ≤ k → IsFitUpTo ns es a k → eqb a (length ns) ≡ each_fits ns es
fit_all ns es a k h so_far = none_left ns a so_far.within ∙ sym (so_far.same ∙ ap (each_fits (drop a ns)) (no_more es k h))

-- the length of an axis, if there is one
pub length_there : (ns : List ℕ) (a d : ℕ) → a < length ns → Some (get_or ns a d) ≡ slice_get ns a
length_there ns a d h = sym (slice_get-get_or ns a d h)

pub no_length : (ns : List ℕ) (a : ℕ) → length ns ≤ a → None ≡ slice_get ns a
no_length ns a h = sym (slice_get_past ns a h)

-- a list leaves no more axes than it has elements
pub few_kept : (es : List SliceInfoElem) → length es ≤ 32 → nat_le (axes_kept es) 32 ≡ true
few_kept es few = let kept : axes_kept es ≤ length es = count_by-le-length keeps_axis es in grind (arith, nat_tests, kept, few)
