-- The axes sliced and collapsed one after another, as a list of slices says.
use Rattle.nd_layout.proofs.NamesFromOtherCrates.{◌≡◌, ℕ, zero, suc, ◌+◌, ◌-◌, ◌<◌, ◌≤◌, Bool, true, false, cond, ltb, List, [], ◌∷◌, length, drop, get_or, ℤ, pos, negsuc, refl, ap, sym, ◌∙◌, subst, arith, drop_of_length-le, and_parts, ltb-true, drop_more, slice_get, Option, None, Some, is_some, unwrap_or, SliceInfoElem, Index, NewAxis, fits_axis, coordinate_on, each_fits, fits_next, collapsed_after, collapsed_before, shape_with, index_with, next_axis, size_of}
use Rattle.nd_shape_and_slice.specs.declared.slice_info.SliceInfoElem.TheVariants.{Slice as Part}
use Rattle.nd_layout.specs.SliceElementOnAxis.{strides_with}
use Rattle.nd_layout.specs.ValidLayoutsAndSteps.{IsStep}
use Rattle.nd_layout.specs.StridesAfterLayoutCalls.{collapsed_strides}
use Rattle.nd_layout.proofs.steps.StepsKeepValidLayouts.{step_then, step_by, step_none}
use Rattle.nd_layout.proofs.steps.IndexAxisAndInsertAxis.{same_is_step}

-- a fitting coordinate is on its axis
pub coordinate_within : (n : ℕ) (k : ℤ) → is_some (coordinate_on n k) ≡ true → unwrap_or (coordinate_on n k) 0 < n
coordinate_within n (pos k) = at (ltb k n) refl
  where
    at : (b : Bool) → ltb k n ≡ b → is_some (cond b (Some k) None) ≡ true → unwrap_or (cond b (Some k) None) 0 < n
    at true e h = ltb-true k n e
    at false e h = absurd cc
coordinate_within n (negsuc k) = at (ltb k n) refl
  where
    at : (b : Bool) → ltb k n ≡ b → is_some (cond b (Some (n - suc k)) None) ≡ true → unwrap_or (cond b (Some (n - suc k)) None) 0 < n
    at true e h = let below = ltb-true k n e in omega (arith, below)
    at false e h = absurd cc

-- what a fitting slice, or index, says of the axis that it reads
pub part_fits : (ns : List ℕ) (a : ℕ) (start : ℤ) (end : Option ℤ) (step : ℤ) → fits_next (slice_get ns a) (Part start end step) ≡ true → (a < length ns) × (fits_axis (get_or ns a 0) (record { start = start; end = end; step = step }) ≡ true)
part_fits [] a start end step h = absurd cc
part_fits (n ∷ ns) zero start end step h = (omega arith, h)
part_fits (n ∷ ns) (suc a) start end step h = let later = part_fits ns a start end step h in (omega (arith, later.0), later.1)

pub index_fits : (ns : List ℕ) (a : ℕ) (k : ℤ) → fits_next (slice_get ns a) (Index k) ≡ true → (a < length ns) × (is_some (coordinate_on (get_or ns a 0) k) ≡ true)
index_fits [] a k h = absurd cc
index_fits (n ∷ ns) zero k h = (omega arith, h)
index_fits (n ∷ ns) (suc a) k h = let later = index_fits ns a k h in (omega (arith, later.0), later.1)

-- the axes below a are done
abbrev pub fits_from : ℕ → List ℕ → List SliceInfoElem → Bool
fits_from zero ns es = each_fits ns es
fits_from (suc a) [] es = false
fits_from (suc a) (n ∷ ns) es = fits_from a ns es

abbrev pub after_from : ℕ → List ℕ → List SliceInfoElem → List ℕ
after_from zero ns es = collapsed_after ns es
after_from (suc a) [] es = []
after_from (suc a) (n ∷ ns) es = n ∷ after_from a ns es

abbrev pub before_from : ℕ → List ℕ → List SliceInfoElem → List ℕ → List ℕ
before_from zero ns es is = collapsed_before ns es is
before_from (suc a) [] es is = []
before_from (suc a) (n ∷ ns) es [] = []
before_from (suc a) (n ∷ ns) es (i ∷ is) = i ∷ before_from a ns es is

abbrev pub strides_from : ℕ → List ℕ → List ℤ → List SliceInfoElem → List ℤ
strides_from zero ns ss es = collapsed_strides ns ss es
strides_from (suc a) [] ss es = []
strides_from (suc a) (n ∷ ns) [] es = []
strides_from (suc a) (n ∷ ns) (s ∷ ss) es = s ∷ strides_from a ns ss es

-- one element more
pub fits_here : (a : ℕ) (ns : List ℕ) (e : SliceInfoElem) (es : List SliceInfoElem) → fits_from a ns (e ∷ es) ≡ true → fits_next (slice_get ns a) e ≡ true
fits_here zero [] (Part start end step) es h = absurd cc
fits_here zero (n ∷ ns) (Part start end step) es h = (and_parts _ _ h).0
fits_here zero [] (Index k) es h = absurd cc
fits_here zero (n ∷ ns) (Index k) es h = (and_parts _ _ h).0
fits_here zero [] NewAxis es h = refl
fits_here zero (n ∷ ns) NewAxis es h = refl
fits_here (suc a) [] e es h = absurd cc
fits_here (suc a) (n ∷ ns) e es h = fits_here a ns e es h

fits_more : (a : ℕ) (ns : List ℕ) (e : SliceInfoElem) (es : List SliceInfoElem) → fits_from a ns (e ∷ es) ≡ true → fits_from (next_axis a e) (shape_with ns a e) es ≡ true
fits_more zero [] (Part start end step) es h = absurd cc
fits_more zero (n ∷ ns) (Part start end step) es h = (and_parts _ _ h).1
fits_more zero [] (Index k) es h = absurd cc
fits_more zero (n ∷ ns) (Index k) es h = (and_parts _ _ h).1
fits_more zero [] NewAxis es h = h
fits_more zero (n ∷ ns) NewAxis es h = h
fits_more (suc a) [] e es h = absurd cc
fits_more (suc a) (n ∷ ns) (Part start end step) es h = fits_more a ns (Part start end step) es h
fits_more (suc a) (n ∷ ns) (Index k) es h = fits_more a ns (Index k) es h
fits_more (suc a) (n ∷ ns) NewAxis es h = fits_more a ns NewAxis es h

pub after_more : (a : ℕ) (ns : List ℕ) (e : SliceInfoElem) (es : List SliceInfoElem) → fits_from a ns (e ∷ es) ≡ true → after_from a ns (e ∷ es) ≡ after_from (next_axis a e) (shape_with ns a e) es
after_more zero [] (Part start end step) es h = absurd cc
after_more zero (n ∷ ns) (Part start end step) es h = refl
after_more zero [] (Index k) es h = absurd cc
after_more zero (n ∷ ns) (Index k) es h = refl
after_more zero [] NewAxis es h = refl
after_more zero (n ∷ ns) NewAxis es h = refl
after_more (suc a) [] e es h = absurd cc
after_more (suc a) (n ∷ ns) (Part start end step) es h = ap (λ l. n ∷ l) (after_more a ns (Part start end step) es h)
after_more (suc a) (n ∷ ns) (Index k) es h = ap (λ l. n ∷ l) (after_more a ns (Index k) es h)
after_more (suc a) (n ∷ ns) NewAxis es h = ap (λ l. n ∷ l) (after_more a ns NewAxis es h)

before_more : (a : ℕ) (ns : List ℕ) (e : SliceInfoElem) (es : List SliceInfoElem) (i : List ℕ) → fits_from a ns (e ∷ es) ≡ true → before_from a ns (e ∷ es) i ≡ index_with ns a e (before_from (next_axis a e) (shape_with ns a e) es i)
before_more zero [] (Part start end step) es i h = absurd cc
before_more zero (n ∷ ns) (Part start end step) es [] h = refl
before_more zero (n ∷ ns) (Part start end step) es (i ∷ is) h = refl
before_more zero [] (Index k) es i h = absurd cc
before_more zero (n ∷ ns) (Index k) es [] h = refl
before_more zero (n ∷ ns) (Index k) es (i ∷ is) h = refl
before_more zero [] NewAxis es i h = refl
before_more zero (n ∷ ns) NewAxis es i h = refl
before_more (suc a) [] e es i h = absurd cc
before_more (suc a) (n ∷ ns) (Part start end step) es [] h = refl
before_more (suc a) (n ∷ ns) (Part start end step) es (i ∷ is) h = ap (λ l. i ∷ l) (before_more a ns (Part start end step) es is h)
before_more (suc a) (n ∷ ns) (Index k) es [] h = refl
before_more (suc a) (n ∷ ns) (Index k) es (i ∷ is) h = ap (λ l. i ∷ l) (before_more a ns (Index k) es is h)
before_more (suc a) (n ∷ ns) NewAxis es [] h = refl
before_more (suc a) (n ∷ ns) NewAxis es (i ∷ is) h = ap (λ l. i ∷ l) (before_more a ns NewAxis es is h)

pub strides_more : (a : ℕ) (ns : List ℕ) (ss : List ℤ) (e : SliceInfoElem) (es : List SliceInfoElem) → length ss ≡ length ns → fits_from a ns (e ∷ es) ≡ true → strides_from a ns ss (e ∷ es) ≡ strides_from (next_axis a e) (shape_with ns a e) (strides_with ns ss a e) es
strides_more zero [] ss (Part start end step) es many h = absurd cc
strides_more zero (n ∷ ns) [] (Part start end step) es many h = absurd (omega arith)
strides_more zero (n ∷ ns) (s ∷ ss) (Part start end step) es many h = refl
strides_more zero [] ss (Index k) es many h = absurd cc
strides_more zero (n ∷ ns) [] (Index k) es many h = absurd (omega arith)
strides_more zero (n ∷ ns) (s ∷ ss) (Index k) es many h = refl
strides_more zero [] ss NewAxis es many h = refl
strides_more zero (n ∷ ns) ss NewAxis es many h = refl
strides_more (suc a) [] ss e es many h = absurd cc
strides_more (suc a) (n ∷ ns) [] e es many h = absurd (omega arith)
strides_more (suc a) (n ∷ ns) (s ∷ ss) (Part start end step) es many h = ap (λ l. s ∷ l) (strides_more a ns ss (Part start end step) es (omega (arith, many)) h)
strides_more (suc a) (n ∷ ns) (s ∷ ss) (Index k) es many h = ap (λ l. s ∷ l) (strides_more a ns ss (Index k) es (omega (arith, many)) h)
strides_more (suc a) (n ∷ ns) (s ∷ ss) NewAxis es many h = ap (λ l. s ∷ l) (strides_more a ns ss NewAxis es (omega (arith, many)) h)

-- no element is left
after_none : (a : ℕ) (ns : List ℕ) → after_from a ns [] ≡ ns
after_none zero ns = refl
after_none (suc a) [] = refl
after_none (suc a) (n ∷ ns) = ap (λ l. n ∷ l) (after_none a ns)

before_none : (a : ℕ) (ns i : List ℕ) → fits_from a ns [] ≡ true → before_from a ns [] i ≡ i
before_none zero ns i h = refl
before_none (suc a) [] i h = absurd cc
before_none (suc a) (n ∷ ns) [] h = refl
before_none (suc a) (n ∷ ns) (i ∷ is) h = ap (λ l. i ∷ l) (before_none a ns is h)

strides_none : (a : ℕ) (ns : List ℕ) (ss : List ℤ) → length ss ≡ length ns → fits_from a ns [] ≡ true → strides_from a ns ss [] ≡ ss
strides_none zero ns ss many h = refl
strides_none (suc a) [] ss many h = absurd cc
strides_none (suc a) (n ∷ ns) [] many h = absurd (omega arith)
strides_none (suc a) (n ∷ ns) (s ∷ ss) many h = ap (λ l. s ∷ l) (strides_none a ns ss (omega (arith, many)) h)

pub one_more : (a k : ℕ) (e : SliceInfoElem) → a ≤ k → next_axis a e ≤ k + 1
one_more a k (Part start end step) h = omega arith
one_more a k (Index i) h = omega arith
one_more a k NewAxis h = omega arith

-- the first k elements have been applied, and the next reads axis a
pub record IsSlicedTo (offset : ℕ) (ns : List ℕ) (ss : List ℤ) (es : List SliceInfoElem) (a k new_offset : ℕ) (new_ns : List ℕ) (new_ss : List ℤ) : Type 0 where
  pub source : List ℕ → List ℕ
  pub few : a ≤ k
  pub fits : fits_from a new_ns (drop k es) ≡ true
  pub shape : collapsed_after ns es ≡ after_from a new_ns (drop k es)
  pub strides : collapsed_strides ns ss es ≡ strides_from a new_ns new_ss (drop k es)
  pub unmoved : size_of ns ≡ 0 → new_offset ≡ offset
  pub index : (i : List ℕ) → collapsed_before ns es i ≡ source (before_from a new_ns (drop k es) i)
  pub step : IsStep offset ns ss new_offset new_ns new_ss source

module _ (offset : ℕ) (ns : List ℕ) (ss : List ℤ) (es : List SliceInfoElem) where
  pub sliced_none : length ss ≡ length ns → each_fits ns es ≡ true → IsSlicedTo offset ns ss es 0 0 offset ns ss
  sliced_none many fits = record {
    source = λ i. i;
    few = omega arith;
    fits = fits;
    shape = refl;
    strides = refl;
    unmoved = λ _. refl;
    index = λ i. refl;
    step = same_is_step offset ns ss many;
  }

  module _ (a k : ℕ) (f' : ℕ) (ns' : List ℕ) (ss' : List ℤ) (so_far : IsSlicedTo offset ns ss es a k f' ns' ss') where
    module _ (d : SliceInfoElem) (within : k < length es) where
      here : drop k es ≡ get_or es k d ∷ drop (k + 1) es
      here = drop_more es k d within

      fitting : fits_from a ns' (get_or es k d ∷ drop (k + 1) es) ≡ true
      fitting = subst (λ l. fits_from a ns' l ≡ true) here so_far.fits

      pub sliced_fits : fits_next (slice_get ns' a) (get_or es k d) ≡ true
      sliced_fits = fits_here a ns' (get_or es k d) (drop (k + 1) es) fitting

      pub sliced_more : (f'' : ℕ) (ns'' : List ℕ) (ss'' : List ℤ) → ns'' ≡ shape_with ns' a (get_or es k d) → ss'' ≡ strides_with ns' ss' a (get_or es k d) → (size_of ns' ≡ 0 → f'' ≡ f') → IsStep f' ns' ss' f'' ns'' ss'' (index_with ns' a (get_or es k d)) → IsSlicedTo offset ns ss es (next_axis a (get_or es k d)) (k + 1) f'' ns'' ss''
      sliced_more f'' ns'' ss'' shape strides rests step =
          let e = get_or es k d in
          let rest = drop (k + 1) es in
          record {
            source = λ i. so_far.source (index_with ns' a e i);
            few = one_more a k e so_far.few;
            fits = subst (λ l. fits_from (next_axis a e) l rest ≡ true) (sym shape) (fits_more a ns' e rest fitting);
            shape = so_far.shape ∙ (ap (after_from a ns') here ∙ (after_more a ns' e rest fitting ∙ ap (λ l. after_from (next_axis a e) l rest) (sym shape)));
            strides = so_far.strides ∙ (ap (strides_from a ns' ss') here ∙ (strides_more a ns' ss' e rest so_far.step.as_many fitting ∙ (ap (λ l. strides_from (next_axis a e) l (strides_with ns' ss' a e) rest) (sym shape) ∙ ap (λ l. strides_from (next_axis a e) ns'' l rest) (sym strides))));
            unmoved = λ z. rests (step_none so_far.step z) ∙ so_far.unmoved z;
            index = λ i.
                so_far.index i
                ∙ ap so_far.source
                (ap (λ l. before_from a ns' l i) here
                ∙ (before_more a ns' e rest i fitting ∙ ap (λ l. index_with ns' a e (before_from (next_axis a e) l rest i)) (sym shape)));
            step = step_then so_far.step step;
          }

    pub sliced_all_shape : length es ≤ k → ns' ≡ collapsed_after ns es
    sliced_all_shape done = sym (so_far.shape ∙ (ap (after_from a ns') (drop_of_length-le es done) ∙ after_none a ns'))

    pub sliced_all_strides : length es ≤ k → ss' ≡ collapsed_strides ns ss es
    sliced_all_strides done =
        let end = drop_of_length-le es done in
        let fits : fits_from a ns' [] ≡ true = subst (λ l. fits_from a ns' l ≡ true) end so_far.fits in
        sym (so_far.strides ∙ (ap (strides_from a ns' ss') end ∙ strides_none a ns' ss' so_far.step.as_many fits))

    pub sliced_all : length es ≤ k → IsStep offset ns ss f' ns' ss' (collapsed_before ns es)
    sliced_all done =
        let end = drop_of_length-le es done in
        let fits : fits_from a ns' [] ≡ true = subst (λ l. fits_from a ns' l ≡ true) end so_far.fits in
        step_by (collapsed_before ns es)
        (λ i h. sym (so_far.index i ∙ ap so_far.source (ap (λ l. before_from a ns' l i) end ∙ before_none a ns' i fits)))
        so_far.step
