-- The axes sliced one after another, by what a closure answers.
use Rattle.nd_layout.proofs.NamesFromOtherCrates.{◌≡◌, ℕ, suc, ◌+◌, ◌<◌, ◌≤◌, true, false, eqb, List, [], ◌∷◌, ◌++◌, length, drop, get_or, ℤ, pos, nat_abs, refl, ap, sym, ◌∙◌, subst, arith, None, nat_tests, drop_of_length-le, drop_more, append-nil, length-append, Slice, AxisDescription, axes_from, fits_axis, sliced_length, sliced_from, sliced_shape, sliced_index, each_sliced_shape, each_sliced_index, AnswersFit, AnswersAre, size_of}
use Rattle.std.proofs.lemmas.List.{append_assoc}
use Rattle.nd_layout.specs.ValidLayoutsAndSteps.{IsStep}
use Rattle.nd_layout.specs.StridesAfterLayoutCalls.{stepped_stride, sliced_strides, each_sliced_strides}
use Rattle.nd_layout.proofs.steps.StepsKeepValidLayouts.{step_then, step_by, step_none}
use Rattle.nd_layout.proofs.steps.IndexAxisAndInsertAxis.{same_is_step}

-- one axis more
shape_more : (ns : List ℕ) (ys : List Slice) (s : Slice) → length ys < length ns → each_sliced_shape ns (ys ++ s ∷ []) ≡ sliced_shape (each_sliced_shape ns ys) (length ys) s
shape_more [] ys s h = absurd (omega arith)
shape_more (n ∷ ns) [] s h = refl
shape_more (n ∷ ns) (y ∷ ys) s h = ap (λ l. sliced_length n y ∷ l) (shape_more ns ys s (omega (arith, h)))

strides_more : (ns : List ℕ) (ss : List ℤ) (ys : List Slice) (s : Slice) → length ss ≡ length ns → length ys < length ns → each_sliced_strides ns ss (ys ++ s ∷ []) ≡ sliced_strides (each_sliced_shape ns ys) (each_sliced_strides ns ss ys) (length ys) s
strides_more [] ss ys s many h = absurd (omega arith)
strides_more (n ∷ ns) [] ys s many h = absurd (omega arith)
strides_more (n ∷ ns) (t ∷ ss) [] s many h = refl
strides_more (n ∷ ns) (t ∷ ss) (y ∷ ys) s many h = ap (λ l. stepped_stride (sliced_length n y) t y.step ∷ l) (strides_more ns ss ys s (omega (arith, many)) (omega (arith, h)))

index_more : (ns : List ℕ) (ys : List Slice) (s : Slice) (i : List ℕ) → length ys < length ns → each_sliced_index ns (ys ++ s ∷ []) i ≡ each_sliced_index ns ys (sliced_index (each_sliced_shape ns ys) (length ys) s i)
index_more [] ys s i h = absurd (omega arith)
index_more (n ∷ ns) [] s [] h = refl
index_more (n ∷ ns) [] s (i ∷ is) h = refl
index_more (n ∷ ns) (y ∷ ys) s [] h = refl
index_more (n ∷ ns) (y ∷ ys) s (i ∷ is) h = ap (λ l. sliced_from n y i ∷ l) (index_more ns ys s is (omega (arith, h)))

length_kept : (ns : List ℕ) (ys : List Slice) → length ys < length ns → get_or (each_sliced_shape ns ys) (length ys) 0 ≡ get_or ns (length ys) 0
length_kept [] ys h = absurd (omega arith)
length_kept (n ∷ ns) [] h = refl
length_kept (n ∷ ns) (y ∷ ys) h = length_kept ns ys (omega (arith, h))

length-each_sliced_shape : (ns : List ℕ) (ys : List Slice) → length ys ≤ length ns → length (each_sliced_shape ns ys) ≡ length ns
length-each_sliced_shape ns [] h = refl
length-each_sliced_shape [] (y ∷ ys) h = absurd (omega arith)
length-each_sliced_shape (n ∷ ns) (y ∷ ys) h = ap suc (length-each_sliced_shape ns ys (omega (arith, h)))

axes_here : (ns : List ℕ) (ss : List ℤ) (k : ℕ) → k < length ns → length ss ≡ length ns → axes_from k (drop k ns) (drop k ss) ≡ record { axis = record { 0 = k }; len = get_or ns k 0; stride = get_or ss k (pos 0) } ∷ axes_from (k + 1) (drop (k + 1) ns) (drop (k + 1) ss)
axes_here ns ss k h many =
    ap (λ l. axes_from k l (drop k ss)) (drop_more ns k 0 h)
    ∙ ap (λ l. axes_from k (get_or ns k 0 ∷ drop (k + 1) ns) l) (drop_more ss k (pos 0) (omega (arith, h, many)))

axes_done : (ns : List ℕ) (ss : List ℤ) (k : ℕ) → length ns ≤ k → axes_from k (drop k ns) (drop k ss) ≡ []
axes_done ns ss k h = ap (λ l. axes_from k l (drop k ss)) (drop_of_length-le ns h)

module _ {F : Type 0} (pre : F → AxisDescription → Type 0) (steps : F → AxisDescription → Slice → F → Type 0) (start : F) (offset : ℕ) (ns : List ℕ) (ss : List ℤ) where
  -- the axes below k are sliced as the closure answered, which left it in state f
  pub record IsEachTo (k : ℕ) (f : F) (new_offset : ℕ) (new_ns : List ℕ) (new_ss : List ℤ) : Type 0 where
    pub slices : List Slice
    pub many : length slices ≡ k
    pub fits : AnswersFit pre steps f (axes_from k (drop k ns) (drop k ss))
    pub asked : (more : List Slice) (last : F) → AnswersAre steps f (axes_from k (drop k ns) (drop k ss)) more last → AnswersAre steps start (axes_from 0 ns ss) (slices ++ more) last
    pub lengths : new_ns ≡ each_sliced_shape ns slices
    pub step : IsStep offset ns ss new_offset new_ns new_ss (each_sliced_index ns slices)
    pub strides : new_ss ≡ each_sliced_strides ns ss slices
    pub unmoved : size_of ns ≡ 0 → new_offset ≡ offset

  pub each_none : length ss ≡ length ns → AnswersFit pre steps start (axes_from 0 ns ss) → IsEachTo 0 start offset ns ss
  each_none many fits = record {
    slices = [];
    many = refl;
    fits = fits;
    asked = λ more last h. h;
    lengths = refl;
    step = same_is_step offset ns ss many;
    strides = refl;
    unmoved = λ _. refl;
  }

  module _ (many : length ss ≡ length ns) (k : ℕ) (f : F) (f' : ℕ) (ns' : List ℕ) (ss' : List ℤ) (so_far : IsEachTo k f f' ns' ss') where
    module _ (within : k < length ns) where
      abbrev pub described : AxisDescription
      described = record { axis = record { 0 = k }; len = get_or ns k 0; stride = get_or ss k (pos 0) }

      fitting : AnswersFit pre steps f (described ∷ axes_from (k + 1) (drop (k + 1) ns) (drop (k + 1) ss))
      fitting = subst (AnswersFit pre steps f) (axes_here ns ss k within many) so_far.fits

      pub each_on : k < length ns'
      each_on = let long = ap length so_far.lengths ∙ length-each_sliced_shape ns so_far.slices (omega (arith, so_far.many, within)) in omega (arith, long, within)

      here : get_or ns' k 0 ≡ get_or ns k 0
      here = ap (λ l. get_or l k 0) so_far.lengths ∙ subst (λ n. get_or (each_sliced_shape ns so_far.slices) n 0 ≡ get_or ns n 0) so_far.many (length_kept ns so_far.slices (omega (arith, so_far.many, within)))

      module _ (s : Slice) (g : F) (answered : steps f described s g) where
        pub each_fits_axis : fits_axis (get_or ns' k 0) s ≡ true
        each_fits_axis = ap (λ n. fits_axis n s) here ∙ (fitting.1 s g answered).0

        pub each_more : (f'' : ℕ) (ns'' : List ℕ) (ss'' : List ℤ) → ns'' ≡ sliced_shape ns' k s → ss'' ≡ sliced_strides ns' ss' k s → (size_of ns' ≡ 0 → f'' ≡ f') → IsStep f' ns' ss' f'' ns'' ss'' (sliced_index ns' k s) → IsEachTo (k + 1) g f'' ns'' ss''
        each_more f'' ns'' ss'' shape stepped rests step =
            let ys = so_far.slices in
            let below : length ys < length ns = omega (arith, so_far.many, within) in
            record {
              slices = ys ++ s ∷ [];
              many = let long = length-append ys (s ∷ []) in omega (arith, long, so_far.many);
              fits = (fitting.1 s g answered).1;
              asked = λ more last h.
                  subst (λ l. AnswersAre steps start (axes_from 0 ns ss) l last) (sym (append_assoc ys (s ∷ []) more))
                  (so_far.asked (s ∷ more) last (subst (λ l. AnswersAre steps f l (s ∷ more) last) (sym (axes_here ns ss k within many)) (g, answered, h)));
              lengths = shape ∙ (ap (λ l. sliced_shape l k s) so_far.lengths ∙ (ap (λ n. sliced_shape (each_sliced_shape ns ys) n s) (sym so_far.many) ∙ sym (shape_more ns ys s below)));
              step = step_by (each_sliced_index ns (ys ++ s ∷ []))
                  (λ i h.
                  ap (λ l. each_sliced_index ns ys (sliced_index l k s i)) so_far.lengths
                  ∙ (ap (λ n. each_sliced_index ns ys (sliced_index (each_sliced_shape ns ys) n s i)) (sym so_far.many) ∙ sym (index_more ns ys s i below)))
                  (step_then so_far.step step);
              strides = stepped
                  ∙ (ap (λ l. sliced_strides l ss' k s) so_far.lengths
                  ∙ (ap (λ l. sliced_strides (each_sliced_shape ns ys) l k s) so_far.strides
                  ∙ (ap (λ n. sliced_strides (each_sliced_shape ns ys) (each_sliced_strides ns ss ys) n s) (sym so_far.many) ∙ sym (strides_more ns ss ys s many below))));
              unmoved = λ z. rests (step_none so_far.step z) ∙ so_far.unmoved z;
            }

    pub each_all : length ns ≤ k → (slices : List Slice) × (last : F) × AnswersAre steps start (axes_from 0 ns ss) slices last × (ns' ≡ each_sliced_shape ns slices) × IsStep offset ns ss f' ns' ss' (each_sliced_index ns slices) × (ss' ≡ each_sliced_strides ns ss slices)
    each_all done =
        let end = so_far.asked [] f (subst (λ l. AnswersAre steps f l [] f) (sym (axes_done ns ss k done)) refl) in
        (so_far.slices, f, subst (λ l. AnswersAre steps start (axes_from 0 ns ss) l f) (append-nil so_far.slices) end, so_far.lengths, so_far.step, so_far.strides)

-- a closure that may always be asked, and whose answers always fit
pub answers_always_fit : {F : Type 0} (pre : F → AxisDescription → Type 0) (steps : F → AxisDescription → Slice → F → Type 0) → ((f : F) (d : AxisDescription) → pre f d) → ((f : F) (d : AxisDescription) (s : Slice) (g : F) → steps f d s g → fits_axis d.len s ≡ true) → (f : F) (ds : List AxisDescription) → AnswersFit pre steps f ds
answers_always_fit pre steps callable fits f [] = tt
answers_always_fit pre steps callable fits f (d ∷ ds) = (callable f d, λ s g st. (fits f d s g st, answers_always_fit pre steps callable fits g ds))

-- the whole axis, step by step either way
pub whole_fits : (n : ℕ) (step : ℤ) → 0 < nat_abs step → fits_axis n (record { start = pos 0; end = None; step = step }) ≡ true
whole_fits n step moves = rw (moving (nat_abs step) moves) (grind (arith, nat_tests))
  where
    moving : (m : ℕ) → 0 < m → eqb m 0 ≡ false
    moving m h = grind (arith, nat_tests, h)
