-- No layout step but broadcast names an old index twice.
use Rattle.nd_array_core.proofs.NamesFromOtherCrates.{◌≡◌, ℕ, suc, ◌+◌, ◌-◌, ◌*◌, ◌/◌, ◌%◌, ◌<◌, ◌≤◌, Bool, true, false, List, [], ◌∷◌, length, reverse, replicate, get_or, set, ℤ, pos, negsuc, nat_abs, refl, ap, sym, ◌∙◌, subst, arith, ⊎_elim, is_some, min, unwrap_or, insert, remove, swap, eq_of_mul-eq-mul_right, div-add-mod', and_parts, cases_eq, length-set, get_or-replicate, get_or-set_same, get_or-set_other, set-get_or, set-set, ext_get_or, reverse-reverse, length-insert, length-remove, length-swap, get_or-insert_at, Slice, Index, NewAxis, permuted_list, each_sliced_shape, each_sliced_index, diagonal_length, in_box, size_of, fits_axis, low_of, high_of, quotient_up, stepped_from, sliced_length, sliced_from, coordinate_on, each_fits, shape_after, index_before, collapsed_after, collapsed_before, stays, kept_of, spread_over, in_box-cons, length-in_box, coordinate_below, remove-inserted, first_same, others_same, insert-removed, merged_shape, merged_index, rank_in, index_in, rank_in-below, length-permuted, permuted-unpermuted, steps_below, swap_back, step_moves, length-stays}
use Rattle.nd_shape_and_slice.specs.declared.slice_info.SliceInfoElem.TheVariants.{Slice as Part}
use Rattle.nd_array_core.specs.LayoutLaws.{path_source}
use Rattle.nd_array_core.specs.InjectiveIndexMaps.{NamesOnce, SlicesNameOnce, ListsNameOnce, CollapsedListsNameOnce, each_slice_fits, EachSlicesNameOnce, PermutationsNameOnce, ReversalsNameOnce, ExchangesNameOnce, InversionsNameOnce, CollapsesNameOnce, CoordinatesNameOnce, LowerPartsNameOnce, UpperPartsNameOnce, InsertionsNameOnce, SqueezesNameOnce, MergesNameOnce, DiagonalsNameOnce, ReshapesNameOnce, PathsNameOnce}
use Rattle.nd_array_core.proofs.law_lemmas.LayoutLaws.{coordinate_at, path_inside}
use Rattle.nd_array_core.proofs.reshape_lemmas.IndexesAfterReshape.{rank_of_index_in}
use Rattle.nd_array_core.proofs.law_lemmas.ReshapeLaws.{index_of_rank_in}

-- ---- lists
both : (x y : ℕ) (xs ys : List ℕ) → x ≡ y → xs ≡ ys → x ∷ xs ≡ y ∷ ys
both x y xs ys e f = λ k. e k ∷ f k

no_axes : (i : List ℕ) → in_box [] i ≡ true → i ≡ []
no_axes [] h = refl
no_axes (x ∷ i) h = cc

-- the coordinate of an axis of length 1
only_one : (i j n : ℕ) → n ≤ 1 → i < n → j < n → i ≡ j
only_one i j n one h k = omega (arith, one, h, k)

-- ---- one coordinate changed: the others are as they were, so it is enough that this one can be told
changed_once : (i j : List ℕ) (a x y : ℕ) → a < length i → a < length j → set i a x ≡ set j a y → (x ≡ y → get_or i a 0 ≡ get_or j a 0) → i ≡ j
changed_once i j a x y on_i on_j same back =
    let here : x ≡ y = sym (get_or-set_same i a x 0 on_i) ∙ ap (λ l. get_or l a 0) same ∙ get_or-set_same j a y 0 on_j in
    sym (set-set i a x (get_or i a 0) ∙ set-get_or i a 0)
    ∙ ap (λ l. set l a (get_or i a 0)) same
    ∙ ap (set (set j a y) a) (back here)
    ∙ (set-set j a y (get_or j a 0) ∙ set-get_or j a 0)

on_axis : (ns i : List ℕ) (a m : ℕ) → a < length ns → in_box (set ns a m) i ≡ true → a < length i
on_axis ns i a m on h = let long = length-set ns a m in omega (arith, on, long, length-in_box (set ns a m) i h)

stepped_once : (low high : ℕ) (step : ℤ) (i j : ℕ) → 0 < nat_abs step → i < quotient_up (high - low) (nat_abs step) → j < quotient_up (high - low) (nat_abs step) → stepped_from low high step i ≡ stepped_from low high step j → i ≡ j
stepped_once low high (pos step) i j some h k e = eq_of_mul-eq-mul_right step some i j (omega (arith, e))
stepped_once low high (negsuc step) i j some h k e =
    let first = steps_below (high - low) (suc step) i some h in
    let second = steps_below (high - low) (suc step) j some k in
    eq_of_mul-eq-mul_right (suc step) some i j (omega (arith, e, first, second))

sliced_coordinate : (n : ℕ) (s : Slice) (i j : ℕ) → fits_axis n s ≡ true → i < sliced_length n s → j < sliced_length n s → sliced_from n s i ≡ sliced_from n s j → i ≡ j
sliced_coordinate n s i j fits h k e = stepped_once (low_of n s) (high_of n s) s.step i j (step_moves n s fits) h k e

-- ---- slices
pub slices_once : SlicesNameOnce
slices_once ns a s on fits i j h k same =
    let n = get_or ns a 0 in
    let m = sliced_length n s in
    changed_once i j a (sliced_from n s (get_or i a 0)) (sliced_from n s (get_or j a 0)) (on_axis ns i a m on h) (on_axis ns j a m on k) same
    (sliced_coordinate n s (get_or i a 0) (get_or j a 0) fits (coordinate_at ns i a m on h) (coordinate_at ns j a m on k))

pub lists_once : ListsNameOnce
lists_once [] [] fits i j h k same = no_axes i h ∙ sym (no_axes j k)
lists_once (n ∷ ns) [] fits i j h k same = absurd cc
lists_once [] (Part start end step ∷ es) fits i j h k same = absurd cc
lists_once (n ∷ ns) (Part start end step ∷ es) fits [] j h k same = absurd cc
lists_once (n ∷ ns) (Part start end step ∷ es) fits (x ∷ i) [] h k same = absurd cc
lists_once (n ∷ ns) (Part start end step ∷ es) fits (x ∷ i) (y ∷ j) h k same =
    let s : Slice = record { start = start; end = end; step = step } in
    let fit = and_parts (fits_axis n s) (each_fits ns es) fits in
    let in_i = in_box-cons (sliced_length n s) (shape_after ns es) x i h in
    let in_j = in_box-cons (sliced_length n s) (shape_after ns es) y j k in
    both x y i j
    (sliced_coordinate n s x y fit.0 in_i.0 in_j.0 (first_same (sliced_from n s x) (sliced_from n s y) (index_before ns es i) (index_before ns es j) same))
    (lists_once ns es fit.1 i j in_i.1 in_j.1 (others_same (sliced_from n s x) (sliced_from n s y) (index_before ns es i) (index_before ns es j) same))
lists_once [] (Index c ∷ es) fits i j h k same = absurd cc
lists_once (n ∷ ns) (Index c ∷ es) fits i j h k same =
    let fit = and_parts (is_some (coordinate_on n c)) (each_fits ns es) fits in
    let x = unwrap_or (coordinate_on n c) 0 in
    lists_once ns es fit.1 i j h k (others_same x x (index_before ns es i) (index_before ns es j) same)
lists_once [] (NewAxis ∷ es) fits [] j h k same = absurd cc
lists_once [] (NewAxis ∷ es) fits (x ∷ i) [] h k same = absurd cc
lists_once [] (NewAxis ∷ es) fits (x ∷ i) (y ∷ j) h k same =
    let in_i = in_box-cons 1 (shape_after [] es) x i h in
    let in_j = in_box-cons 1 (shape_after [] es) y j k in
    both x y i j (only_one x y 1 (omega arith) in_i.0 in_j.0) (lists_once [] es fits i j in_i.1 in_j.1 same)
lists_once (n ∷ ns) (NewAxis ∷ es) fits [] j h k same = absurd cc
lists_once (n ∷ ns) (NewAxis ∷ es) fits (x ∷ i) [] h k same = absurd cc
lists_once (n ∷ ns) (NewAxis ∷ es) fits (x ∷ i) (y ∷ j) h k same =
    let in_i = in_box-cons 1 (shape_after (n ∷ ns) es) x i h in
    let in_j = in_box-cons 1 (shape_after (n ∷ ns) es) y j k in
    both x y i j (only_one x y 1 (omega arith) in_i.0 in_j.0) (lists_once (n ∷ ns) es fits i j in_i.1 in_j.1 same)

pub collapsed_lists_once : CollapsedListsNameOnce
collapsed_lists_once [] [] fits i j h k same = same
collapsed_lists_once (n ∷ ns) [] fits i j h k same = absurd cc
collapsed_lists_once [] (Part start end step ∷ es) fits i j h k same = absurd cc
collapsed_lists_once (n ∷ ns) (Part start end step ∷ es) fits [] j h k same = absurd cc
collapsed_lists_once (n ∷ ns) (Part start end step ∷ es) fits (x ∷ i) [] h k same = absurd cc
collapsed_lists_once (n ∷ ns) (Part start end step ∷ es) fits (x ∷ i) (y ∷ j) h k same =
    let s : Slice = record { start = start; end = end; step = step } in
    let fit = and_parts (fits_axis n s) (each_fits ns es) fits in
    let in_i = in_box-cons (sliced_length n s) (collapsed_after ns es) x i h in
    let in_j = in_box-cons (sliced_length n s) (collapsed_after ns es) y j k in
    both x y i j
    (sliced_coordinate n s x y fit.0 in_i.0 in_j.0 (first_same (sliced_from n s x) (sliced_from n s y) (collapsed_before ns es i) (collapsed_before ns es j) same))
    (collapsed_lists_once ns es fit.1 i j in_i.1 in_j.1 (others_same (sliced_from n s x) (sliced_from n s y) (collapsed_before ns es i) (collapsed_before ns es j) same))
collapsed_lists_once [] (Index c ∷ es) fits i j h k same = absurd cc
collapsed_lists_once (n ∷ ns) (Index c ∷ es) fits [] j h k same = absurd cc
collapsed_lists_once (n ∷ ns) (Index c ∷ es) fits (x ∷ i) [] h k same = absurd cc
collapsed_lists_once (n ∷ ns) (Index c ∷ es) fits (x ∷ i) (y ∷ j) h k same =
    let fit = and_parts (is_some (coordinate_on n c)) (each_fits ns es) fits in
    let there = unwrap_or (coordinate_on n c) 0 in
    let in_i = in_box-cons 1 (collapsed_after ns es) x i h in
    let in_j = in_box-cons 1 (collapsed_after ns es) y j k in
    both x y i j (only_one x y 1 (omega arith) in_i.0 in_j.0) (collapsed_lists_once ns es fit.1 i j in_i.1 in_j.1 (others_same there there (collapsed_before ns es i) (collapsed_before ns es j) same))
collapsed_lists_once [] (NewAxis ∷ es) fits i j h k same = collapsed_lists_once [] es fits i j h k same
collapsed_lists_once (n ∷ ns) (NewAxis ∷ es) fits i j h k same = collapsed_lists_once (n ∷ ns) es fits i j h k same

pub each_slices_once : EachSlicesNameOnce
each_slices_once ns [] fits i j h k same = same
each_slices_once [] (s ∷ ss) fits i j h k same = absurd cc
each_slices_once (n ∷ ns) (s ∷ ss) fits [] j h k same = absurd cc
each_slices_once (n ∷ ns) (s ∷ ss) fits (x ∷ i) [] h k same = absurd cc
each_slices_once (n ∷ ns) (s ∷ ss) fits (x ∷ i) (y ∷ j) h k same =
    let fit = and_parts (fits_axis n s) (each_slice_fits ns ss) fits in
    let in_i = in_box-cons (sliced_length n s) (each_sliced_shape ns ss) x i h in
    let in_j = in_box-cons (sliced_length n s) (each_sliced_shape ns ss) y j k in
    both x y i j
    (sliced_coordinate n s x y fit.0 in_i.0 in_j.0 (first_same (sliced_from n s x) (sliced_from n s y) (each_sliced_index ns ss i) (each_sliced_index ns ss j) same))
    (each_slices_once ns ss fit.1 i j in_i.1 in_j.1 (others_same (sliced_from n s x) (sliced_from n s y) (each_sliced_index ns ss i) (each_sliced_index ns ss j) same))

-- ---- axes in another order, and one turned round
pub permutations_once : PermutationsNameOnce
permutations_once ns axes each i j h k same =
    let long = length-permuted axes ns ∙ each.0 in
    sym (permuted-unpermuted axes i (length ns) each (length-in_box (permuted_list axes ns) i h ∙ long))
    ∙ ap (permuted_list axes) same
    ∙ permuted-unpermuted axes j (length ns) each (length-in_box (permuted_list axes ns) j k ∙ long)

pub reversals_once : ReversalsNameOnce
reversals_once ns i j h k same = sym (reverse-reverse i) ∙ ap reverse same ∙ reverse-reverse j

pub exchanges_once : ExchangesNameOnce
exchanges_once ns a b on_a on_b i j h k same =
    let long = length-swap ns a b in
    let long_i = length-in_box (swap ns a b) i h in
    let long_j = length-in_box (swap ns a b) j k in
    sym (swap_back i a b (omega (arith, on_a, long, long_i)) (omega (arith, on_b, long, long_i)))
    ∙ ap (λ l. swap l a b) same
    ∙ swap_back j a b (omega (arith, on_a, long, long_j)) (omega (arith, on_b, long, long_j))

pub inversions_once : InversionsNameOnce
inversions_once ns a on i j h k same =
    let n = get_or ns a 0 in
    let below_i = coordinate_below ns i a h on in
    let below_j = coordinate_below ns j a k on in
    changed_once i j a (n - 1 - get_or i a 0) (n - 1 - get_or j a 0) (omega (arith, on, length-in_box ns i h)) (omega (arith, on, length-in_box ns j k)) same
    (λ e. omega (arith, e, below_i, below_j))

-- ---- one coordinate, and the coordinates below one and from it on
pub collapses_once : CollapsesNameOnce
collapses_once ns a c on i j h k same =
    changed_once i j a c c (on_axis ns i a 1 on h) (on_axis ns j a 1 on k) same
    (λ e. only_one (get_or i a 0) (get_or j a 0) 1 (omega arith) (coordinate_at ns i a 1 on h) (coordinate_at ns j a 1 on k))

pub coordinates_once : CoordinatesNameOnce
coordinates_once ns a c on i j h k same =
    let long = length-remove ns a on in
    sym (remove-inserted i a c (omega (arith, on, long, length-in_box (remove ns a) i h)))
    ∙ ap (λ l. remove l a) same
    ∙ remove-inserted j a c (omega (arith, on, long, length-in_box (remove ns a) j k))

pub lower_parts_once : LowerPartsNameOnce
lower_parts_once ns a c i j h k same = same

pub upper_parts_once : UpperPartsNameOnce
upper_parts_once ns a c on i j h k same =
    let m = get_or ns a 0 - c in
    changed_once i j a (get_or i a 0 + c) (get_or j a 0 + c) (on_axis ns i a m on h) (on_axis ns j a m on k) same (λ e. omega (arith, e))

-- ---- an axis put in
pub insertions_once : InsertionsNameOnce
insertions_once ns a on i j h k same =
    let long = length-insert ns a 1 on in
    let on_i : a < length i = omega (arith, on, long, length-in_box (insert ns a 1) i h) in
    let on_j : a < length j = omega (arith, on, long, length-in_box (insert ns a 1) j k) in
    let one = get_or-insert_at ns a 1 0 on in
    let below_i = coordinate_below (insert ns a 1) i a h (omega (arith, on, long)) in
    let below_j = coordinate_below (insert ns a 1) j a k (omega (arith, on, long)) in
    let at : get_or i a 0 ≡ get_or j a 0 = only_one (get_or i a 0) (get_or j a 0) (get_or (insert ns a 1) a 0) (omega (arith, one)) below_i below_j in
    sym (insert-removed i a 0 on_i) ∙ ap (λ l. insert l a (get_or i a 0)) same ∙ ap (insert (remove j a) a) at ∙ insert-removed j a 0 on_j

-- ---- axes of length 1 taken out
kept_once : (bs : List Bool) (ns i j : List ℕ) → length bs ≡ length ns → in_box (kept_of bs ns) i ≡ true → in_box (kept_of bs ns) j ≡ true → spread_over bs i ≡ spread_over bs j → i ≡ j
kept_once [] ns i j e h k same = no_axes i h ∙ sym (no_axes j k)
kept_once (b ∷ bs) [] i j e h k same = absurd (omega (arith, e))
kept_once (true ∷ bs) (n ∷ ns) [] j e h k same = absurd cc
kept_once (true ∷ bs) (n ∷ ns) (x ∷ i) [] e h k same = absurd cc
kept_once (true ∷ bs) (n ∷ ns) (x ∷ i) (y ∷ j) e h k same =
    let in_i = in_box-cons n (kept_of bs ns) x i h in
    let in_j = in_box-cons n (kept_of bs ns) y j k in
    both x y i j (first_same x y (spread_over bs i) (spread_over bs j) same)
    (kept_once bs ns i j (omega (arith, e)) in_i.1 in_j.1 (others_same x y (spread_over bs i) (spread_over bs j) same))
kept_once (false ∷ bs) (n ∷ ns) i j e h k same = kept_once bs ns i j (omega (arith, e)) h k (others_same 0 0 (spread_over bs i) (spread_over bs j) same)

pub squeezes_once : SqueezesNameOnce
squeezes_once ns i j h k same = kept_once (stays ns) ns i j (length-stays ns) h k same

-- ---- the diagonal
one_axis : (m : ℕ) (i : List ℕ) → in_box (m ∷ []) i ≡ true → (x : ℕ) × (x < m) × (i ≡ x ∷ [])
one_axis m [] h = absurd cc
one_axis m (x ∷ i) h = let there = in_box-cons m [] x i h in (x, there.0, ap (λ l. x ∷ l) (no_axes i there.1))

pub diagonals_once : DiagonalsNameOnce
diagonals_once ns i j h k same =
    let at_i = one_axis (diagonal_length ns) i h in
    let at_j = one_axis (diagonal_length ns) j k in
    at_i.2 ∙ ap (λ x. x ∷ []) (by_axes ns at_i.0 at_j.0 at_i.1 at_j.1 (sym (ap (λ l. replicate (length ns) (get_or l 0 0)) at_i.2) ∙ same ∙ ap (λ l. replicate (length ns) (get_or l 0 0)) at_j.2)) ∙ sym at_j.2
  where
    by_axes : (ns : List ℕ) (x y : ℕ) → x < diagonal_length ns → y < diagonal_length ns → replicate (length ns) x ≡ replicate (length ns) y → x ≡ y
    by_axes [] x y h k same = only_one x y 1 (omega arith) h k
    by_axes (n ∷ ns) x y h k same =
        sym (get_or-replicate (length (n ∷ ns)) 0 x 0 (omega arith)) ∙ ap (λ l. get_or l 0 0) same ∙ get_or-replicate (length (n ∷ ns)) 0 y 0 (omega arith)

-- ---- a reshape
pub reshapes_once : ReshapesNameOnce
reshapes_once order ns ms sizes i j h k same =
    let below : (l : List ℕ) → in_box ms l ≡ true → rank_in order ms l < size_of ns = λ l there. (let under = rank_in-below order ms l there in omega (arith, under, sizes)) in
    let ranks = sym (rank_of_index_in order ns (rank_in order ms i) (below i h)) ∙ ap (rank_in order ns) same ∙ rank_of_index_in order ns (rank_in order ms j) (below j k) in
    sym (index_of_rank_in order ms i h) ∙ ap (index_in order ms) ranks ∙ index_of_rank_in order ms j k

-- ---- a path
pub paths_once : PathsNameOnce
paths_once ns [] inside each i j h k same = same
paths_once ns (p ∷ ps) inside each i j h k same =
    paths_once p.new_shape ps inside.1 each.1 i j h k
    (each.0 (path_source ps i) (path_source ps j) (path_inside p.new_shape ps i inside.1 h) (path_inside p.new_shape ps j inside.1 k) same)

-- ---- two axes merged: t times a length, and a coordinate, are told from one another
module _ (ns : List ℕ) (a b : ℕ) (on_a : a < length ns) (on_b : b < length ns) where
  long_merged : length (merged_shape ns a b) ≡ length ns
  long_merged = length-set (set ns b (get_or ns b 0 * get_or ns a 0)) a (min 1 (get_or ns b 0 * get_or ns a 0)) ∙ length-set ns b (get_or ns b 0 * get_or ns a 0)

  module _ (i : List ℕ) (h : in_box (merged_shape ns a b) i ≡ true) where
    long_index : length i ≡ length ns
    long_index = length-in_box (merged_shape ns a b) i h ∙ long_merged

    taken_is_short : get_or i a 0 < 1
    taken_is_short =
        let p = get_or ns b 0 * get_or ns a 0 in
        let wide : a < length (set ns b p) = let long = length-set ns b p in omega (arith, on_a, long) in
        let below = coordinate_below (merged_shape ns a b) i a h (let long = long_merged in omega (arith, on_a, long)) in
        let there = get_or-set_same (set ns b p) a (min 1 p) 0 wide in
        omega (arith, below, there)

    rest_of : get_or (merged_index ns a b i) b 0 ≡ get_or i b 0 % get_or ns b 0
    rest_of = get_or-set_same (set i a (get_or i b 0 / get_or ns b 0)) b (get_or i b 0 % get_or ns b 0) 0
        (let long = length-set i a (get_or i b 0 / get_or ns b 0) in let as_long = long_index in omega (arith, on_b, long, as_long))

    quotient_of_it : (a ≡ b → ⊥) → get_or (merged_index ns a b i) a 0 ≡ get_or i b 0 / get_or ns b 0
    quotient_of_it other =
        get_or-set_other (set i a (get_or i b 0 / get_or ns b 0)) b a (get_or i b 0 % get_or ns b 0) 0 other
        ∙ get_or-set_same i a (get_or i b 0 / get_or ns b 0) 0 (let as_long = long_index in omega (arith, on_a, as_long))

    elsewhere : (k : ℕ) → (k ≡ a → ⊥) → (k ≡ b → ⊥) → get_or (merged_index ns a b i) k 0 ≡ get_or i k 0
    elsewhere k not_a not_b =
        get_or-set_other (set i a (get_or i b 0 / get_or ns b 0)) b k (get_or i b 0 % get_or ns b 0) 0 not_b
        ∙ get_or-set_other i a k (get_or i b 0 / get_or ns b 0) 0 not_a

  merged_once : NamesOnce (merged_shape ns a b) (merged_index ns a b)
  merged_once i j h k same =
      ext_get_or 0 i j (long_index i h ∙ sym (long_index j k)) (λ c below.
      ⊎_elim
      (λ (is : c ≡ a). subst (λ d. get_or i d 0 ≡ get_or j d 0) (sym is) at_a)
      (λ (not_a : c ≡ a → ⊥).
      ⊎_elim
      (λ (is : c ≡ b). subst (λ d. get_or i d 0 ≡ get_or j d 0) (sym is) (at_b (λ e. not_a (is ∙ sym e))))
      (λ (not_b : c ≡ b → ⊥). sym (elsewhere i h c not_a not_b) ∙ ap (λ l. get_or l c 0) same ∙ elsewhere j k c not_a not_b)
      (cases_eq c b))
      (cases_eq c a))
    where
      at_a : get_or i a 0 ≡ get_or j a 0
      at_a = only_one (get_or i a 0) (get_or j a 0) 1 (omega arith) (taken_is_short i h) (taken_is_short j k)

      at_b : (a ≡ b → ⊥) → get_or i b 0 ≡ get_or j b 0
      at_b other =
          let n = get_or ns b 0 in
          let q : get_or i b 0 / n ≡ get_or j b 0 / n = sym (quotient_of_it i h other) ∙ ap (λ l. get_or l a 0) same ∙ quotient_of_it j k other in
          let r : get_or i b 0 % n ≡ get_or j b 0 % n = sym (rest_of i h) ∙ ap (λ l. get_or l b 0) same ∙ rest_of j k in
          sym (div-add-mod' (get_or i b 0) n) ∙ ap (λ d. d * n + get_or i b 0 % n) q ∙ ap (λ m. get_or j b 0 / n * n + m) r ∙ div-add-mod' (get_or j b 0) n

pub merges_once : MergesNameOnce
merges_once ns a b on_a on_b = merged_once ns a b on_a on_b
