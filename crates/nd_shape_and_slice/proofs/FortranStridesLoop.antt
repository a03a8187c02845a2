-- The F strides written one axis at a time, from the first axis on.
use Rattle.nd_shape_and_slice.proofs.NamesFromOtherCrates.{false, true, ◌≡◌, ℕ, zero, suc, ◌+◌, ◌*◌, ◌<◌, ◌≤◌, List, [], ◌∷◌, ◌++◌, length, take, drop, get_or, set, drop-cons, add-one, ℤ, pos, refl, ap, sym, ◌∙◌, subst, arith, append_assoc, mul-le-mul_left, mul_assoc, false≢true, take_more_set, length-set, take_all, append-nil, drop_all}
use Rattle.nd_shape_and_slice.specs.ShapesAndIndexOrders.{size_of, nonzero_product, HasCheckedSize}
use Rattle.nd_shape_and_slice.specs.DefaultAndFortranStrides.{column_strides_from}
use Rattle.nd_shape_and_slice.proofs.NonzeroProducts.{size_of-drop}
use Rattle.nd_shape_and_slice.proofs.RowMajor.{nonzero_product-size_of}
use Rattle.nd_shape_and_slice.proofs.RowMajorIndexList.{positive_at}

-- the axes before this one have their strides, and the step is the product of their lengths
pub record IsFilledTo (axis step : ℕ) (lengths : List ℕ) (strides : List ℤ) : Type 0 where
  pub as_many : length strides ≡ length lengths
  pub step_is : step * size_of (drop axis lengths) ≡ size_of lengths
  pub filled : column_strides_from 1 lengths ≡ take axis strides ++ column_strides_from step (drop axis lengths)

pub filled_none : (ns : List ℕ) (ss : List ℤ) → length ss ≡ length ns → IsFilledTo 0 1 ns ss
filled_none ns ss e = record {
  as_many = e;
  step_is = once;
  filled = refl;
}
  where
    once : 1 * size_of ns ≡ size_of ns
    once = omega arith

-- the length of an axis is a factor of what is left
module _ (ns : List ℕ) (ss : List ℤ) (axis step : ℕ) (so_far : IsFilledTo axis step ns ss) (on : axis < length ns) (some : 0 < size_of ns) where
  rest_positive : 0 < size_of (drop (axis + 1) ns)
  rest_positive = (positive_at ns axis on some).1

  pub grown : step * get_or ns axis 0 * size_of (drop (axis + 1) ns) ≡ size_of ns
  grown = mul_assoc step (get_or ns axis 0) (size_of (drop (axis + 1) ns)) ∙ (ap (λ x. step * x) (sym (size_of-drop ns axis on)) ∙ so_far.step_is)

  pub grown-le : step * get_or ns axis 0 ≤ size_of ns
  grown-le =
      let all = grown in
      let least : step * get_or ns axis 0 * 1 ≤ step * get_or ns axis 0 * size_of (drop (axis + 1) ns) = mul-le-mul_left (step * get_or ns axis 0) rest_positive in
      omega (arith, all, least)

  pub step-le : step ≤ size_of ns
  step-le =
      let all = grown-le in
      let least : step * 1 ≤ step * get_or ns axis 0 = mul-le-mul_left step (positive_at ns axis on some).0 in
      omega (arith, all, least)

  pub filled_more : IsFilledTo (axis + 1) (step * get_or ns axis 0) ns (set ss axis (pos step))
  filled_more = record {
    as_many = length-set ss axis (pos step) ∙ so_far.as_many;
    step_is = grown;
    filled =
        let within : axis < length ss = subst (λ n. axis < n) (sym so_far.as_many) on in
        let here : drop axis ns ≡ get_or ns axis 0 ∷ drop (axis + 1) ns = rw add-one (drop-cons ns axis 0 on) in
        let put = take_more_set ss axis (pos step) within in
        (so_far.filled ∙ ap (λ l. take axis ss ++ column_strides_from step l) here)
        ∙ (sym (append_assoc (take axis ss) (pos step ∷ []) (column_strides_from (step * get_or ns axis 0) (drop (axis + 1) ns))) ∙ ap (λ l. l ++ column_strides_from (step * get_or ns axis 0) (drop (axis + 1) ns)) (sym put));
  }

pub filled_all : (ns : List ℕ) (ss : List ℤ) (axis step : ℕ) → length ns ≤ axis → IsFilledTo axis step ns ss → ss ≡ column_strides_from 1 ns
filled_all ns ss axis step h so_far =
    let none = drop_all axis ns h in
    let whole : take axis ss ≡ ss = take_all axis ss (omega (arith, so_far.as_many)) in
    sym ((so_far.filled ∙ ap (λ l. take axis ss ++ column_strides_from step l) none) ∙ (append-nil (take axis ss) ∙ whole))

-- where there are elements and the checked size exists, it fits
pub full_fits : (ns : List ℕ) → (size_of ns ≡ 0 → false ≡ true) → HasCheckedSize ns → (0 < size_of ns) × (size_of ns < 9223372036854775808)
full_fits ns full checked =
    let some : 0 < size_of ns = above (size_of ns) full in
    let same = nonzero_product-size_of ns some in
    let limit : nonzero_product ns < 9223372036854775808 = checked in
    (some, omega (arith, same, limit))
  where
    above : (n : ℕ) → (n ≡ 0 → false ≡ true) → 0 < n
    above zero h = absurd (false≢true (h refl))
    above (suc n) h = omega arith
