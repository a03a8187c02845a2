-- A list that is filled, place by place, with what stands at each of some axes.
use Rattle.nd_shape_and_slice.proofs.NamesFromOtherCrates.{◌≡◌, ◌≢◌, ℕ, ◌+◌, ◌<◌, List, length, get_or, set, map, sym, ◌∙◌, arith, below_more, ext_get_or, length-map, get_or-map, length-set, get_or-set_same, get_or-set_other}

-- the places below k hold what stood at the axes, and the list is as long as that of the axes
pub record IsPermutedBelow {A : Type 0} (d : A) (axes : List ℕ) (xs out : List A) (k : ℕ) : Type 0 where
  pub as_many : length out ≡ length axes
  pub below : (j : ℕ) → j < k → get_or out j d ≡ get_or xs (get_or axes j 0) d

pub permuted_none : {A : Type 0} (d : A) (axes : List ℕ) (xs : List A) → length axes ≡ length xs → IsPermutedBelow d axes xs xs 0
permuted_none d axes xs e = record { as_many = sym e; below = λ j h. absurd (omega arith) }

pub permuted_more : {A : Type 0} (d : A) (axes : List ℕ) (xs out : List A) (k : ℕ) → k < length axes → IsPermutedBelow d axes xs out k → IsPermutedBelow d axes xs (set out k (get_or xs (get_or axes k 0) d)) (k + 1)
permuted_more d axes xs out k h so_far =
    let x = get_or xs (get_or axes k 0) d in
    let within : k < length out = omega (arith, so_far.as_many) in
    record {
      as_many = length-set out k x ∙ so_far.as_many;
      below = below_more _ k
          (λ j lt. let other : j ≢ k = omega arith in get_or-set_other out k j x d other ∙ so_far.below j lt)
          (get_or-set_same out k x d within);
    }

pub permuted_all : {A : Type 0} (d : A) (axes : List ℕ) (xs out : List A) → IsPermutedBelow d axes xs out (length axes) → out ≡ map (λ a. get_or xs a d) axes
permuted_all {A} d axes xs out all =
    let at : ℕ → A = λ (a : ℕ). get_or xs a d in
    ext_get_or d out (map at axes) (all.as_many ∙ sym (length-map axes at))
    (λ i h. all.below i (omega (arith, all.as_many)) ∙ sym (get_or-map at axes i 0 d (omega (arith, all.as_many))))
