-- A list that is filled, place by place, with what another holds.
use Rattle.nd_shape_and_slice.proofs.NamesFromOtherCrates.{◌≡◌, ◌≢◌, ℕ, ◌+◌, ◌<◌, ◌≤◌, List, length, get_or, set, ◌∙◌, arith, below_more, ext_get_or, length-set, get_or-set_same, get_or-set_other}

-- the places below k hold what they shall hold, and the list is as long as it shall be
pub record IsFilledBelow {A : Type 0} (d : A) (xs out : List A) (k : ℕ) : Type 0 where
  pub as_many : length out ≡ length xs
  pub below : (j : ℕ) → j < k → get_or out j d ≡ get_or xs j d

pub filled_none : {A : Type 0} (d : A) (xs out : List A) → length out ≡ length xs → IsFilledBelow d xs out 0
filled_none d xs out e = record { as_many = e; below = λ j h. absurd (omega arith) }

pub filled_more : {A : Type 0} (d : A) (xs out : List A) (k : ℕ) (x : A) → k < length xs → x ≡ get_or xs k d → IsFilledBelow d xs out k → IsFilledBelow d xs (set out k x) (k + 1)
filled_more d xs out k x h is so_far =
    let within : k < length out = omega (arith, so_far.as_many) in
    record {
      as_many = length-set out k x ∙ so_far.as_many;
      below = below_more _ k
          (λ j lt. let other : j ≢ k = omega arith in get_or-set_other out k j x d other ∙ so_far.below j lt)
          (get_or-set_same out k x d within ∙ is);
    }

pub filled_all : {A : Type 0} (d : A) (xs out : List A) (k : ℕ) → length xs ≤ k → IsFilledBelow d xs out k → out ≡ xs
filled_all d xs out k all so_far =
    ext_get_or d out xs so_far.as_many (λ i h. so_far.below i (omega (arith, so_far.as_many, all)))
