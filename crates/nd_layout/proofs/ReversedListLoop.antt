-- A list that is put in the opposite order by exchanges from both ends.
use Rattle.nd_layout.proofs.NamesFromOtherCrates.{◌≡◌, ℕ, ◌+◌, ◌-◌, ◌<◌, ◌≤◌, List, length, get_or, reverse, refl, ap, sym, ◌∙◌, ⊎_elim, arith, below_more, swap, cases_lt, ext_get_or, length-reverse, get_or-reverse, length-swap, swapped_from_swap}

-- the first k and the last k places hold what stood at the other end, and those between what they held
pub record IsTurnedTo {A : Type 0} (d : A) (xs out : List A) (k : ℕ) : Type 0 where
  pub as_many : length out ≡ length xs
  pub front : (j : ℕ) → j < k → get_or out j d ≡ get_or xs (length xs - 1 - j) d
  pub back : (j : ℕ) → j < k → get_or out (length xs - 1 - j) d ≡ get_or xs j d
  pub between : (j : ℕ) → k ≤ j → j + k < length xs → get_or out j d ≡ get_or xs j d

pub turned_none : {A : Type 0} (d : A) (xs : List A) → IsTurnedTo d xs xs 0
turned_none d xs = record { as_many = refl; front = λ j h. absurd (omega arith); back = λ j h. absurd (omega arith); between = λ j low high. refl }

pub turned_more : {A : Type 0} (d : A) (xs out : List A) (k end : ℕ) → k + k + 1 < length xs → end ≡ length xs - 1 - k → IsTurnedTo d xs out k → IsTurnedTo d xs (swap out k end) (k + 1)
turned_more d xs out k end far is_end so_far =
    let long = so_far.as_many in
    let moved = swapped_from_swap out (swap out k end) k end d (omega (arith, long, far)) (omega (arith, long, far, is_end)) refl in
    record {
      as_many = length-swap out k end ∙ long;
      front = below_more _ k
          (λ j lt. moved.2 j (λ same. absurd (omega (arith, same, lt))) (λ same. absurd (omega (arith, same, lt, is_end, far))) ∙ so_far.front j lt)
          (moved.0 ∙ so_far.between end (omega (arith, is_end, far)) (omega (arith, is_end, far)) ∙ ap (λ m. get_or xs m d) is_end);
      back = below_more _ k
          (λ j lt. moved.2 (length xs - 1 - j) (λ same. absurd (omega (arith, same, lt, far))) (λ same. absurd (omega (arith, same, lt, is_end, far))) ∙ so_far.back j lt)
          (ap (λ m. get_or (swap out k end) m d) (sym is_end) ∙ (moved.1 ∙ so_far.between k (omega arith) (omega (arith, far))));
      between = λ j low high. moved.2 j (λ same. absurd (omega (arith, same, low))) (λ same. absurd (omega (arith, same, high, is_end))) ∙ so_far.between j (omega (arith, low)) (omega (arith, high));
    }

pub turned_all : {A : Type 0} (d : A) (xs out : List A) (k : ℕ) → length xs ≤ k + k + 1 → IsTurnedTo d xs out k → out ≡ reverse xs
turned_all d xs out k done all =
    ext_get_or d out (reverse xs) (all.as_many ∙ sym (length-reverse xs))
    (λ i h. let on : i < length xs = omega (arith, h, all.as_many) in at i on ∙ sym (get_or-reverse xs i d on))
  where
    at : (i : ℕ) → i < length xs → get_or out i d ≡ get_or xs (length xs - 1 - i) d
    at i on =
        ⊎_elim
        (λ (low : i < k). all.front i low)
        (λ (high : k ≤ i).
        ⊎_elim
        (λ (mid : i + k < length xs). let same : i ≡ length xs - 1 - i = omega (arith, done, high, mid) in all.between i high mid ∙ ap (λ m. get_or xs m d) same)
        (λ (far : length xs ≤ i + k). let same : i ≡ length xs - 1 - (length xs - 1 - i) = omega (arith, on) in ap (λ m. get_or out m d) same ∙ all.back (length xs - 1 - i) (omega (arith, far, on)))
        (cases_lt (i + k) (length xs)))
        (cases_lt i k)
