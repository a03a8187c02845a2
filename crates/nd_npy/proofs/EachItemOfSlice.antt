-- What holds of each item of a slice, one item after another.
use Rattle.std.proofs.Common.{◌≡◌, ◌<◌, ◌≤◌, ◌+◌, ℕ, zero, suc, List, [], ◌∷◌, length, take, take_all, slice_index_or, All, subst, arith}

module _ {X : Type 0} (P : X → Type 0) where
  one_more : (y : X) (ys : List X) → P y → All P ys → All P (y ∷ ys)
  one_more y ys one others zero d h = one
  one_more y ys one others (suc k) d h = others k d (omega (arith, h))

  of_first : (y : X) (ys : List X) → All P (y ∷ ys) → P y
  of_first y ys all = all 0 y (omega arith)

  of_rest : (y : X) (ys : List X) → All P (y ∷ ys) → All P ys
  of_rest y ys all k d h = all (suc k) d (omega (arith, h))

  next_more : (xs : List X) (i : ℕ) (x : X) → i < length xs → x ≡ slice_index_or xs i x → P x → All P (take i xs) → All P (take (suc i) xs)
  next_more [] i x below is holds all = absurd (omega (arith, below))
  next_more (y ∷ ys) zero x below is holds all = one_more y [] (subst P is holds) (λ k d h. absurd (omega (arith, h)))
  next_more (y ∷ ys) (suc i) x below is holds all = one_more y (take (suc i) ys) (of_first y (take i ys) all) (next_more ys i x (omega (arith, below)) is holds (of_rest y (take i ys) all))

  -- it holds of one item more
  pub each_more : (xs : List X) (i : ℕ) (x : X) → i < length xs → x ≡ slice_index_or xs i x → P x → All P (take i xs) → All P (take (i + 1) xs)
  each_more xs i x below is holds all = subst (λ n. All P (take n xs)) next (next_more xs i x below is holds all)
    where
      next : suc i ≡ i + 1
      next = omega arith

  -- it holds of all
  pub each_of_all : (xs : List X) (i : ℕ) → length xs ≤ i → All P (take i xs) → All P xs
  each_of_all xs i end all = subst (All P) (take_all i xs end) all
