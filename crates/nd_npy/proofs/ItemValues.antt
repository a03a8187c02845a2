-- The values of items, one taken from the front after another.
use Rattle.std.proofs.Common.{◌≡◌, ◌∙◌, ◌<◌, ◌+◌, ◌-◌, ◌*◌, ◌/◌, ℕ, zero, suc, List, [], ◌∷◌, ◌++◌, length, take, drop, slice_get, refl, sym, ap, arith}
use Rattle.std.specs.Prelude.{Some}
use Rattle.std.proofs.lemmas.List.{drop-drop, length-drop}
use Rattle.std.proofs.Math.Nat.{mul-div_cancel}
use Rattle.std.specs.Simd.{first_chunks}
use Rattle.nd_npy.specs.ItemBytes.{item_at, values_in}

module _ {A : Type 0} (value : List ℕ → A) (size : ℕ) where
  after : (xs : List A) (y : A) (ys : List A) → (xs ++ y ∷ []) ++ ys ≡ xs ++ y ∷ ys
  after [] y ys = refl
  after (x ∷ xs) y ys = ap (λ l. x ∷ l) (after xs y ys)

  all : (xs : List A) → xs ++ [] ≡ xs
  all [] = refl
  all (x ∷ xs) = ap (λ l. x ∷ l) (all xs)

  -- no item is left
  pub values_all : (left : ℕ) (rest : List ℕ) (xs whole : List A) → left ≡ 0 → xs ++ values_in value size left rest ≡ whole → xs ≡ whole
  values_all zero rest xs whole none is = sym (all xs) ∙ is
  values_all (suc n) rest xs whole none is = absurd (omega (arith, none))

  -- the bytes of one item less
  pub left_over : (left : ℕ) (rest : List ℕ) → 0 < left → length rest ≡ left * size → length (drop size rest) ≡ (left - 1) * size
  left_over zero rest some is = absurd (omega (arith, some))
  left_over (suc n) rest some is =
      let less : suc n - 1 ≡ n = omega arith in
      let product : suc n * size ≡ size + n * size = grind arith in
      length-drop size rest ∙ rw less (omega (arith, is, product))

  -- one item more
  pub values_more : (left : ℕ) (rest : List ℕ) (xs whole : List A) → 0 < left → xs ++ values_in value size left rest ≡ whole → (xs ++ value (take size rest) ∷ []) ++ values_in value size (left - 1) (drop size rest) ≡ whole
  values_more zero rest xs whole some is = absurd (omega (arith, some))
  values_more (suc n) rest xs whole some is =
      let less : suc n - 1 ≡ n = omega arith in
      ap (λ k. (xs ++ value (take size rest) ∷ []) ++ values_in value size k (drop size rest)) less ∙ after xs (value (take size rest)) (values_in value size n (drop size rest)) ∙ is

  pub values_count : (count : ℕ) (bytes : List ℕ) → length (values_in value size count bytes) ≡ count
  values_count zero bytes = refl
  values_count (suc n) bytes = ap suc (values_count n (drop size bytes))

  -- the value of number k is that of the item of number k
  pub value_at : (count : ℕ) (bytes : List ℕ) (k : ℕ) → k < count → slice_get (values_in value size count bytes) k ≡ Some (value (item_at size bytes k))
  value_at zero bytes k below = absurd (omega (arith, below))
  value_at (suc n) bytes zero below =
      let none : 0 * size ≡ 0 = omega arith in
      ap (λ k. Some (value (take size (drop k bytes)))) (sym none)
  value_at (suc n) bytes (suc k) below =
      let sum : size + k * size ≡ suc k * size = grind arith in
      let further : drop (k * size) (drop size bytes) ≡ drop (suc k * size) bytes = drop-drop (k * size) size bytes ∙ ap (λ m. drop m bytes) sum in
      value_at n (drop size bytes) k (omega (arith, below)) ∙ ap (λ l. Some (value (take size l))) further

-- the chunks of a list are the values of its items, each its bytes
pub chunks_are : (n count : ℕ) (bytes : List ℕ) → first_chunks n count bytes ≡ values_in (λ item. item) n count bytes
chunks_are n zero bytes = refl
chunks_are n (suc count) bytes = ap (λ l. take n bytes ∷ l) (chunks_are n count (drop n bytes))

-- so many chunks are all
pub chunks_counted : (n count all : ℕ) → 0 < n → all ≡ count * n → all / n ≡ count
chunks_counted n count all some is = ap (λ k. k / n) is ∙ mul-div_cancel count some
