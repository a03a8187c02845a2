-- Lists in parts, and the rank of an index by the axes before one, that one, and those after it.
use Rattle.std.proofs.Common.{◌≡◌, ℕ, zero, suc, ◌+◌, ◌*◌, ◌<◌, ◌≤◌, List, [], ◌∷◌, length, set, take, drop, Some, refl, ap, sym, ◌∙◌, arith}
use Rattle.std.specs.Prelude.{slice_get}
use Rattle.std.proofs.Math.Nat.{mul_assoc, add-mul}
use Rattle.std.proofs.lemmas.Option.{slice_get_within}
use Rattle.nd_shape_and_slice.specs.ShapesAndIndexOrders.{row_rank, size_of}

module _ {A : Type 0} where
  -- ---- what holds of the items below a number
  abbrev pub AllBelow : (A → Type 0) → List A → ℕ → Type 0
  AllBelow P xs n = (k : ℕ) (x : A) → k < n → slice_get xs k ≡ Some x → P x

  pub all_below : (P : A → Type 0) (xs : List A) (n : ℕ) → length xs ≤ n → AllBelow P xs n → (k : ℕ) (x : A) → slice_get xs k ≡ Some x → P x
  all_below P xs n past below k x at = let within = slice_get_within xs k x at in below k x (omega (arith, within, past)) at

pub dropped_once : {A : Type 0} (n : ℕ) (xs : List A) → drop 1 (drop n xs) ≡ drop (suc n) xs
dropped_once zero [] = refl
dropped_once zero (x ∷ xs) = refl
dropped_once (suc n) [] = refl
dropped_once (suc n) (x ∷ xs) = dropped_once n xs

-- ---- sizes and ranks by parts of a shape
pub size_with : (ns : List ℕ) (a n : ℕ) → a < length ns → size_of (set ns a n) ≡ size_of (take a ns) * (n * size_of (drop (suc a) ns))
size_with [] a n on = absurd (omega (arith, on))
size_with (m ∷ ns) zero n on = omega arith
size_with (m ∷ ns) (suc a) n on = ap (λ s. m * s) (size_with ns a n (omega (arith, on))) ∙ sym (mul_assoc m (size_of (take a ns)) (n * size_of (drop (suc a) ns)))

pub rank_with : (ns i : List ℕ) (a n c : ℕ) → a < length ns → length i ≡ length ns
    → row_rank (set ns a n) (set i a c) ≡ row_rank (take a ns) (take a i) * (n * size_of (drop (suc a) ns)) + (c * size_of (drop (suc a) ns) + row_rank (drop (suc a) ns) (drop (suc a) i))
rank_with [] i a n c on many = absurd (omega (arith, on))
rank_with (m ∷ ns) [] a n c on many = absurd (omega (arith, many))
rank_with (m ∷ ns) (k ∷ i) zero n c on many = omega arith
rank_with (m ∷ ns) (k ∷ i) (suc a) n c on many =
    let w = n * size_of (drop (suc a) ns) in
    let o = size_of (take a ns) in
    let p = row_rank (take a ns) (take a i) in
    let rest = rank_with ns i a n c (omega (arith, on)) (omega (arith, many)) in
    let size = size_with ns a n (omega (arith, on)) in
    let apart : (k * o + p) * w ≡ k * (o * w) + p * w = add-mul (k * o) p w ∙ ap (λ z. z + p * w) (mul_assoc k o w) in
    ap (λ s. k * s + row_rank (set ns a n) (set i a c)) size ∙ omega (arith, rest, apart)
