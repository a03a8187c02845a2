-- Laws of products of matrices of 64-bit numbers whose sums and products wrap.
use Rattle.std.specs.Prelude.{◌≡◌, ◌<◌, ℕ, ℤ, pos, nat_eq, [], ◌∷◌, Option, Some, slice_index, FitsSigned, if◌then◌else◌}
use Rattle.std.specs.Int.{w64, int_wrapping_add, int_wrapping_mul}
use Rattle.nd_array_core.specs.ArrayMeaning.{Meaning}
use Rattle.nd_linalg.specs.DotAndMatrixProducts.{row_by_column}

-- Returns the wrapping sum of the products of row `i` of one matrix with column `j` of another.
abbrev pub wrapped_sum : Meaning ℤ → Meaning ℤ → ℕ → ℕ → Option ℤ
wrapped_sum = row_by_column (int_wrapping_add w64) (int_wrapping_mul w64) (pos 0)

-- Says that `turned` has at row `j` and column `i` what `m` has at row `i` and column `j`.
abbrev pub IsTurned : Meaning ℤ → Meaning ℤ → Type 0
IsTurned m turned = (i j : ℕ) → turned.at (j ∷ i ∷ []) ≡ m.at (i ∷ j ∷ [])

-- Says that the product of two transposed matrices in the opposite order is the transpose of their product.
abbrev pub TurnsProducts : Type 0
TurnsProducts = (m n m' n' : Meaning ℤ) → IsTurned m m' → IsTurned n n' → slice_index n'.shape 1 ≡ slice_index m.shape 1 → (i j : ℕ) → wrapped_sum n' m' j i ≡ wrapped_sum m n i j

-- Says that `m` has `n` columns, and in its first `n` rows 1 on the diagonal and 0 elsewhere.
abbrev pub IsIdentity : ℕ → Meaning ℤ → Type 0
IsIdentity n m = (slice_index m.shape 1 ≡ n) × ((i j : ℕ) → i < n → j < n → m.at (i ∷ j ∷ []) ≡ Some (if nat_eq i j then pos 1 else pos 0))

-- Says that each element of the matrix is there, and is a signed number of 64 bits.
abbrev pub HoldsNumbers : Meaning ℤ → Type 0
HoldsNumbers m = (i j : ℕ) → i < slice_index m.shape 0 → j < slice_index m.shape 1 → (x : ℤ) × (m.at (i ∷ j ∷ []) ≡ Some x) × FitsSigned w64 x

-- Says that the product of the identity with a matrix `m` of 64-bit numbers is `m`.
abbrev pub KeepsMatrices : Type 0
KeepsMatrices = (e m : Meaning ℤ) → IsIdentity (slice_index m.shape 0) e → HoldsNumbers m → (i j : ℕ) → i < slice_index m.shape 0 → j < slice_index m.shape 1 → wrapped_sum e m i j ≡ m.at (i ∷ j ∷ [])
