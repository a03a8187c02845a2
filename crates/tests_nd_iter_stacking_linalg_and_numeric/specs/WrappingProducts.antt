-- Products of vectors and matrices of `i64`, in arithmetic that wraps.
use Rattle.std.specs.Prelude.{ℤ, Option, pos}
use Rattle.std.specs.Int.{w64, int_wrapping_add, int_wrapping_mul}
use Rattle.nd_array_core.specs.ArrayMeaning.{Meaning}
use Rattle.nd_linalg.specs.DotAndMatrixProducts.{vector_by_vector, IsImage, IsProduct}

-- Returns the sum of the products of two vectors.
abbrev pub wrapping_dot : Meaning ℤ → Meaning ℤ → Option ℤ
wrapping_dot m n = vector_by_vector (int_wrapping_add w64) (int_wrapping_mul w64) (pos 0) m n

-- Says that the vector `image` is the matrix `m` times the vector `n`.
abbrev pub IsWrappingImage : Meaning ℤ → Meaning ℤ → Meaning ℤ → Type 0
IsWrappingImage m n image = IsImage (int_wrapping_add w64) (int_wrapping_mul w64) (pos 0) m n image

-- Says that the matrix `product` is `m` times `n`.
abbrev pub IsWrappingProduct : Meaning ℤ → Meaning ℤ → Meaning ℤ → Type 0
IsWrappingProduct m n product = IsProduct (int_wrapping_add w64) (int_wrapping_mul w64) (pos 0) m n product
