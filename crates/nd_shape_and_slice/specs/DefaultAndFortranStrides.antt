-- The strides that a constructor gives.
use Rattle.std.specs.Prelude.{ℕ, ◌*◌, nat_eq, List, [], ◌∷◌, length, replicate, ℤ, pos, if◌then◌else◌}
use Rattle.nd_shape_and_slice.specs.ShapesAndIndexOrders.{size_of}

-- Returns the row-major strides without regard to lengths of 0: each axis has the product of the later lengths.
abbrev pub row_strides : List ℕ → List ℤ
row_strides [] = []
row_strides (n ∷ ns) = pos (size_of ns) ∷ row_strides ns

-- Returns the row-major (C) strides: each axis has the product of the later lengths, and all are 0 where some length
-- is 0.
abbrev pub c_strides : List ℕ → List ℤ
c_strides ns = if nat_eq (size_of ns) 0 then replicate (length ns) (pos 0) else row_strides ns

-- Returns strides of which each is `p` times the product of the earlier lengths.
abbrev pub column_strides_from : ℕ → List ℕ → List ℤ
column_strides_from p [] = []
column_strides_from p (n ∷ ns) = pos p ∷ column_strides_from (p * n) ns

-- Returns the column-major (F) strides: each axis has the product of the earlier lengths, and all are 0 where some
-- length is 0.
abbrev pub f_strides : List ℕ → List ℤ
f_strides ns = if nat_eq (size_of ns) 0 then replicate (length ns) (pos 0) else column_strides_from 1 ns
