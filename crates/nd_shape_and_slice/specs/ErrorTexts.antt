-- The texts of errors: those of ndarray's `ShapeError`, and one for refused memory.
use Rattle.std.specs.Prelude.{ℕ, List, codes}
use Rattle.nd_shape_and_slice.specs.declared.errors.ErrorKind.{ErrorKind}
use Rattle.nd_shape_and_slice.specs.declared.errors.ErrorKind.TheVariants.{IncompatibleShape, IncompatibleLayout, RangeLimited, OutOfBounds, Unsupported, Overflow}

-- Returns the text of a `ShapeError` of this kind.
abbrev pub shape_error_text : ErrorKind → List ℕ
shape_error_text IncompatibleShape = codes "ShapeError/IncompatibleShape: incompatible shapes"
shape_error_text IncompatibleLayout = codes "ShapeError/IncompatibleLayout: incompatible memory layout"
shape_error_text RangeLimited = codes "ShapeError/RangeLimited: the shape does not fit in type limits"
shape_error_text OutOfBounds = codes "ShapeError/OutOfBounds: out of bounds indexing"
shape_error_text Unsupported = codes "ShapeError/Unsupported: unsupported operation"
shape_error_text Overflow = codes "ShapeError/Overflow: arithmetic overflow"

-- The text of the error for refused memory.
abbrev pub no_memory_text : List ℕ
no_memory_text = codes "out of memory"
