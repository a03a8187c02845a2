-- The texts that errors of arrays write.
use Rattle.std.specs.Prelude.{ℕ, List}
use Rattle.nd_shape_and_slice.specs.ErrorTexts.{shape_error_text, no_memory_text}
use Rattle.nd_array_core.specs.declared.base.array_error.ArrayError.{ArrayError}
use Rattle.nd_array_core.specs.declared.base.array_error.ArrayError.TheVariants.{Shape, NoMemory}

-- Returns the text that a refused shape, or refused memory, writes.
abbrev pub array_error_text : ArrayError → List ℕ
array_error_text (Shape refused) = shape_error_text refused
array_error_text NoMemory = no_memory_text
