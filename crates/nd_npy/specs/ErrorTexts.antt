-- The texts that errors write.
use Rattle.std.specs.Prelude.{ℕ, List, ◌++◌, codes}
use Rattle.std.specs.Fmt.{decimal}
use Rattle.nd_npy_text.specs.declared.item_type.Kind.{Kind}
use Rattle.nd_npy_text.specs.declared.item_type.Kind.TheVariants as kinds
use Rattle.nd_npy_text.specs.ErrorTexts.{header_error_text}
use Rattle.nd_npy.specs.declared.errors.ReadNpyError.{ReadNpyError}
use Rattle.nd_npy.specs.declared.errors.ReadNpyError.TheVariants.{Header, OtherKind, WrongSize, Memory}
use Rattle.nd_npy.specs.declared.errors.ReadNpyFromError.{ReadNpyFromError}
use Rattle.nd_npy.specs.declared.errors.ReadNpyFromError.TheVariants.{ReadFailed, File}
use Rattle.nd_npy.specs.declared.errors.WriteNpyError.{WriteNpyError}
use Rattle.nd_npy.specs.declared.errors.WriteNpyError.TheVariants as write_errors

-- Returns numpy's name of a kind.
abbrev pub kind_name : Kind → List ℕ
kind_name kinds.Bool = codes "bool"
kind_name kinds.Int8 = codes "int8"
kind_name kinds.Int16 = codes "int16"
kind_name kinds.Int32 = codes "int32"
kind_name kinds.Int64 = codes "int64"
kind_name kinds.UInt8 = codes "uint8"
kind_name kinds.UInt16 = codes "uint16"
kind_name kinds.UInt32 = codes "uint32"
kind_name kinds.UInt64 = codes "uint64"
kind_name kinds.Float16 = codes "float16"
kind_name kinds.Float32 = codes "float32"
kind_name kinds.Float64 = codes "float64"
kind_name kinds.Complex64 = codes "complex64"
kind_name kinds.Complex128 = codes "complex128"

-- Returns the text that an error of reading a file writes.
abbrev pub read_npy_error_text : ReadNpyError → List ℕ
read_npy_error_text (Header error) = header_error_text error
read_npy_error_text (OtherKind kind) = codes "the elements are of the kind " ++ (kind_name kind ++ codes ", which isn't the kind asked for")
read_npy_error_text (WrongSize expected found) = decimal found ++ (codes " bytes follow the head, and the elements take " ++ decimal expected)
read_npy_error_text Memory = codes "out of memory"

-- Returns the text that an error of reading a stream writes.
abbrev pub read_npy_from_error_text : ReadNpyFromError → List ℕ
read_npy_from_error_text ReadFailed = codes "a read failed"
read_npy_from_error_text (File error) = read_npy_error_text error

-- Returns the text that an error of writing to a stream writes.
abbrev pub write_npy_error_text : WriteNpyError → List ℕ
write_npy_error_text write_errors.WriteFailed = codes "a write failed"
write_npy_error_text write_errors.Memory = codes "out of memory"
