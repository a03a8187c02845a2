-- What is read from a reader and written to a writer, and in which order an array that lies in memory is written.
use Rattle.std.specs.Prelude.{◌≡◌, ◌↔◌, ◌⊎◌, ◌<◌, ◌≤◌, ◌+◌, ◌*◌, ℕ, Bool, true, false, List, ◌++◌, length, drop, Option, IfSome, Result, Ok, Err, IsTrue}
use Rattle.std.specs.Io.KnownBytes.{prepend_known, Keeps, IsAtEnd}
use Rattle.nd_shape_and_slice.specs.declared.dimension.Dimension as dimension
use Rattle.nd_shape_and_slice.specs.declared.dimension.AxisCount as axis_count
use Rattle.nd_shape_and_slice.specs.declared.dimension.StrideList as stride_list
use Rattle.nd_shape_and_slice.specs.declared.shape_builder.Order.TheVariants.{ColumnMajor}
use Rattle.nd_elements.specs.declared.storage.Data as data_trait
use Rattle.nd_array_core.specs.declared.base.array.ArrayBase.{ArrayBase}
use Rattle.nd_array_core.specs.reshape.ElementsAsSlice.{IsStandardArray}
use Rattle.nd_array_core.specs.reshape.ReshapeByRank.{LiesInOrder}
use Rattle.nd_text.specs.declared.watched_streams.Watched.{Watched}
use Rattle.nd_text.specs.WatchedReadersAndWriters.{watched_inner, watched_failed, watched_retried, GetsFlushed}
use Rattle.nd_text.specs.BufferedPrinting.{TakesText}
use Rattle.nd_npy.specs.declared.errors.ReadNpyFromError.{ReadNpyFromError}
use Rattle.nd_npy.specs.declared.errors.ReadNpyFromError.TheVariants.{ReadFailed, File}
use Rattle.nd_npy.specs.declared.errors.ReadNpyError.{ReadNpyError}
use Rattle.nd_npy.specs.declared.errors.ReadNpyError.TheVariants as npy_errors
use Rattle.nd_npy.specs.ItemBytes.{values_in}
use Rattle.nd_npy.specs.declared.errors.WriteNpyError.{WriteNpyError}
use Rattle.nd_npy.specs.declared.errors.WriteNpyError.TheVariants as write_errors
use Rattle.nd_npy.specs.FileBytesAndArrays.{IsNpyCause}

-- ---- reading

-- Says that a reader of a stream may fail with this error where the bytes mean `meant`: if a read failed, whatever they
-- mean, or else as `IsNpyCause` says.
abbrev pub IsStreamCause : {Y : Type 0} → ReadNpyFromError → Result Y ReadNpyError → Type 0
IsStreamCause ReadFailed meant = Unit {0}
IsStreamCause (File error) meant = IsNpyCause error meant

-- Says that the result of a reader of a stream is what the bytes mean: `meant` is `view` of the value that the reader
-- returns, or the reader may fail with its error (`IsStreamCause`).
abbrev pub ReadsStreamAs : {X Y : Type 0} → (X → Y) → Result X ReadNpyFromError → Result Y ReadNpyError → Type 0
ReadsStreamAs view (Ok x) meant = meant ≡ Ok (view x)
ReadsStreamAs view (Err error) meant = IsStreamCause error meant

-- Returns whether the result is that a read failed.
abbrev pub is_failed_npy_read : {X : Type 0} → Result X ReadNpyFromError → Bool
is_failed_npy_read (Ok x) = false
is_failed_npy_read (Err ReadFailed) = true
is_failed_npy_read (Err (File error)) = false

-- Says that a reader, which hadn't failed, has failed now where the result is that a read failed, and that it stops at the
-- same errors as before.
abbrev pub AnswersAsWatched : {R X : Type 0} → Watched R → Watched R → Result X ReadNpyFromError → Type 0
AnswersAsWatched old new result = (watched_failed new ≡ is_failed_npy_read result) × (watched_retried new ≡ watched_retried old)

-- Says that an error is that a read failed, or that memory was refused, and that `P` holds then.
abbrev pub FailsToRead : ReadNpyFromError → Type 0 → Type 0
FailsToRead error P = (error ≡ ReadFailed) ⊎ ((error ≡ File npy_errors.Memory) × P)

-- ---- writing

-- Says what was written of a file for this result: the whole file, and the writer was flushed; if a call of the writer
-- failed, a beginning of the file; if memory was refused, nothing.
abbrev pub WritesFile : {W X : Type 0} → (W → Option (List ℕ)) → Watched W → Watched W → List ℕ → Result X WriteNpyError → Type 0
WritesFile contents old new file (Ok x) = TakesText contents old new file × (watched_failed new ≡ false) × GetsFlushed old new
WritesFile contents old new file (Err write_errors.WriteFailed) = TakesText contents old new file × (watched_failed new ≡ true) × GetsFlushed old new
WritesFile contents old new file (Err write_errors.Memory) = new ≡ old

module _ {S D T A R : Type 0} {s : data_trait.Ghosts S A} {d : dimension.Ghosts D R} {n : axis_count.Ghosts D} {r : stride_list.Ghosts R} {t : stride_list.Ghosts T} where
  -- Says that the elements of `a` are contiguous in column-major order, and not in row-major order.
  abbrev pub LiesInFortranOrder : ArrayBase S D T A R s d n r t → Type 0
  LiesInFortranOrder a = (¬ (IsStandardArray a)) × LiesInOrder ColumnMajor a

  -- Says that `P` holds of the order in which numpy writes `a`: Fortran's where its elements lie so (true), and
  -- otherwise row-major order (false).
  abbrev pub InItsOrder : ArrayBase S D T A R s d n r t → (Bool → Type 0) → Type 0
  InItsOrder a P = (fortran_order : Bool) × (IsTrue fortran_order ↔ LiesInFortranOrder a) × P fortran_order

-- ---- reading piece by piece

-- Returns the bytes that are still ahead, if they are known: those that were read and wait, and those that the reader
-- has left.
abbrev pub bytes_ahead : {R : Type 0} → (R → Option (List ℕ)) → List ℕ → Watched R → Option (List ℕ)
bytes_ahead remaining pending input = prepend_known pending (remaining (watched_inner input))

-- Says what one read has done for this result: it has put bytes behind those that wait (true), or found the end of the
-- input (false), and what is ahead stays; or it failed, or memory was refused, which is so only where the input has bytes
-- left.
abbrev pub ReadsPiece : {R : Type 0} → (R → Option (List ℕ)) → Watched R → Watched R → List ℕ → List ℕ → Result Bool ReadNpyFromError → Type 0
ReadsPiece remaining old new before after (Ok true) = Keeps (bytes_ahead remaining before old) (bytes_ahead remaining after new) × (length before < length after)
ReadsPiece remaining old new before after (Ok false) = Keeps (bytes_ahead remaining before old) (bytes_ahead remaining after new) × IsAtEnd (remaining (watched_inner new)) × (after ≡ before)
ReadsPiece remaining old new before after (Err error) = FailsToRead error (IfSome (remaining (watched_inner old)) (λ xs. 0 < length xs))

-- Says that the values of some items at the front of the bytes were put after `old`, so that there are `count` values, or
-- less than one item is left.
pub record TakesItems {A : Type 0} (value : List ℕ → A) (size count : ℕ) (old new : List A) (before after : ℕ) (bytes left : List ℕ) : Type 0 where
  pub taken : ℕ
  pub within : taken * size ≤ length bytes
  pub values : new ≡ old ++ values_in value size taken bytes
  pub after_taken : after ≡ before + taken
  pub rest : left ≡ drop (taken * size) bytes
  pub at_most_count : after ≤ count
  pub else_short : after < count → length left < size

-- Says that the values of `count` items aren't given for this error: the bytes behind the head are more or fewer than the
-- items take, memory was refused, or a read failed.
abbrev pub IsValuesCause : ℕ → ℕ → List ℕ → ReadNpyFromError → Type 0
IsValuesCause size count bytes ReadFailed = Unit {0}
IsValuesCause size count bytes (File (npy_errors.WrongSize expected found)) = (expected ≡ count * size) × (found ≡ length bytes) × ¬ (found ≡ expected)
IsValuesCause size count bytes (File npy_errors.Memory) = Unit {0}
IsValuesCause size count bytes (File _) = ⊥

-- Says what is given for the bytes behind a head: the values of `count` items, which are all of the bytes, or an error
-- (`IsValuesCause`).
abbrev pub GivesValues : {A X : Type 0} → (List ℕ → A) → ℕ → ℕ → List ℕ → List A → Result X ReadNpyFromError → Type 0
GivesValues value size count bytes xs (Ok x) = (xs ≡ values_in value size count bytes) × (length bytes ≡ count * size)
GivesValues value size count bytes xs (Err error) = IsValuesCause size count bytes error
