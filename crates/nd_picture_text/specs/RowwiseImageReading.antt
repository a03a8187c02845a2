-- Images that are read a few rows at a time: the header at the front of what was read so far, and rows of the raster.
use Rattle.std.specs.Prelude.{◌≡◌, ◌<◌, ◌≤◌, ℕ, ◌+◌, ◌-◌, Bool, true, false, List, ◌++◌, length, drop, Option, IfSome, Result, Ok, Err}
use Rattle.std.specs.Io.KnownBytes.{prepend_known, Consumes}
use Rattle.nd_text.specs.declared.watched_streams.Watched.{Watched}
use Rattle.nd_text.specs.WatchedReadersAndWriters.{watched_inner}
use Rattle.nd_picture_text.specs.declared.image_formats.Header.{Header}
use Rattle.nd_picture_text.specs.declared.errors.ImageFlaw.{ImageFlaw}
use Rattle.nd_picture_text.specs.declared.rows_from_stream.Rows.{Rows}
use Rattle.nd_picture_text.specs.declared.rows_from_stream.RowsError.{RowsError}
use Rattle.nd_picture_text.specs.declared.rows_from_stream.RowsError.TheVariants.{BadByte, Memory, ReadFailed}
use Rattle.nd_picture_text.specs.ImageFormatsAndHeaders.{IsHeader, pixmap_with, sample_count}
use Rattle.nd_picture_text.specs.ImageReading.{ImageStop, image_header_in, samples_after, raster_in, raster_size}
use Rattle.nd_picture_text.specs.ImageWriting.{raster_text}

-- Says that the bytes begin with the header, which takes so many of them.
abbrev pub StartsWithHeader : List ℕ → Header × ℕ → Type 0
StartsWithHeader bytes x = IsHeader x.0 × (x.1 ≤ length bytes) × (image_header_in bytes ≡ Ok (x.0, drop x.1 bytes))

-- Says that the bytes that were read, with those that the reader still gives, begin with the header, which takes so many
-- of the bytes that were read.
abbrev pub HasFront : {R : Type 0} → (R → Option (List ℕ)) → Watched R → List ℕ → Header × ℕ → Type 0
HasFront remaining input bytes x = IsHeader x.0 × (x.1 ≤ length bytes) × IfSome (remaining (watched_inner input)) (λ rest. image_header_in (bytes ++ rest) ≡ Ok (x.0, drop x.1 bytes ++ rest))

-- Says that if the bytes begin with a header, something follows it.
abbrev pub HasMore : List ℕ → Type 0
HasMore bytes = (x : Header × List ℕ) → image_header_in bytes ≡ Ok x → 0 < length x.1

-- Returns the header with another number of rows.
abbrev pub with_rows : ℕ → Header → Header
with_rows count h = record { kind = h.kind; width = h.width; height = count; maxval = h.maxval }

-- Returns how many samples so many rows have.
abbrev pub row_samples : Header → ℕ → ℕ
row_samples h count = sample_count (with_rows count h)

-- Returns how many bytes so many rows of a raw image take.
abbrev pub row_bytes : Header → ℕ → ℕ
row_bytes h count = raster_size (with_rows count h)

-- Returns the samples of the first rows, so many, of an image with this header, whose samples begin with the first byte.
abbrev pub samples_of_rows : Header → ℕ → List ℕ → Result (List ℕ) ImageStop
samples_of_rows h count bytes = raster_in (with_rows count h) bytes

-- Returns the bytes in which so many rows of an image with this header are written.
abbrev pub raster_rows : Header → ℕ → List ℕ → List ℕ
raster_rows h count samples = raster_text (pixmap_with (with_rows count h) samples)

-- Returns the bytes that are still to be taken: those that were read, and those that the reader still gives, where these
-- are known.
abbrev pub still_given : {R : Type 0} → (R → Option (List ℕ)) → Watched R → List ℕ → Option (List ℕ)
still_given remaining input bytes = prepend_known bytes (remaining (watched_inner input))

-- Says that the first rows of an image with this header, so many, are read from the bytes as the samples `xs`, and the rows
-- after them from `rest`.
abbrev pub ReadsThen : Header → ℕ → List ℕ → List ℕ → List ℕ → Type 0
ReadsThen h count bytes xs rest = (more : ℕ) → samples_of_rows h (count + more) bytes ≡ samples_after xs (samples_of_rows h more rest)

-- Says that `size` of the bytes that were given were taken for so many rows of an image with this header, whose samples are
-- `xs`; and that the rows after them are read from the bytes that are then still given.
abbrev pub TakesRows : Header → ℕ → ℕ → List ℕ → Option (List ℕ) → Option (List ℕ) → Type 0
TakesRows h count size xs given given' =
    (taken : List ℕ) × (length taken ≡ size) × Consumes given given' taken × IfSome given (λ bytes. IfSome given' (λ rest. ReadsThen h count bytes xs rest))

-- Says that these are the next rows of an image with the header `h`, at most `missing`, and that the bytes that they took
-- stood before those that are still given.
abbrev pub AreNextRows : Header → ℕ → Option (List ℕ) → Option (List ℕ) → Rows → Type 0
AreNextRows h missing given given' rows =
    TakesRows h rows.image.header.height rows.size rows.image.samples.items given given' × (rows.image.header ≡ with_rows rows.image.header.height h) × (rows.image.header.height ≤ missing)

-- Says that these rows of a raw image with the header `h` are the samples of as many bytes as such rows take, and that these
-- bytes stood before those that are still given. It says so of every reader, also of one whose bytes aren't known.
abbrev pub AreRawRows : Header → Option (List ℕ) → Option (List ℕ) → Rows → Type 0
AreRawRows h given given' rows =
    (rows.size ≡ row_bytes h rows.image.header.height)
    × (taken : List ℕ) × Consumes given given' taken × (length taken ≡ row_bytes h rows.image.header.height) × (samples_of_rows h rows.image.header.height taken ≡ Ok rows.image.samples.items)

-- Says that a bad byte is no further from the first byte than so many rows of a raw image reach.
abbrev pub IsInRawRows : Header → ℕ → RowsError → Type 0
IsInRawRows h missing (BadByte byte flaw) = byte ≤ row_bytes h missing
IsInRawRows h missing Memory = Unit {0}
IsInRawRows h missing ReadFailed = Unit {0}

-- Says that `missing` rows of an image with the header `h` can't be read from the bytes: they go wrong at this byte.
abbrev pub IsBadRow : Header → ℕ → ℕ → ImageFlaw → List ℕ → Type 0
IsBadRow h missing byte flaw bytes = (byte ≤ length bytes) × (samples_of_rows h missing bytes ≡ Err (length bytes - byte, flaw))

-- Says that the error tells why `missing` rows can't be read. Of lacking memory and a failed read it says nothing.
abbrev pub TellsBadRow : Header → ℕ → Option (List ℕ) → RowsError → Type 0
TellsBadRow h missing given (BadByte byte flaw) = IfSome given (λ bytes. IsBadRow h missing byte flaw bytes)
TellsBadRow h missing given Memory = Unit {0}
TellsBadRow h missing given ReadFailed = Unit {0}

-- Returns whether the result is the failure of a read.
abbrev pub is_rows_failure : {X : Type 0} → Result X RowsError → Bool
is_rows_failure (Ok x) = false
is_rows_failure (Err ReadFailed) = true
is_rows_failure (Err _) = false
