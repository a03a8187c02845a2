-- What the bytes of an image mean; or, if they mean none, how many of them are left where they go wrong, and what is
-- wrong there. What follows the last sample is another image, or nothing that counts.
use Rattle.std.specs.Prelude.{◌≡◌, ◌≤◌, ℕ, zero, suc, ◌+◌, ◌-◌, ◌*◌, Bool, true, false, ◌==◌, nat_le, nat_lt, List, [], ◌∷◌, ◌++◌, length, Option, None, Some, Result, Ok, Err, if◌then◌else◌}
use Rattle.nd_picture_text.specs.declared.image_formats.Kind.{Kind}
use Rattle.nd_picture_text.specs.declared.image_formats.Kind.TheVariants.{PlainBitmap, PlainGrey, PlainColour, RawBitmap, RawGrey, RawColour}
use Rattle.nd_picture_text.specs.declared.image_formats.Header.{Header}
use Rattle.nd_picture_text.specs.declared.errors.ImageError.{ImageError}
use Rattle.nd_picture_text.specs.declared.errors.ImageError.TheVariants.{BadByte, Memory}
use Rattle.nd_picture_text.specs.declared.errors.ImageFlaw.{ImageFlaw}
use Rattle.nd_picture_text.specs.declared.errors.ImageFlaw.TheVariants.{TooShort, Format, Width, Height, Maxval, Sample, AboveMaxval}
use Rattle.nd_picture_text.specs.ImageFormatsAndHeaders.{Pixmap, is_plain, is_bitmap, is_packed, sample_count}
use Rattle.nd_picture_text.specs.PackedBitmaps.{row_size, rows_pixels}
use Rattle.nd_picture_text.specs.NumbersInImageText.{◌>>=◌, after_blank, after_gap, next_number}

-- How many bytes are left where they can't be read on, and what is wrong there.
abbrev pub ImageStop : Type 0
ImageStop = ℕ × ImageFlaw

-- Returns the stop where so many bytes are left: the image ends too early if none is left, and otherwise has this
-- flaw.
abbrev pub stop_at : ImageFlaw → ℕ → ImageStop
stop_at flaw left = (left, if left == 0 then TooShort else flaw)

-- Returns what was read, or the stop with this flaw where so many bytes are left.
abbrev pub or_flaw : {A : Type 0} → ImageFlaw → Result A ℕ → Result A ImageStop
or_flaw flaw (Ok x) = Ok x
or_flaw flaw (Err left) = Err (stop_at flaw left)

-- Returns the format that a digit names after the letter P: one from 1 to 6.
abbrev pub image_kind_named : ℕ → Option Kind
image_kind_named k =
    if k == 49 then Some PlainBitmap
    else (if k == 50 then Some PlainGrey else (if k == 51 then Some PlainColour else (if k == 52 then Some RawBitmap else (if k == 53 then Some RawGrey else (if k == 54 then Some RawColour else None)))))

-- Returns the format and what follows the digit that names it and a blank.
abbrev pub after_kind : Option Kind → ℕ → List ℕ → Result (Kind × List ℕ) ImageStop
after_kind None k bs = Err (length (k ∷ bs), Format)
after_kind (Some kind) k bs = or_flaw Format (after_blank bs) >>= λ rest. Ok (kind, rest)

-- Returns the format that the first byte names, and what follows it and a blank.
abbrev pub kind_in : List ℕ → Result (Kind × List ℕ) ImageStop
kind_in [] = Err (0, TooShort)
kind_in (k ∷ bs) = after_kind (image_kind_named k) k bs

-- Returns the format and what follows its name and a blank.
abbrev pub opening : List ℕ → Result (Kind × List ℕ) ImageStop
opening [] = Err (0, TooShort)
opening (p ∷ bs) = if p == 80 then kind_in bs else Err (length (p ∷ bs), Format)

-- Returns a number up to the limit, which isn't 0 where `positive` is true, and what follows it and a blank.
abbrev pub number_in : ImageFlaw → Bool → ℕ → List ℕ → Result (ℕ × List ℕ) ImageStop
number_in flaw positive limit bytes = or_flaw flaw (next_number positive limit bytes)

-- Returns the greatest sample, which is 1 in a bitmap, and what follows it.
abbrev pub maxval_in : Kind → List ℕ → Result (ℕ × List ℕ) ImageStop
maxval_in kind bytes = if is_bitmap kind then Ok (1, bytes) else number_in Maxval true 65535 bytes

-- Returns the header, which is the format, the width, the height and the greatest sample, and what follows it.
unfoldable pub image_header_in : List ℕ → Result (Header × List ℕ) ImageStop
image_header_in bytes =
    opening bytes >>= λ o. number_in Width true 1000000000 o.1 >>= λ w. number_in Height true 1000000000 w.1 >>= λ h. maxval_in o.0 h.1 >>= λ m.
    Ok (record { kind = o.0; width = w.0; height = h.0; maxval = m.0 }, m.1)

-- Returns the sample that the first byte writes in a bitmap, where the digit 1 is black, and what follows it.
abbrev pub bit_here : List ℕ → Result (ℕ × List ℕ) ImageStop
bit_here [] = Err (0, TooShort)
bit_here (b ∷ bs) = if b == 48 then Ok (1, bs) else (if b == 49 then Ok (0, bs) else Err (length (b ∷ bs), Sample))

-- Returns the next sample that is written in digits, and what follows it: one digit in a bitmap, and otherwise a number
-- and a blank.
abbrev pub plain_sample : Header → List ℕ → Result (ℕ × List ℕ) ImageStop
plain_sample h bytes = if is_bitmap h.kind then bit_here (after_gap false bytes) else number_in Sample false h.maxval bytes

-- Returns the sample that the first byte is, and what follows it.
abbrev pub narrow_sample : ℕ → List ℕ → Result (ℕ × List ℕ) ImageStop
narrow_sample maxval [] = Err (0, TooShort)
narrow_sample maxval (b ∷ bs) = if nat_le b maxval then Ok (b, bs) else Err (length (b ∷ bs), AboveMaxval)

-- Returns the sample that the first byte completes, where the byte before it is worth `high`, and what follows it.
abbrev pub low_half : ℕ → ℕ → List ℕ → Result (ℕ × List ℕ) ImageStop
low_half maxval high [] = Err (0, TooShort)
low_half maxval high (b ∷ bs) = if nat_le (high + b) maxval then Ok (high + b, bs) else Err (length (b ∷ bs), AboveMaxval)

-- Returns the sample that the first two bytes are, the more significant one first, and what follows them.
abbrev pub wide_sample : ℕ → List ℕ → Result (ℕ × List ℕ) ImageStop
wide_sample maxval [] = Err (0, TooShort)
wide_sample maxval (a ∷ bs) = if nat_le (a * 256) maxval then low_half maxval (a * 256) bs else Err (length (a ∷ bs), AboveMaxval)

-- Returns the next sample of an image with this header, and what follows it: digits, one byte, or two if the greatest
-- sample is 256 or more.
unfoldable pub sample_in : Header → List ℕ → Result (ℕ × List ℕ) ImageStop
sample_in h bytes = if is_plain h.kind then plain_sample h bytes else (if nat_lt h.maxval 256 then narrow_sample h.maxval bytes else wide_sample h.maxval bytes)

-- Returns the samples `xs` and after them those that were read.
abbrev pub samples_after : List ℕ → Result (List ℕ) ImageStop → Result (List ℕ) ImageStop
samples_after xs (Ok ys) = Ok (xs ++ ys)
samples_after xs (Err stop) = Err stop

-- Returns so many samples of an image with this header.
abbrev pub samples_in : Header → ℕ → List ℕ → Result (List ℕ) ImageStop
samples_in h zero bytes = Ok []
samples_in h (suc count) bytes = sample_in h bytes >>= λ x. samples_after (x.0 ∷ []) (samples_in h count x.1)

-- Returns the samples `xs` and after them those that were read, and what follows these.
abbrev pub samples_before : List ℕ → Result (List ℕ × List ℕ) ImageStop → Result (List ℕ × List ℕ) ImageStop
samples_before xs (Ok read) = Ok (xs ++ read.0, read.1)
samples_before xs (Err stop) = Err stop

-- Returns so many samples of an image with this header, and what follows them.
abbrev pub samples_and_rest : Header → ℕ → List ℕ → Result (List ℕ × List ℕ) ImageStop
samples_and_rest h zero bytes = Ok ([], bytes)
samples_and_rest h (suc count) bytes = sample_in h bytes >>= λ x. samples_before (x.0 ∷ []) (samples_and_rest h count x.1)

-- Returns the first bytes, so many.
abbrev pub bytes_in : ℕ → List ℕ → Result (List ℕ) ImageStop
bytes_in zero bytes = Ok []
bytes_in (suc count) [] = Err (0, TooShort)
bytes_in (suc count) (b ∷ bs) = samples_after (b ∷ []) (bytes_in count bs)

-- Returns the samples of a packed bitmap of this width and height.
abbrev pub packed_in : ℕ → ℕ → List ℕ → Result (List ℕ) ImageStop
packed_in width height bytes = bytes_in (height * row_size width) bytes >>= λ rows. Ok (rows_pixels width height rows)

-- Returns the samples of an image with this header.
unfoldable pub raster_in : Header → List ℕ → Result (List ℕ) ImageStop
raster_in h bytes = if is_packed h.kind then packed_in h.width h.height bytes else samples_in h (sample_count h) bytes

-- Returns how many bytes so many samples take.
abbrev pub raw_size : ℕ → ℕ → ℕ
raw_size maxval count = if nat_lt maxval 256 then count else count * 2

-- Returns how many bytes the samples of an image with this header take.
abbrev pub raster_size : Header → ℕ
raster_size h = if is_packed h.kind then h.height * row_size h.width else raw_size h.maxval (sample_count h)

-- Says that there are at least as many bytes as the header's samples take, unless samples are written in digits.
abbrev pub HasRawSize : Header → List ℕ → Type 0
HasRawSize h bytes = is_plain h.kind ≡ false → raster_size h ≤ length bytes

-- Returns the first image of the bytes.
unfoldable pub image_in : List ℕ → Result Pixmap ImageStop
image_in bytes = image_header_in bytes >>= λ x. raster_in x.0 x.1 >>= λ samples. Ok (record { header = x.0; samples = samples })

-- Says that reading stops where the error says, and with its flaw. Of lacking memory it says nothing.
abbrev pub IsLeftAt : {Y : Type 0} → ImageError → Result Y ImageStop → Type 0
IsLeftAt Memory meant = Unit {0}
IsLeftAt (BadByte left flaw) meant = meant ≡ Err (left, flaw)

-- Says that a reader of the code returned what the bytes mean, where `view` tells what its value means, unless memory
-- ran out.
abbrev pub ReadsAs : {X Y : Type 0} → (X → Y) → Result X ImageError → Result Y ImageStop → Type 0
ReadsAs view (Ok x) meant = meant ≡ Ok (view x)
ReadsAs view (Err error) meant = IsLeftAt error meant

-- Returns the result with its stop counted from the first byte: the number of the byte in place of how many are left.
abbrev pub counted : {Y : Type 0} → ℕ → Result Y ImageStop → Result Y ImageStop
counted size (Ok y) = Ok y
counted size (Err stop) = Err (size - stop.0, stop.1)

-- Says that memory is asked for samples: the bytes begin with a header, and at least as many bytes follow as the
-- samples take, unless these are written in digits.
abbrev pub AsksForSamples : List ℕ → Type 0
AsksForSamples bytes = (h : Header) × (rest : List ℕ) × (image_header_in bytes ≡ Ok (h, rest)) × HasRawSize h rest
