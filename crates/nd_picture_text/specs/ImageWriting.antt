-- The bytes in which an image is written.
use Rattle.std.specs.Prelude.{ℕ, ◌/◌, ◌%◌, ◌==◌, nat_lt, List, [], ◌∷◌, ◌++◌, codes, if◌then◌else◌}
use Rattle.std.specs.List.{flat_map}
use Rattle.std.specs.Fmt.{decimal}
use Rattle.nd_picture_text.specs.declared.image_formats.Kind.{Kind}
use Rattle.nd_picture_text.specs.declared.image_formats.Kind.TheVariants.{PlainBitmap, PlainGrey, PlainColour, RawBitmap, RawGrey, RawColour}
use Rattle.nd_picture_text.specs.declared.image_formats.Header.{Header}
use Rattle.nd_picture_text.specs.ImageFormatsAndHeaders.{Pixmap, is_plain, is_bitmap, is_packed}
use Rattle.nd_picture_text.specs.PackedBitmaps.{rows_text}

-- Returns the format's name.
abbrev pub kind_text : Kind → List ℕ
kind_text PlainBitmap = codes "P1\n"
kind_text PlainGrey = codes "P2\n"
kind_text PlainColour = codes "P3\n"
kind_text RawBitmap = codes "P4\n"
kind_text RawGrey = codes "P5\n"
kind_text RawColour = codes "P6\n"

-- Returns the line of the maxval, which a bitmap lacks.
abbrev pub maxval_text : Header → List ℕ
maxval_text h = if is_bitmap h.kind then [] else (decimal h.maxval ++ codes "\n")

abbrev pub image_header_text : Header → List ℕ
image_header_text h = kind_text h.kind ++ (decimal h.width ++ (codes " " ++ (decimal h.height ++ (codes "\n" ++ maxval_text h))))

-- Returns the bytes of a sample as a decimal number on a line of its own.
abbrev pub number_line : ℕ → List ℕ
number_line s = decimal s ++ codes "\n"

-- Returns the bytes of a sample of a bitmap as a digit on a line of its own. The digit 1 is black.
abbrev pub bit_line : ℕ → List ℕ
bit_line s = if s == 0 then codes "1\n" else codes "0\n"

-- Returns a sample as one byte.
abbrev pub low_byte : ℕ → List ℕ
low_byte s = s % 256 ∷ []

-- Returns a sample as two bytes, the more significant one first.
abbrev pub both_bytes : ℕ → List ℕ
both_bytes s = s / 256 ∷ s % 256 ∷ []

-- Returns the bytes in which a sample is written.
abbrev pub sample_text : Header → ℕ → List ℕ
sample_text h s = if is_plain h.kind then (if is_bitmap h.kind then bit_line s else number_line s) else (if nat_lt h.maxval 256 then low_byte s else both_bytes s)

-- Returns the bytes of all samples of an image.
abbrev pub raster_text : Pixmap → List ℕ
raster_text p = if is_packed p.header.kind then rows_text p.header.width p.header.height p.samples else flat_map (sample_text p.header) p.samples

abbrev pub image_text : Pixmap → List ℕ
image_text p = image_header_text p.header ++ raster_text p
