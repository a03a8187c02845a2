-- What an image file says.
use Rattle.std.specs.Prelude.{◌≡◌, ◌<◌, ◌≤◌, ℕ, ◌*◌, All, length, Bool, true, false, List}
use Rattle.nd_picture_text.specs.declared.image_formats.Kind.{Kind}
use Rattle.nd_picture_text.specs.declared.image_formats.Kind.TheVariants.{PlainBitmap, PlainGrey, PlainColour, RawBitmap, RawGrey, RawColour}
use Rattle.nd_picture_text.specs.declared.image_formats.Header.{Header}
use Rattle.nd_picture_text.specs.declared.image_formats.Image.{Image}

-- Returns how many samples a pixel has.
abbrev pub channels_of : Kind → ℕ
channels_of PlainBitmap = 1
channels_of PlainGrey = 1
channels_of PlainColour = 3
channels_of RawBitmap = 1
channels_of RawGrey = 1
channels_of RawColour = 3

-- Returns whether the samples are written as digits.
abbrev pub is_plain : Kind → Bool
is_plain PlainBitmap = true
is_plain PlainGrey = true
is_plain PlainColour = true
is_plain RawBitmap = false
is_plain RawGrey = false
is_plain RawColour = false

-- Returns whether the samples are 0 for black and 1 for white alone, so that the header tells no maxval.
abbrev pub is_bitmap : Kind → Bool
is_bitmap PlainBitmap = true
is_bitmap RawBitmap = true
is_bitmap _ = false

-- Returns whether a byte is eight samples.
abbrev pub is_packed : Kind → Bool
is_packed RawBitmap = true
is_packed _ = false

-- Returns the format without colours, with samples written in the same way.
abbrev pub gray_kind : Kind → Kind
gray_kind PlainColour = PlainGrey
gray_kind RawColour = RawGrey
gray_kind kind = kind

-- Returns the format for the same samples written in digits.
abbrev pub plain_kind : Kind → Kind
plain_kind RawBitmap = PlainBitmap
plain_kind RawGrey = PlainGrey
plain_kind RawColour = PlainColour
plain_kind kind = kind

-- Returns the format for the same samples written in bytes.
abbrev pub raw_kind : Kind → Kind
raw_kind PlainBitmap = RawBitmap
raw_kind PlainGrey = RawGrey
raw_kind PlainColour = RawColour
raw_kind kind = kind

-- Returns how many samples an image has.
abbrev pub sample_count : Header → ℕ
sample_count h = h.height * h.width * channels_of h.kind

-- An image, apart from where its samples lie in memory.
pub record Pixmap : Type 0 where
  pub header : Header
  pub samples : List ℕ

abbrev pub pixmap_of : Image → Pixmap
pixmap_of image = record { header = image.header; samples = image.samples.items }

-- Returns the image with this header and these samples.
abbrev pub pixmap_with : Header → List ℕ → Pixmap
pixmap_with header samples = record { header = header; samples = samples }

-- Says that a header keeps its limits, so that its samples can be counted and each takes two bytes at most; and that
-- the maxval of a bitmap is 1.
pub record IsHeader (h : Header) : Type 0 where
  pub wide : (0 < h.width) × (h.width ≤ 1000000000)
  pub high : (0 < h.height) × (h.height ≤ 1000000000)
  pub light : (0 < h.maxval) × (h.maxval < 65536)
  pub bits : is_bitmap h.kind ≡ true → h.maxval ≡ 1

-- Says that an image has as many samples as its pixels and channels require, and none above the maxval.
pub record IsWholeImage (p : Pixmap) : Type 0 where
  pub header : IsHeader p.header
  pub all_samples : length p.samples ≡ sample_count p.header
  pub none_above : All (λ s. s ≤ p.header.maxval) p.samples
