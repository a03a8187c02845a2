-- Pictures as lists of samples, row by row, pixel by pixel, channel by channel.
use Rattle.std.specs.Prelude.{◌≡◌, ◌<◌, ◌≤◌, ℕ, ◌+◌, ◌*◌, List, length, slice_get, slice_index, Some}
use Rattle.nd_array_core.specs.ArrayMeaning.{Meaning}
use Rattle.nd_picture_text.specs.declared.image_formats.Header.{Header}
use Rattle.nd_picture_text.specs.ImageFormatsAndHeaders.{Pixmap, IsHeader, channels_of}
use Rattle.nd_picture.specs.PictureChanges.{Picture, Shows}

-- Returns which sample of the list is that of a row, a column and a channel.
abbrev pub sample_number : ℕ → ℕ → ℕ → ℕ → ℕ → ℕ
sample_number width channels row column channel = (row * width + column) * channels + channel

-- Returns the picture of an image.
abbrev pub picture_in : Pixmap → Picture
picture_in p = record {
  height = p.header.height;
  width = p.header.width;
  channels = channels_of p.header.kind;
  sample_at = λ row column channel. slice_index p.samples (sample_number p.header.width (channels_of p.header.kind) row column channel);
}

-- Says that the list has a picture's samples, and no others.
pub record Lists (xs : List ℕ) (p : Picture) : Type 0 where
  pub right_length : length xs ≡ p.height * p.width * p.channels
  pub right_samples : (row column channel : ℕ) → row < p.height → column < p.width → channel < p.channels → slice_get xs (sample_number p.width p.channels row column channel) ≡ Some (p.sample_at row column channel)

-- Says that the image is one of the picture, in the format and with the maxval of the header `h`.
pub record IsImageOf (h : Header) (p : Picture) (image : Pixmap) : Type 0 where
  pub headed : image.header ≡ record { kind = h.kind; width = p.width; height = p.height; maxval = h.maxval }
  pub sampled : Lists image.samples p

-- Says that the image is one of each picture that the array `m` shows, in the format and with the maxval of the
-- header `h`.
abbrev pub IsImageShown : Header → Meaning ℕ → Pixmap → Type 0
IsImageShown h m image = (p : Picture) → Shows m p → IsImageOf h p image

-- Says that an image with this maxval and so many channels can have the picture: there is at least one row and column
-- and there are at most 1,000,000,000 of each, and no sample is above the maxval.
pub record FitsImage (maxval channels : ℕ) (p : Picture) : Type 0 where
  pub rows_allowed : (0 < p.height) × (p.height ≤ 1000000000)
  pub columns_allowed : (0 < p.width) × (p.width ≤ 1000000000)
  pub channels_allowed : p.channels ≡ channels
  pub samples_allowed : (row column channel : ℕ) → row < p.height → column < p.width → channel < p.channels → p.sample_at row column channel ≤ maxval

-- Says that an image in the format and with the maxval of the header can have the picture that the array shows.
abbrev pub FitsHeader : Header → Meaning ℕ → Type 0
FitsHeader h m = IsHeader h × (p : Picture) × Shows m p × FitsImage h.maxval (channels_of h.kind) p
