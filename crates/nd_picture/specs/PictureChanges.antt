-- What a picture is, and each change of one by row and column. Rows count downwards from 0, columns to the right, and
-- a channel is grey, or red, green or blue.
use Rattle.std.specs.Prelude.{◌≡◌, ℕ, ◌+◌, ◌-◌, ◌*◌, ◌/◌, ◌<◌, ◌==◌, Bool, ◌&&◌, min, nat_le, nat_lt, [], ◌∷◌, Some, if◌then◌else◌}
use Rattle.nd_array_core.specs.ArrayMeaning.{Meaning}
use Rattle.nd_array_core.specs.SumsCountsAndExtrema.{sum_below}

-- How many rows, columns and channels there are, and the sample at each of them. Outside the picture, `sample_at`
-- is left open.
pub record Picture : Type 0 where
  pub height : ℕ
  pub width : ℕ
  pub channels : ℕ
  pub sample_at : ℕ → ℕ → ℕ → ℕ

-- Says that an array shows the picture: its axes are rows, columns and channels.
pub record Shows (m : Meaning ℕ) (p : Picture) : Type 0 where
  pub right_shape : m.shape ≡ p.height ∷ p.width ∷ p.channels ∷ []
  pub right_samples : (row column channel : ℕ) → row < p.height → column < p.width → channel < p.channels → m.at (row ∷ column ∷ channel ∷ []) ≡ Some (p.sample_at row column channel)

-- Says that the array `n` shows what `change` makes of each picture that the array `m` shows.
abbrev pub ShowsAfter : (Picture → Picture) → Meaning ℕ → Meaning ℕ → Type 0
ShowsAfter change m n = (p : Picture) → Shows m p → Shows n (change p)

-- Returns the part of `height` rows from row `top` on.
abbrev pub rows_from : ℕ → ℕ → Picture → Picture
rows_from top height p = record { height = height; width = p.width; channels = p.channels; sample_at = λ row column channel. p.sample_at (top + row) column channel }

-- Returns the part of `width` columns from column `left` on.
abbrev pub columns_from : ℕ → ℕ → Picture → Picture
columns_from left width p = record { height = p.height; width = width; channels = p.channels; sample_at = λ row column channel. p.sample_at row (left + column) channel }

-- Returns the part of `height` rows and `width` columns from row `top` and column `left` on.
abbrev pub picture_cropped : ℕ → ℕ → ℕ → ℕ → Picture → Picture
picture_cropped top left height width p = record { height = height; width = width; channels = p.channels; sample_at = λ row column channel. p.sample_at (top + row) (left + column) channel }

-- Returns the picture with its rows in the opposite order, top to bottom.
abbrev pub picture_flipped : Picture → Picture
picture_flipped p = record { height = p.height; width = p.width; channels = p.channels; sample_at = λ row column channel. p.sample_at (p.height - 1 - row) column channel }

-- Returns the picture with its columns in the opposite order, left to right.
abbrev pub picture_flopped : Picture → Picture
picture_flopped p = record { height = p.height; width = p.width; channels = p.channels; sample_at = λ row column channel. p.sample_at row (p.width - 1 - column) channel }

-- Returns the picture with rows as columns.
abbrev pub picture_transposed : Picture → Picture
picture_transposed p = record { height = p.width; width = p.height; channels = p.channels; sample_at = λ row column channel. p.sample_at column row channel }

-- Returns the picture turned clockwise by a quarter: the bottom row becomes the leftmost column.
abbrev pub picture_turned_quarter : Picture → Picture
picture_turned_quarter p = record { height = p.width; width = p.height; channels = p.channels; sample_at = λ row column channel. p.sample_at (p.height - 1 - column) row channel }

-- Returns the picture turned by a half.
abbrev pub picture_turned_half : Picture → Picture
picture_turned_half p = record { height = p.height; width = p.width; channels = p.channels; sample_at = λ row column channel. p.sample_at (p.height - 1 - row) (p.width - 1 - column) channel }

-- Returns the picture turned clockwise by three quarters: the rightmost column becomes the top row.
abbrev pub picture_turned_back : Picture → Picture
picture_turned_back p = record { height = p.width; width = p.height; channels = p.channels; sample_at = λ row column channel. p.sample_at column (p.width - 1 - row) channel }

-- Returns the quotient rounded up.
abbrev pub ceiling : ℕ → ℕ → ℕ
ceiling a b = (a + (b - 1)) / b

-- Returns the picture of every k-th row, from the first on.
abbrev pub picture_of_every_row : ℕ → Picture → Picture
picture_of_every_row k p = record { height = ceiling p.height k; width = p.width; channels = p.channels; sample_at = λ row column channel. p.sample_at (row * k) column channel }

-- Returns the picture of every k-th column, from the first on.
abbrev pub picture_of_every_column : ℕ → Picture → Picture
picture_of_every_column k p = record { height = p.height; width = ceiling p.width k; channels = p.channels; sample_at = λ row column channel. p.sample_at row (column * k) channel }

-- Returns the picture of every k-th row and every k-th column, from the first on.
abbrev pub picture_scaled_down : ℕ → Picture → Picture
picture_scaled_down k p = record { height = ceiling p.height k; width = ceiling p.width k; channels = p.channels; sample_at = λ row column channel. p.sample_at (row * k) (column * k) channel }

-- Returns the picture with each sample changed by `f`.
abbrev pub picture_changed : (ℕ → ℕ) → Picture → Picture
picture_changed f p = record { height = p.height; width = p.width; channels = p.channels; sample_at = λ row column channel. f (p.sample_at row column channel) }

-- Returns the picture with each sample as far from the maxval as it was from 0.
abbrev pub picture_inverted : ℕ → Picture → Picture
picture_inverted maxval p = picture_changed (λ sample. maxval - sample) p

-- Returns the maxval if the sample is above the limit, and otherwise 0.
abbrev pub over : ℕ → ℕ → ℕ → ℕ
over maxval limit sample = if nat_lt limit sample then maxval else 0

-- Returns the sum of a row's sample and of those to the left and to the right of it. The sample itself stands for one
-- that isn't there.
abbrev pub three_around : Picture → ℕ → ℕ → ℕ → ℕ
three_around p row column channel = p.sample_at row (column - 1) channel + p.sample_at row column channel + p.sample_at row (min (column + 1) (p.width - 1)) channel

-- Returns the mean of the nine samples around one, rounded down. The nearest sample stands for one that isn't there.
abbrev pub blurred_at : Picture → ℕ → ℕ → ℕ → ℕ
blurred_at p row column channel = (three_around p (row - 1) column channel + three_around p row column channel + three_around p (min (row + 1) (p.height - 1)) column channel) / 9

abbrev pub picture_blurred : Picture → Picture
picture_blurred p = record { height = p.height; width = p.width; channels = p.channels; sample_at = blurred_at p }

-- Returns the quotient rounded to the nearest number, and up if two are equally near.
abbrev pub rounded : ℕ → ℕ → ℕ
rounded a b = (a + b / 2) / b

-- Returns the lightness of a pixel as Netpbm weighs it. Red, green and blue make 77, 150 and 29 of 256 parts if the
-- maxval is at most 255, and 2989, 5866 and 1145 of 10000 parts if it is greater.
abbrev pub lightness : ℕ → ℕ → ℕ → ℕ → ℕ
lightness maxval red green blue = if nat_lt maxval 256 then rounded (77 * red + 150 * green + 29 * blue) 256 else rounded (2989 * red + 5866 * green + 1145 * blue) 10000

-- Returns the lightness of the pixel at a row and a column of a coloured picture.
abbrev pub lightness_at : ℕ → Picture → ℕ → ℕ → ℕ
lightness_at maxval p row column = lightness maxval (p.sample_at row column 0) (p.sample_at row column 1) (p.sample_at row column 2)

-- Returns the picture of the lightness of each pixel of a coloured picture.
abbrev pub light_of : ℕ → Picture → Picture
light_of maxval p = record { height = p.height; width = p.width; channels = 1; sample_at = λ row column channel. lightness_at maxval p row column }

-- Returns the picture without colours: that of the lightness of each pixel if there are three channels.
abbrev pub picture_grayed : ℕ → Picture → Picture
picture_grayed maxval p = if p.channels == 3 then light_of maxval p else p

-- Returns whether a coordinate is one of `size` coordinates that begin after a border.
abbrev pub within_border : ℕ → ℕ → ℕ → Bool
within_border border size at = nat_le border at && nat_lt at (border + size)

-- Returns the sample at a place of a picture that has `border` rows and columns of samples `value` around it.
abbrev pub bordered_at : ℕ → ℕ → Picture → ℕ → ℕ → ℕ → ℕ
bordered_at border value p row column channel = if within_border border p.height row && within_border border p.width column then p.sample_at (row - border) (column - border) channel else value

-- Returns the picture with `border` rows and columns of samples `value` on each side of it.
abbrev pub picture_bordered : ℕ → ℕ → Picture → Picture
picture_bordered border value p = record { height = p.height + 2 * border; width = p.width + 2 * border; channels = p.channels; sample_at = bordered_at border value p }

-- Returns the sum of the samples of a row and a channel, in the columns from `left` to before `right`.
abbrev pub row_total : Picture → ℕ → ℕ → ℕ → ℕ → ℕ
row_total p row left right channel = sum_below (λ j. p.sample_at row (left + j) channel) (right - left)

-- Returns the sum of the samples of a channel, in the rows from `top` to before `bottom` and the columns from `left` to
-- before `right`.
abbrev pub part_total : Picture → ℕ → ℕ → ℕ → ℕ → ℕ → ℕ
part_total p top bottom left right channel = sum_below (λ i. row_total p (top + i) left right channel) (bottom - top)

-- Returns where the block with this number ends, of `all` rows or columns in blocks of k: the last block may be shorter.
abbrev pub block_end : ℕ → ℕ → ℕ → ℕ
block_end k all number = min (number * k + k) all

-- Returns how many rows, or columns, this block has.
abbrev pub block_length : ℕ → ℕ → ℕ → ℕ
block_length k all number = block_end k all number - number * k

-- Returns the sum of the samples of a channel in the block at this row and column of blocks.
abbrev pub block_total : ℕ → Picture → ℕ → ℕ → ℕ → ℕ
block_total k p row column channel = part_total p (row * k) (block_end k p.height row) (column * k) (block_end k p.width column) channel

-- Returns the mean of these samples, rounded to the nearest number.
abbrev pub block_mean : ℕ → Picture → ℕ → ℕ → ℕ → ℕ
block_mean k p row column channel = rounded (block_total k p row column channel) (block_length k p.height row * block_length k p.width column)

-- Returns the picture with the mean of each block of k rows and k columns in its place.
abbrev pub picture_shrunk : ℕ → Picture → Picture
picture_shrunk k p = record { height = ceiling p.height k; width = ceiling p.width k; channels = p.channels; sample_at = block_mean k p }
