-- Packed bitmaps: a byte is eight pixels, from the most significant bit on, and each row begins with a new byte. A bit
-- that is 1 is black, which is the sample 0.
use Rattle.std.specs.Prelude.{ℕ, zero, suc, ◌+◌, ◌-◌, ◌*◌, ◌/◌, ◌%◌, ◌==◌, min, List, [], ◌∷◌, ◌++◌, take, drop, if◌then◌else◌}

-- Returns how many bytes a row of so many pixels takes.
abbrev pub row_size : ℕ → ℕ
row_size width = (width + 7) / 8

-- Returns the first pixels of a byte, so many.
abbrev pub pixels_of : ℕ → ℕ → List ℕ
pixels_of zero b = []
pixels_of (suc count) b = (1 - b / 128) ∷ pixels_of count (b % 128 * 2)

-- Returns the pixels of a row of these bytes. The bits after the last pixel mean nothing.
abbrev pub row_pixels : ℕ → List ℕ → List ℕ
row_pixels width [] = []
row_pixels width (b ∷ bs) = pixels_of (min width 8) b ++ row_pixels (width - 8) bs

-- Returns the pixels of so many rows.
abbrev pub rows_pixels : ℕ → ℕ → List ℕ → List ℕ
rows_pixels width zero bytes = []
rows_pixels width (suc height) bytes = row_pixels width (take (row_size width) bytes) ++ rows_pixels width height (drop (row_size width) bytes)

-- Returns the byte that has a bit for each pixel, the first of which is worth `weight`.
abbrev pub packed_byte : ℕ → List ℕ → ℕ
packed_byte weight [] = 0
packed_byte weight (x ∷ xs) = (if x == 0 then weight else 0) + packed_byte (weight / 2) xs

-- Returns the bytes of a row, so many. The last bits are 0 where there are no more pixels.
abbrev pub row_text : ℕ → List ℕ → List ℕ
row_text zero xs = []
row_text (suc size) xs = packed_byte 128 (take 8 xs) ∷ row_text size (drop 8 xs)

-- Returns the bytes of so many rows of `width` pixels each.
abbrev pub rows_text : ℕ → ℕ → List ℕ → List ℕ
rows_text width zero xs = []
rows_text width (suc height) xs = row_text (row_size width) (take width xs) ++ rows_text width height (drop width xs)
