-- Rows of a raw image that are read or written a few at a time, packed or not.
use Rattle.std.proofs.Common.{◌≡◌, ◌∙◌, ℕ, zero, suc, ◌+◌, ◌-◌, ◌*◌, ◌<◌, ◌≤◌, ◌⊎◌, inl, inr, Bool, true, false, List, [], ◌∷◌, ◌++◌, length, length-append, length-drop, length-take-le, take, drop, Result, Ok, Err, refl, sym, ap, arith, append_assoc, mul_assoc, one-mul, zero-mul, add-mul, mul-le-mul_right}
use Rattle.std.specs.Prelude.{nat_lt, if◌then◌else◌}
use Rattle.std.specs.List.{flat_map}
use Rattle.std.proofs.lemmas.Bool.Decides.{nat_tests}
use Rattle.std.proofs.lemmas.List.{take_all, take-append-le, drop-append-le}
use Rattle.std.proofs.lemmas.List.Concat.{flat_map-append}
use Rattle.std.proofs.Math.Seq.{take-append-add}
use Rattle.nd_picture_text.specs.declared.image_formats.Header.{Header}
use Rattle.nd_picture_text.specs.declared.errors.ImageFlaw.{ImageFlaw}
use Rattle.nd_picture_text.specs.declared.errors.ImageFlaw.TheVariants.{TooShort}
use Rattle.nd_picture_text.specs.ImageFormatsAndHeaders.{channels_of, is_plain, is_packed}
use Rattle.nd_picture_text.specs.NumbersInImageText.{◌>>=◌}
use Rattle.nd_picture_text.specs.PackedBitmaps.{row_size, row_pixels, rows_pixels, row_text, rows_text}
use Rattle.nd_picture_text.specs.ImageReading.{ImageStop, sample_in, samples_after, samples_in, packed_in, raster_in, raw_size}
use Rattle.nd_picture_text.specs.RowwiseImageReading.{with_rows, row_samples, row_bytes, samples_of_rows, raster_rows}
use Rattle.nd_picture_text.specs.ImageWriting.{sample_text}
use Rattle.nd_picture_text.proofs.ImagesReadBack.{packed_is_grey}
use Rattle.nd_picture_text.proofs.PackedBitmapPixels.{more_rows, packed_short, packed_enough, rows_count}
use Rattle.nd_picture_text.proofs.RasterSamples.{sample_takes, size_more}
use Rattle.nd_picture_text.proofs.RawRowSamples.{after_one, samples_then, samples_bad, samples_within}

-- ---- packed pixels

-- rows of bytes that are followed by others
pixels_then : (width a b c : ℕ) (front rest : List ℕ) → c ≡ a + b → length front ≡ a * row_size width → rows_pixels width c (front ++ rest) ≡ rows_pixels width a front ++ rows_pixels width b rest
pixels_then width zero b c [] rest is size = let same : c ≡ b = omega (arith, is) in ap (λ n. rows_pixels width n rest) same
pixels_then width zero b c (f ∷ front) rest is size = absurd (omega (arith, size, zero-mul (row_size width)))
pixels_then width (suc a) b zero front rest is size = absurd (omega (arith, is))
pixels_then width (suc a) b (suc c) front rest is size =
    let n = row_size width in
    let all : length front ≡ n + a * n = size ∙ more_rows a n in
    let one : n ≤ length front = omega (arith, all) in
    let left : length (drop n front) ≡ a * n = omega (arith, length-drop n front, all) in
    let others = pixels_then width a b c (drop n front) rest (omega (arith, is)) left in
    ap (λ l. row_pixels width l ++ rows_pixels width c (drop n (front ++ rest))) (take-append-le n front rest one)
    ∙ ap (λ l. row_pixels width (take n front) ++ rows_pixels width c l) (drop-append-le n front rest one)
    ∙ ap (λ l. row_pixels width (take n front) ++ l) others
    ∙ sym (append_assoc (row_pixels width (take n front)) (rows_pixels width a (drop n front)) (rows_pixels width b rest))

packed_then : (width a b c : ℕ) (front rest : List ℕ) → c ≡ a + b → length front ≡ a * row_size width → packed_in width c (front ++ rest) ≡ samples_after (rows_pixels width a front) (packed_in width b rest)
packed_then width a b c front rest is size = by_test (nat_lt (length rest) (b * row_size width)) refl
  where
    bytes : c * row_size width ≡ length front + b * row_size width
    bytes = ap (λ n. n * row_size width) is ∙ add-mul a b (row_size width) ∙ ap (λ n. n + b * row_size width) (sym size)

    by_test : (t : Bool) → nat_lt (length rest) (b * row_size width) ≡ t → packed_in width c (front ++ rest) ≡ samples_after (rows_pixels width a front) (packed_in width b rest)
    by_test true e =
        let few : length rest < b * row_size width = grind (arith, nat_tests, e) in
        packed_short width c (front ++ rest) (omega (arith, length-append front rest, bytes, few)) ∙ sym (ap (samples_after (rows_pixels width a front)) (packed_short width b rest few))
    by_test false e =
        let many : b * row_size width ≤ length rest = grind (arith, nat_tests, e) in
        let cut : take (c * row_size width) (front ++ rest) ≡ front ++ take (b * row_size width) rest = ap (λ n. take n (front ++ rest)) bytes ∙ take-append-add front rest (b * row_size width) in
        packed_enough width c (front ++ rest) (omega (arith, length-append front rest, bytes, many))
        ∙ ap (λ l. Ok (rows_pixels width c l)) cut
        ∙ ap (λ l. Ok l) (pixels_then width a b c front (take (b * row_size width) rest) is size)
        ∙ sym (ap (samples_after (rows_pixels width a front)) (packed_enough width b rest many))

-- rows are read where their bytes are there, and else the end is missing
packed_whole : (width n : ℕ) (bs xs : List ℕ) → packed_in width n bs ≡ Ok xs → (n * row_size width ≤ length bs) × (xs ≡ rows_pixels width n (take (n * row_size width) bs))
packed_whole width n bs xs read = by_test (nat_lt (length bs) (n * row_size width)) refl
  where
    by_test : (t : Bool) → nat_lt (length bs) (n * row_size width) ≡ t → (n * row_size width ≤ length bs) × (xs ≡ rows_pixels width n (take (n * row_size width) bs))
    by_test true e =
        let few : length bs < n * row_size width = grind (arith, nat_tests, e) in
        let no : packed_in width n bs ≡ Err (0, TooShort) = packed_short width n bs few in
        absurd cc
    by_test false e =
        let many : n * row_size width ≤ length bs = grind (arith, nat_tests, e) in
        let yes : packed_in width n bs ≡ Ok (rows_pixels width n (take (n * row_size width) bs)) = packed_enough width n bs many in
        let same : xs ≡ rows_pixels width n (take (n * row_size width) bs) = cc in
        (many, same)

packed_stop : (width n : ℕ) (bs : List ℕ) (left : ℕ) (flaw : ImageFlaw) → packed_in width n bs ≡ Err (left, flaw) → (length bs < n * row_size width) × (left ≡ 0) × (flaw ≡ TooShort)
packed_stop width n bs left flaw stops = by_test (nat_lt (length bs) (n * row_size width)) refl
  where
    by_test : (t : Bool) → nat_lt (length bs) (n * row_size width) ≡ t → (length bs < n * row_size width) × (left ≡ 0) × (flaw ≡ TooShort)
    by_test true e =
        let few : length bs < n * row_size width = grind (arith, nat_tests, e) in
        let is : packed_in width n bs ≡ Err (0, TooShort) = packed_short width n bs few in
        let same : (left, flaw) ≡ (0, TooShort) = cc in
        (few, ap (λ (s : ImageStop). s.0) same, ap (λ (s : ImageStop). s.1) same)
    by_test false e =
        let many : n * row_size width ≤ length bs = grind (arith, nat_tests, e) in
        let no : packed_in width n bs ≡ Ok (rows_pixels width n (take (n * row_size width) bs)) = packed_enough width n bs many in
        absurd cc

-- ---- the number of rows doesn't matter to a sample

same_sample : (h : Header) (count : ℕ) (bs : List ℕ) → sample_in (with_rows count h) bs ≡ sample_in h bs
unfolding sample_in
same_sample h count bs = refl

same_samples : (h : Header) (count n : ℕ) (bs : List ℕ) → samples_in (with_rows count h) n bs ≡ samples_in h n bs
same_samples h count zero bs = refl
same_samples h count (suc n) bs =
    ap (λ (r : Result (ℕ × List ℕ) ImageStop). r >>= λ x. samples_after (x.0 ∷ []) (samples_in (with_rows count h) n x.1)) (same_sample h count bs) ∙ by_result (sample_in h bs) (same_samples h count n)
  where
    by_result : (r : Result (ℕ × List ℕ) ImageStop) → ((l : List ℕ) → samples_in (with_rows count h) n l ≡ samples_in h n l)
        → (r >>= λ x. samples_after (x.0 ∷ []) (samples_in (with_rows count h) n x.1)) ≡ (r >>= λ x. samples_after (x.0 ∷ []) (samples_in h n x.1))
    by_result (Ok x) same = ap (samples_after (x.0 ∷ [])) (same x.1)
    by_result (Err stop) same = refl

-- ---- samples of bytes

size_zero : (maxval : ℕ) → raw_size maxval 0 ≡ 0
size_zero maxval = by_test (nat_lt maxval 256)
  where
    by_test : (t : Bool) → (if t then 0 else 0 * 2) ≡ 0
    by_test true = refl
    by_test false = refl

-- samples that were read had their bytes, and are so many
samples_whole : (h : Header) (raw : is_plain h.kind ≡ false) (n : ℕ) (bs xs : List ℕ) → samples_in h n bs ≡ Ok xs → (raw_size h.maxval n ≤ length bs) × (length xs ≡ n)
samples_whole h raw zero bs xs read = let none : [] ≡ xs = cc in (omega (arith, size_zero h.maxval), sym (ap length none))
samples_whole h raw (suc n) bs xs read = by_result (sample_in h bs) refl (samples_whole h raw n)
  where
    by_result : (r : Result (ℕ × List ℕ) ImageStop) → sample_in h bs ≡ r → ((bs xs : List ℕ) → samples_in h n bs ≡ Ok xs → (raw_size h.maxval n ≤ length bs) × (length xs ≡ n)) → (raw_size h.maxval (suc n) ≤ length bs) × (length xs ≡ suc n)
    by_result (Ok x) e others =
        let first : samples_after (x.0 ∷ []) (samples_in h n x.1) ≡ Ok xs = sym (ap (λ (r : Result (ℕ × List ℕ) ImageStop). r >>= λ x. samples_after (x.0 ∷ []) (samples_in h n x.1)) e) ∙ read in
        let left = after_one x.0 (samples_in h n x.1) xs first in
        let fewer : suc n - 1 ≡ n = omega arith in
        let sizes = size_more h.maxval (suc n) (omega arith) ∙ ap (λ n. raw_size h.maxval 1 + raw_size h.maxval n) fewer in
        let takes = sample_takes h bs x.1 x.0 raw e in
        let rests = others x.1 left.0 left.1 in
        (omega (arith, sizes, takes, rests.0), ap length left.2 ∙ ap suc rests.1)
    by_result (Err stop) e others =
        let no : samples_in h (suc n) bs ≡ Err stop = ap (λ (r : Result (ℕ × List ℕ) ImageStop). r >>= λ x. samples_after (x.0 ∷ []) (samples_in h n x.1)) e in
        absurd cc

-- ---- rows of either

pub more_samples : (h : Header) (n k : ℕ) → row_samples h (n + k) ≡ row_samples h n + row_samples h k
more_samples h n k = grind arith

pub no_samples : (h : Header) → row_samples h 0 ≡ 0
no_samples h = ap (λ n. n * channels_of h.kind) (zero-mul h.width) ∙ zero-mul (channels_of h.kind)

packed_samples : (h : Header) (n : ℕ) → is_packed h.kind ≡ true → row_samples h n ≡ n * h.width
packed_samples h n e = let one : n * h.width * 1 ≡ n * h.width = omega arith in ap (λ k. n * h.width * k) (packed_is_grey h.kind e) ∙ one

-- what the rows are of a packed image, and of another one
module _ (h : Header) (n : ℕ) where
  packed_rows : (bs : List ℕ) → is_packed h.kind ≡ true → samples_of_rows h n bs ≡ packed_in h.width n bs
  unfolding raster_in
  packed_rows bs e = ap (λ (t : Bool). if t then packed_in h.width n bs else samples_in (with_rows n h) (row_samples h n) bs) e

  pub samples_rows : (bs : List ℕ) → is_packed h.kind ≡ false → samples_of_rows h n bs ≡ samples_in h (row_samples h n) bs
  unfolding raster_in
  samples_rows bs e = ap (λ (t : Bool). if t then packed_in h.width n bs else samples_in (with_rows n h) (row_samples h n) bs) e ∙ same_samples h n (row_samples h n) bs

  packed_bytes : is_packed h.kind ≡ true → row_bytes h n ≡ n * row_size h.width
  packed_bytes e = ap (λ (t : Bool). if t then n * row_size h.width else raw_size h.maxval (row_samples h n)) e

  samples_bytes : is_packed h.kind ≡ false → row_bytes h n ≡ raw_size h.maxval (row_samples h n)
  samples_bytes e = ap (λ (t : Bool). if t then n * row_size h.width else raw_size h.maxval (row_samples h n)) e

  packed_written : (xs : List ℕ) → is_packed h.kind ≡ true → raster_rows h n xs ≡ rows_text h.width n xs
  packed_written xs e = ap (λ (t : Bool). if t then rows_text h.width n xs else flat_map (sample_text h) xs) e

  samples_written : (xs : List ℕ) → is_packed h.kind ≡ false → raster_rows h n xs ≡ flat_map (sample_text h) xs
  samples_written xs e = ap (λ (t : Bool). if t then rows_text h.width n xs else flat_map (sample_text h) xs) e

pub samples_by_row : (h : Header) (count : ℕ) → row_samples h count ≡ count * row_samples h 1
samples_by_row h count = mul_assoc count h.width (channels_of h.kind) ∙ ap (λ n. count * (n * channels_of h.kind)) (sym (one-mul h.width))

-- the bytes of so many rows
pub rows_bytes : (h : Header) (count : ℕ) → row_bytes h count ≡ count * row_bytes h 1
rows_bytes h count = by_kind (is_packed h.kind) refl
  where
    by_test : (t : Bool) → (if t then count * row_samples h 1 else count * row_samples h 1 * 2) ≡ count * (if t then row_samples h 1 else row_samples h 1 * 2)
    by_test true = refl
    by_test false = mul_assoc count (row_samples h 1) 2

    by_kind : (t : Bool) → is_packed h.kind ≡ t → row_bytes h count ≡ count * row_bytes h 1
    by_kind true e = packed_bytes h count e ∙ ap (λ n. count * n) (sym (one-mul (row_size h.width)) ∙ sym (packed_bytes h 1 e))
    by_kind false e = samples_bytes h count e ∙ ap (raw_size h.maxval) (samples_by_row h count) ∙ by_test (nat_lt h.maxval 256) ∙ ap (λ n. count * n) (sym (samples_bytes h 1 e))

pub more_bytes : (h : Header) (n k : ℕ) → row_bytes h (n + k) ≡ row_bytes h n + row_bytes h k
more_bytes h n k = rows_bytes h (n + k) ∙ add-mul n k (row_bytes h 1) ∙ (λ i. sym (rows_bytes h n) i + sym (rows_bytes h k) i)

pub no_bytes : (h : Header) → row_bytes h 0 ≡ 0
no_bytes h = rows_bytes h 0 ∙ zero-mul (row_bytes h 1)

module _ (h : Header) (raw : is_plain h.kind ≡ false) where
  -- rows that were read had their bytes, and so many samples
  pub rows_whole : (n : ℕ) (bs xs : List ℕ) → samples_of_rows h n bs ≡ Ok xs → (row_bytes h n ≤ length bs) × (length xs ≡ row_samples h n)
  rows_whole n bs xs read = by_kind (is_packed h.kind) refl
    where
      by_kind : (t : Bool) → is_packed h.kind ≡ t → (row_bytes h n ≤ length bs) × (length xs ≡ row_samples h n)
      by_kind true e =
          let whole = packed_whole h.width n bs xs (sym (packed_rows h n bs e) ∙ read) in
          let cut = length-take-le (n * row_size h.width) bs whole.0 in
          (omega (arith, packed_bytes h n e, whole.0), ap length whole.1 ∙ rows_count h.width n (take (n * row_size h.width) bs) cut ∙ sym (packed_samples h n e))
      by_kind false e =
          let whole = samples_whole h raw (row_samples h n) bs xs (sym (samples_rows h n bs e) ∙ read) in
          (omega (arith, samples_bytes h n e, whole.0), whole.1)

  -- rows that take all of some bytes, and then those of the bytes after these
  pub rows_then : (a b c : ℕ) (front rest xs : List ℕ) → c ≡ a + b → length front ≡ row_bytes h a → samples_of_rows h a front ≡ Ok xs → samples_of_rows h c (front ++ rest) ≡ samples_after xs (samples_of_rows h b rest)
  rows_then a b c front rest xs is size read = by_kind (is_packed h.kind) refl
    where
      by_kind : (t : Bool) → is_packed h.kind ≡ t → samples_of_rows h c (front ++ rest) ≡ samples_after xs (samples_of_rows h b rest)
      by_kind true e =
          let long : length front ≡ a * row_size h.width = size ∙ packed_bytes h a e in
          let whole = packed_whole h.width a front xs (sym (packed_rows h a front e) ∙ read) in
          let all : xs ≡ rows_pixels h.width a front = whole.1 ∙ ap (rows_pixels h.width a) (take_all (a * row_size h.width) front (omega (arith, long))) in
          packed_rows h c (front ++ rest) e ∙ packed_then h.width a b c front rest is long ∙ (λ i. samples_after (sym all i) (sym (packed_rows h b rest e) i))
      by_kind false e =
          let samples : row_samples h c ≡ row_samples h a + row_samples h b = ap (row_samples h) is ∙ more_samples h a b in
          samples_rows h c (front ++ rest) e ∙ samples_then h raw (row_samples h a) (row_samples h b) (row_samples h c) front rest xs samples (size ∙ samples_bytes h a e) (sym (samples_rows h a front e) ∙ read)
          ∙ ap (samples_after xs) (sym (samples_rows h b rest e))

  fewer_samples : (a c : ℕ) → a ≤ c → row_samples h a ≤ row_samples h c
  fewer_samples a c few = mul-le-mul_right (channels_of h.kind) (mul-le-mul_right h.width few)

  -- a stop in the bytes of so many rows, or at the end, is one of more rows
  pub rows_bad : (a c : ℕ) (front more : List ℕ) (left : ℕ) (flaw : ImageFlaw) → a ≤ c → (row_bytes h a ≤ length front) ⊎ (more ≡ []) → samples_of_rows h a front ≡ Err (left, flaw) → samples_of_rows h c (front ++ more) ≡ Err (left + length more, flaw)
  rows_bad a c front more left flaw fewer enough stops = by_kind (is_packed h.kind) refl enough
    where
      by_kind : (t : Bool) → is_packed h.kind ≡ t → (row_bytes h a ≤ length front) ⊎ (more ≡ []) → samples_of_rows h c (front ++ more) ≡ Err (left + length more, flaw)
      by_kind true e (inl all) =
          let stop = packed_stop h.width a front left flaw (sym (packed_rows h a front e) ∙ stops) in
          absurd (omega (arith, all, packed_bytes h a e, stop.0))
      by_kind true e (inr none) =
          let stop = packed_stop h.width a front left flaw (sym (packed_rows h a front e) ∙ stops) in
          let rows : a * row_size h.width ≤ c * row_size h.width = mul-le-mul_right (row_size h.width) fewer in
          let short : length (front ++ more) < c * row_size h.width = omega (arith, length-append front more, ap length none, rows, stop.0) in
          let here : 0 ≡ left + length more = omega (arith, stop.1, ap length none) in
          packed_rows h c (front ++ more) e ∙ packed_short h.width c (front ++ more) short ∙ (λ i. Err (here i, sym stop.2 i))
      by_kind false e (inl all) =
          let some : raw_size h.maxval (row_samples h a) ≤ length front = omega (arith, all, samples_bytes h a e) in
          samples_rows h c (front ++ more) e ∙ samples_bad h raw (row_samples h a) (row_samples h c) front more left flaw (fewer_samples a c fewer) (inl some) (sym (samples_rows h a front e) ∙ stops)
      by_kind false e (inr none) = samples_rows h c (front ++ more) e ∙ samples_bad h raw (row_samples h a) (row_samples h c) front more left flaw (fewer_samples a c fewer) (inr none) (sym (samples_rows h a front e) ∙ stops)

  -- no more bytes are left at a stop than there are
  pub rows_within : (n : ℕ) (front : List ℕ) (left : ℕ) (flaw : ImageFlaw) → samples_of_rows h n front ≡ Err (left, flaw) → left ≤ length front
  rows_within n front left flaw stops = by_kind (is_packed h.kind) refl
    where
      by_kind : (t : Bool) → is_packed h.kind ≡ t → left ≤ length front
      by_kind true e = let stop = packed_stop h.width n front left flaw (sym (packed_rows h n front e) ∙ stops) in omega (arith, stop.1)
      by_kind false e = samples_within h raw (row_samples h n) front left flaw (sym (samples_rows h n front e) ∙ stops)

-- no rows
pub rows_none : (h : Header) (bs : List ℕ) → samples_of_rows h 0 bs ≡ Ok []
rows_none h bs = by_kind (is_packed h.kind) refl
  where
    by_kind : (t : Bool) → is_packed h.kind ≡ t → samples_of_rows h 0 bs ≡ Ok []
    by_kind true e =
        let none : 0 * row_size h.width ≡ 0 = zero-mul (row_size h.width) in
        packed_rows h 0 bs e ∙ packed_enough h.width 0 bs (omega (arith, none))
    by_kind false e = samples_rows h 0 bs e ∙ ap (λ n. samples_in h n bs) (no_samples h)

-- ---- rows that are written

text_then : (width a b c : ℕ) (xs ys : List ℕ) → c ≡ a + b → length xs ≡ a * width → rows_text width c (xs ++ ys) ≡ rows_text width a xs ++ rows_text width b ys
text_then width zero b c [] ys is size = let same : c ≡ b = omega (arith, is) in ap (λ n. rows_text width n ys) same
text_then width zero b c (x ∷ xs) ys is size = absurd (omega (arith, size, zero-mul width))
text_then width (suc a) b zero xs ys is size = absurd (omega (arith, is))
text_then width (suc a) b (suc c) xs ys is size =
    let n = row_size width in
    let all : length xs ≡ width + a * width = size ∙ more_rows a width in
    let one : width ≤ length xs = omega (arith, all) in
    let left : length (drop width xs) ≡ a * width = omega (arith, length-drop width xs, all) in
    let others = text_then width a b c (drop width xs) ys (omega (arith, is)) left in
    ap (λ l. row_text n l ++ rows_text width c (drop width (xs ++ ys))) (take-append-le width xs ys one)
    ∙ ap (λ l. row_text n (take width xs) ++ rows_text width c l) (drop-append-le width xs ys one)
    ∙ ap (λ l. row_text n (take width xs) ++ l) others
    ∙ sym (append_assoc (row_text n (take width xs)) (rows_text width a (drop width xs)) (rows_text width b ys))

-- rows that are written one after another are written together
pub written_then : (h : Header) (a b c : ℕ) (xs ys : List ℕ) → c ≡ a + b → length xs ≡ row_samples h a → raster_rows h c (xs ++ ys) ≡ raster_rows h a xs ++ raster_rows h b ys
written_then h a b c xs ys is size = by_kind (is_packed h.kind) refl
  where
    by_kind : (t : Bool) → is_packed h.kind ≡ t → raster_rows h c (xs ++ ys) ≡ raster_rows h a xs ++ raster_rows h b ys
    by_kind true e = packed_written h c (xs ++ ys) e ∙ text_then h.width a b c xs ys is (size ∙ packed_samples h a e) ∙ (λ i. sym (packed_written h a xs e) i ++ sym (packed_written h b ys e) i)
    by_kind false e = samples_written h c (xs ++ ys) e ∙ flat_map-append (sample_text h) xs ys ∙ (λ i. sym (samples_written h a xs e) i ++ sym (samples_written h b ys e) i)

pub written_none : (h : Header) → raster_rows h 0 [] ≡ []
written_none h = by_kind (is_packed h.kind) refl
  where
    by_kind : (t : Bool) → is_packed h.kind ≡ t → raster_rows h 0 [] ≡ []
    by_kind true e = packed_written h 0 [] e
    by_kind false e = samples_written h 0 [] e
