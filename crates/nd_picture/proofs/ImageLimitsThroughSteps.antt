-- A picture that an image can have stays one through the steps, and what has its samples is a whole image.
use Rattle.std.proofs.Common.{◌≡◌, ◌∙◌, ℕ, zero, suc, ◌+◌, ◌-◌, ◌*◌, ◌/◌, ◌%◌, ◌<◌, ◌≤◌, Bool, true, false, cond, List, [], ◌∷◌, length, get_or, Ok, Err, Some, refl, sym, ap, subst, arith}
use Rattle.std.specs.Prelude.{◌&&◌, ◌==◌, nat_le, nat_lt, slice_get, min}
use Rattle.std.proofs.Math.Nat.{mul-le-mul_right}
use Rattle.std.proofs.lemmas.Nat.{div-add-mod', div_below, le-div, mod_below}
use Rattle.std.proofs.lemmas.Bool.Decides.{nat_tests}
use Rattle.std.proofs.lemmas.Option.{get_or_from_slice_get}
use Rattle.nd_array_core.specs.ArrayMeaning.{Meaning}
use Rattle.nd_picture_text.specs.declared.image_formats.Kind.{Kind}
use Rattle.nd_picture_text.specs.declared.image_formats.Kind.TheVariants.{PlainBitmap, PlainGrey, PlainColour, RawBitmap, RawGrey, RawColour}
use Rattle.nd_picture_text.specs.declared.image_formats.Header.{Header}
use Rattle.nd_picture_text.specs.declared.step.Step.{Step}
use Rattle.nd_picture_text.specs.declared.step.Step.TheVariants.{Crop, Flip, Flop, RotateQuarter, RotateHalf, RotateBack, Transpose, ScaleDown, Threshold, Invert, Blur, Gray, Border, Shrink, Plain, Raw}
use Rattle.nd_picture_text.specs.ImageFormatsAndHeaders.{Pixmap, IsHeader, IsWholeImage, channels_of, is_bitmap, gray_kind, plain_kind, raw_kind, sample_count}
use Rattle.nd_picture.specs.PictureSampleLists.{picture_in, sample_number, IsImageOf, FitsImage}
use Rattle.nd_picture.specs.PictureChanges.{Picture, Shows, ceiling, picture_cropped, picture_scaled_down, picture_changed, picture_blurred, picture_grayed, picture_bordered, picture_shrunk, within_border, rounded, lightness, light_of, over, three_around}
use Rattle.nd_picture.specs.StepListResults.{lie_within, is_within_limit, fits, picture_after, kind_after, kind_after_each, header_after, after_all, StillFits}
use Rattle.nd_picture.proofs.BlockMeans.{ceiling_low, block_begins, block_low}

-- ---- numbers

pub both : (a b : Bool) → (a && b) ≡ true → (a ≡ true) × (b ≡ true)
both true b e = (refl, e)
both false b e = absurd cc

-- the row of a place, and the place of a row and a column
pub below_rows : (n k size r : ℕ) → r < n → k < size → r * size + k < n * size
below_rows n k size r h less =
    let more : (r + 1) * size ≤ n * size = mul-le-mul_right size (omega (arith, h)) in
    omega (arith, more, less)

some_factor : (k b c : ℕ) → k < b * c → 0 < c
some_factor k b zero h = absurd (omega (arith, h))
some_factor k b (suc c) h = omega arith

some_ceiling : (n k : ℕ) → 0 < n → 0 < k → 0 < ceiling n k
some_ceiling n k some factor = le-div 1 (n + (k - 1)) k factor (omega (arith, some, factor))

-- ---- steps

module _ (maxval channels : ℕ) (p : Picture) (limits : FitsImage maxval channels p) where
  crop_fits : (top left height width : ℕ) → (lie_within top height p.height && lie_within left width p.width) ≡ true → FitsImage maxval channels (picture_cropped top left height width p)
  crop_fits top left height width e =
      let parts = both (lie_within top height p.height) (lie_within left width p.width) e in
      let rows = both (nat_lt 0 height) _ parts.0 in
      let columns = both (nat_lt 0 width) _ parts.1 in
      let some_rows : 0 < height = grind (arith, nat_tests, rows.0) in
      let few_rows : top + height ≤ p.height = grind (arith, nat_tests, rows.1) in
      let some_columns : 0 < width = grind (arith, nat_tests, columns.0) in
      let few_columns : left + width ≤ p.width = grind (arith, nat_tests, columns.1) in
      record {
        rows_allowed = (some_rows, omega (arith, few_rows, limits.rows_allowed));
        columns_allowed = (some_columns, omega (arith, few_columns, limits.columns_allowed));
        channels_allowed = limits.channels_allowed;
        samples_allowed = λ row column channel a b c. limits.samples_allowed (top + row) (left + column) channel (omega (arith, a, few_rows)) (omega (arith, b, few_columns)) c;
      }

  scale_fits : (k : ℕ) → 0 < k → FitsImage maxval channels (picture_scaled_down k p)
  scale_fits k some = record {
    rows_allowed = (some_ceiling p.height k limits.rows_allowed.0 some, omega (arith, ceiling_low p.height k some, limits.rows_allowed.1));
    columns_allowed = (some_ceiling p.width k limits.columns_allowed.0 some, omega (arith, ceiling_low p.width k some, limits.columns_allowed.1));
    channels_allowed = limits.channels_allowed;
    samples_allowed = λ row column channel a b c. limits.samples_allowed (row * k) (column * k) channel (block_begins p.height k row some a) (block_begins p.width k column some b) c;
  }

  change_fits : (f : ℕ → ℕ) → ((sample : ℕ) → sample ≤ maxval → f sample ≤ maxval) → FitsImage maxval channels (picture_changed f p)
  change_fits f low = record {
    rows_allowed = limits.rows_allowed;
    columns_allowed = limits.columns_allowed;
    channels_allowed = limits.channels_allowed;
    samples_allowed = λ row column channel a b c. low (p.sample_at row column channel) (limits.samples_allowed row column channel a b c);
  }

  over_low : (limit sample : ℕ) → over maxval limit sample ≤ maxval
  over_low limit sample = by_test (nat_lt limit sample)
    where
      by_test : (t : Bool) → cond t maxval 0 ≤ maxval
      by_test true = omega arith
      by_test false = omega arith

  three_low : (row column channel : ℕ) → row < p.height → column < p.width → channel < p.channels → three_around p row column channel ≤ 3 * maxval
  three_low row column channel a b c =
      let one = limits.samples_allowed row (column - 1) channel a (omega (arith, b)) c in
      let two = limits.samples_allowed row column channel a b c in
      let three = limits.samples_allowed row (min (column + 1) (p.width - 1)) channel a (omega (arith, b)) c in
      omega (arith, one, two, three)

  blur_fits : FitsImage maxval channels (picture_blurred p)
  blur_fits = record {
    rows_allowed = limits.rows_allowed;
    columns_allowed = limits.columns_allowed;
    channels_allowed = limits.channels_allowed;
    samples_allowed = λ row column channel a b c.
        (let one = three_low (row - 1) column channel (omega (arith, a)) b c in
        let two = three_low row column channel a b c in
        let three = three_low (min (row + 1) (p.height - 1)) column channel (omega (arith, a)) b c in
        omega (arith, one, two, three));
  }

  -- the border's samples, and those within it
  border_fits : (border value : ℕ) → (nat_le value maxval && (is_within_limit border p.height && is_within_limit border p.width)) ≡ true → FitsImage maxval channels (picture_bordered border value p)
  border_fits border value e =
      let parts = both (nat_le value maxval) _ e in
      let sides = both (is_within_limit border p.height) (is_within_limit border p.width) parts.1 in
      let low : value ≤ maxval = grind (arith, nat_tests, parts.0) in
      let few_rows : p.height + 2 * border ≤ 1000000000 = grind (arith, nat_tests, sides.0) in
      let few_columns : p.width + 2 * border ≤ 1000000000 = grind (arith, nat_tests, sides.1) in
      record {
        rows_allowed = (omega (arith, limits.rows_allowed.0), few_rows);
        columns_allowed = (omega (arith, limits.columns_allowed.0), few_columns);
        channels_allowed = limits.channels_allowed;
        samples_allowed = λ row column channel a b c. by_tests row column channel c low (within_border border p.height row) (within_border border p.width column) refl refl;
      }
    where
      by_tests : (row column channel : ℕ) → channel < p.channels → value ≤ maxval → (r s : Bool) → within_border border p.height row ≡ r → within_border border p.width column ≡ s → cond (r && s) (p.sample_at (row - border) (column - border) channel) value ≤ maxval
      by_tests row column channel c low false s e f = low
      by_tests row column channel c low true false e f = low
      by_tests row column channel c low true true e f =
          let above = both (nat_le border row) (nat_lt row (border + p.height)) e in
          let before = both (nat_le border column) (nat_lt column (border + p.width)) f in
          let r : row - border < p.height = grind (arith, nat_tests, above.0, above.1) in
          let s : column - border < p.width = grind (arith, nat_tests, before.0, before.1) in
          limits.samples_allowed (row - border) (column - border) channel r s c

  shrink_fits : (k : ℕ) → 0 < k → FitsImage maxval channels (picture_shrunk k p)
  shrink_fits k some = record {
    rows_allowed = (some_ceiling p.height k limits.rows_allowed.0 some, omega (arith, ceiling_low p.height k some, limits.rows_allowed.1));
    columns_allowed = (some_ceiling p.width k limits.columns_allowed.0 some, omega (arith, ceiling_low p.width k some, limits.columns_allowed.1));
    channels_allowed = limits.channels_allowed;
    samples_allowed = λ row column channel a b c. block_low maxval k p row column channel (λ i j h l. limits.samples_allowed i j channel h l c) some (block_begins p.height k row some a) (block_begins p.width k column some b);
  }

-- without colours
lightness_low : (maxval red green blue : ℕ) → red ≤ maxval → green ≤ maxval → blue ≤ maxval → lightness maxval red green blue ≤ maxval
lightness_low maxval red green blue a b c = by_test (nat_lt maxval 256)
  where
    by_test : (t : Bool) → cond t (rounded (77 * red + 150 * green + 29 * blue) 256) (rounded (2989 * red + 5866 * green + 1145 * blue) 10000) ≤ maxval
    by_test true = omega (arith, a, b, c)
    by_test false = omega (arith, a, b, c)

light_fits : (maxval : ℕ) (p : Picture) → FitsImage maxval 3 p → FitsImage maxval 1 (light_of maxval p)
light_fits maxval p limits = record {
  rows_allowed = limits.rows_allowed;
  columns_allowed = limits.columns_allowed;
  channels_allowed = refl;
  samples_allowed = λ row column channel a b c.
      (let red = limits.samples_allowed row column 0 a b (omega (arith, limits.channels_allowed)) in
      let green = limits.samples_allowed row column 1 a b (omega (arith, limits.channels_allowed)) in
      let blue = limits.samples_allowed row column 2 a b (omega (arith, limits.channels_allowed)) in
      lightness_low maxval _ _ _ red green blue);
}

colours_taken : (maxval : ℕ) (p : Picture) → FitsImage maxval 3 p → FitsImage maxval 1 (picture_grayed maxval p)
colours_taken maxval p limits =
    let test : (p.channels == 3) ≡ true = ap (λ k. k == 3) limits.channels_allowed in
    subst (λ t. FitsImage maxval 1 (cond t (light_of maxval p) p)) (sym test) (light_fits maxval p limits)

no_colours : (maxval : ℕ) (p : Picture) → FitsImage maxval 1 p → FitsImage maxval 1 (picture_grayed maxval p)
no_colours maxval p limits =
    let test : (p.channels == 3) ≡ false = ap (λ k. k == 3) limits.channels_allowed in
    subst (λ t. FitsImage maxval 1 (cond t (light_of maxval p) p)) (sym test) limits

gray_fits : (maxval : ℕ) (kind : Kind) (p : Picture) → FitsImage maxval (channels_of kind) p → FitsImage maxval (channels_of (gray_kind kind)) (picture_grayed maxval p)
gray_fits maxval PlainBitmap p limits = no_colours maxval p limits
gray_fits maxval PlainGrey p limits = no_colours maxval p limits
gray_fits maxval PlainColour p limits = colours_taken maxval p limits
gray_fits maxval RawBitmap p limits = no_colours maxval p limits
gray_fits maxval RawGrey p limits = no_colours maxval p limits
gray_fits maxval RawColour p limits = colours_taken maxval p limits

-- digits and bytes have as many channels
pub plain_channels : (kind : Kind) → channels_of kind ≡ channels_of (plain_kind kind)
plain_channels PlainBitmap = refl
plain_channels PlainGrey = refl
plain_channels PlainColour = refl
plain_channels RawBitmap = refl
plain_channels RawGrey = refl
plain_channels RawColour = refl

pub raw_channels : (kind : Kind) → channels_of kind ≡ channels_of (raw_kind kind)
raw_channels PlainBitmap = refl
raw_channels PlainGrey = refl
raw_channels PlainColour = refl
raw_channels RawBitmap = refl
raw_channels RawGrey = refl
raw_channels RawColour = refl

module _ (maxval : ℕ) (kind : Kind) (p : Picture) (limits : FitsImage maxval (channels_of kind) p) where
  step_fits : (step : Step) → fits maxval step p.height p.width ≡ true → FitsImage maxval (channels_of (kind_after step kind)) (picture_after maxval step p)
  step_fits (Crop top left height width) e = crop_fits maxval (channels_of kind) p limits top left height width e
  step_fits Flip e = record { rows_allowed = limits.rows_allowed; columns_allowed = limits.columns_allowed; channels_allowed = limits.channels_allowed; samples_allowed = λ row column channel a b c. limits.samples_allowed (p.height - 1 - row) column channel (omega (arith, a)) b c }
  step_fits Flop e = record { rows_allowed = limits.rows_allowed; columns_allowed = limits.columns_allowed; channels_allowed = limits.channels_allowed; samples_allowed = λ row column channel a b c. limits.samples_allowed row (p.width - 1 - column) channel a (omega (arith, b)) c }
  step_fits RotateQuarter e = record { rows_allowed = limits.columns_allowed; columns_allowed = limits.rows_allowed; channels_allowed = limits.channels_allowed; samples_allowed = λ row column channel a b c. limits.samples_allowed (p.height - 1 - column) row channel (omega (arith, b)) a c }
  step_fits RotateHalf e = record { rows_allowed = limits.rows_allowed; columns_allowed = limits.columns_allowed; channels_allowed = limits.channels_allowed; samples_allowed = λ row column channel a b c. limits.samples_allowed (p.height - 1 - row) (p.width - 1 - column) channel (omega (arith, a)) (omega (arith, b)) c }
  step_fits RotateBack e = record { rows_allowed = limits.columns_allowed; columns_allowed = limits.rows_allowed; channels_allowed = limits.channels_allowed; samples_allowed = λ row column channel a b c. limits.samples_allowed column (p.width - 1 - row) channel b (omega (arith, a)) c }
  step_fits Transpose e = record { rows_allowed = limits.columns_allowed; columns_allowed = limits.rows_allowed; channels_allowed = limits.channels_allowed; samples_allowed = λ row column channel a b c. limits.samples_allowed column row channel b a c }
  step_fits (ScaleDown k) e = scale_fits maxval (channels_of kind) p limits k (let some = both (nat_lt 0 k) _ e in grind (arith, nat_tests, some.0))
  step_fits (Threshold limit) e = change_fits maxval (channels_of kind) p limits (over maxval limit) (λ sample h. over_low maxval (channels_of kind) p limits limit sample)
  step_fits Invert e = change_fits maxval (channels_of kind) p limits (λ sample. maxval - sample) (λ sample h. omega arith)
  step_fits Blur e = blur_fits maxval (channels_of kind) p limits
  step_fits Gray e = gray_fits maxval kind p limits
  step_fits (Border border value) e = border_fits maxval (channels_of kind) p limits border value e
  step_fits (Shrink k) e = shrink_fits maxval (channels_of kind) p limits k (let some = both (nat_lt 0 k) _ e in grind (arith, nat_tests, some.0))
  step_fits Plain e = subst (λ channels. FitsImage maxval channels p) (plain_channels kind) limits
  step_fits Raw e = subst (λ channels. FitsImage maxval channels p) (raw_channels kind) limits

-- all steps in turn
pub steps_fit : (maxval number : ℕ) (steps : List Step) (kind : Kind) (p q : Picture) → after_all maxval number steps p ≡ Ok q → FitsImage maxval (channels_of kind) p → FitsImage maxval (channels_of (kind_after_each steps kind)) q
steps_fit maxval number [] kind p q is limits = let same : p ≡ q = cc in subst (FitsImage maxval (channels_of kind)) same limits
steps_fit maxval number (step ∷ steps) kind p q is limits = by_test (fits maxval step p.height p.width) refl is (steps_fit maxval (number + 1) steps (kind_after step kind) (picture_after maxval step p) q)
  where
    by_test : (t : Bool) → fits maxval step p.height p.width ≡ t → cond t (after_all maxval (number + 1) steps (picture_after maxval step p)) (Err (number, step)) ≡ Ok q
        → (after_all maxval (number + 1) steps (picture_after maxval step p) ≡ Ok q → FitsImage maxval (channels_of (kind_after step kind)) (picture_after maxval step p) → FitsImage maxval (channels_of (kind_after_each steps (kind_after step kind))) q)
        → FitsImage maxval (channels_of (kind_after_each steps (kind_after step kind))) q
    by_test true e taken others = others taken (step_fits maxval kind p limits step e)
    by_test false e taken others = absurd cc

-- a bitmap stays one
bits_after : (step : Step) (kind : Kind) → is_bitmap (kind_after step kind) ≡ is_bitmap kind
bits_after (Crop top left height width) kind = refl
bits_after Flip kind = refl
bits_after Flop kind = refl
bits_after RotateQuarter kind = refl
bits_after RotateHalf kind = refl
bits_after RotateBack kind = refl
bits_after Transpose kind = refl
bits_after (ScaleDown k) kind = refl
bits_after (Threshold limit) kind = refl
bits_after Invert kind = refl
bits_after Blur kind = refl
bits_after Gray PlainBitmap = refl
bits_after Gray PlainGrey = refl
bits_after Gray PlainColour = refl
bits_after Gray RawBitmap = refl
bits_after Gray RawGrey = refl
bits_after Gray RawColour = refl
bits_after (Border border value) kind = refl
bits_after (Shrink k) kind = refl
bits_after Plain PlainBitmap = refl
bits_after Plain PlainGrey = refl
bits_after Plain PlainColour = refl
bits_after Plain RawBitmap = refl
bits_after Plain RawGrey = refl
bits_after Plain RawColour = refl
bits_after Raw PlainBitmap = refl
bits_after Raw PlainGrey = refl
bits_after Raw PlainColour = refl
bits_after Raw RawBitmap = refl
bits_after Raw RawGrey = refl
bits_after Raw RawColour = refl

pub bits_after_each : (steps : List Step) (kind : Kind) → is_bitmap (kind_after_each steps kind) ≡ is_bitmap kind
bits_after_each [] kind = refl
bits_after_each (step ∷ steps) kind = bits_after_each steps (kind_after step kind) ∙ bits_after step kind

pub header_allowed : (steps : List Step) (h : Header) → IsHeader h → IsHeader (header_after steps h)
header_allowed steps h is = record { wide = is.wide; high = is.high; light = is.light; bits = λ e. is.bits (sym (bits_after_each steps h.kind) ∙ e) }

-- ---- images

-- the picture of an image
pub picture_fits : (image : Pixmap) → IsWholeImage image → FitsImage image.header.maxval (channels_of image.header.kind) (picture_in image)
picture_fits image whole = record {
  rows_allowed = whole.header.high;
  columns_allowed = whole.header.wide;
  channels_allowed = refl;
  samples_allowed = λ row column channel a b c.
      (let width = image.header.width in
      let channels = channels_of image.header.kind in
      let place : (row * width + column) * channels + channel < image.header.height * width * channels = below_rows (image.header.height * width) channel channels (row * width + column) (below_rows image.header.height column width row a b) c in
      whole.none_above (sample_number width channels row column channel) 0 (omega (arith, place, whole.all_samples)));
}

module _ (h : Header) (p : Picture) (made : Pixmap) (is : IsHeader h) (limits : FitsImage h.maxval (channels_of h.kind) p) (of : IsImageOf h p made) where
  -- each sample of the list is that of a row, a column and a channel
  sample_low : (k d : ℕ) → k < length made.samples → get_or made.samples k d ≤ h.maxval
  sample_low k d inside =
      let below : k < p.height * p.width * p.channels = omega (arith, inside, of.sampled.right_length) in
      let some : 0 < p.channels = some_factor k (p.height * p.width) p.channels below in
      let pixel : k / p.channels < p.height * p.width = div_below k p.channels (p.height * p.width) some below in
      let wide : 0 < p.width = some_factor (k / p.channels) p.height p.width pixel in
      let row : k / p.channels / p.width < p.height = div_below (k / p.channels) p.width p.height wide pixel in
      let column : k / p.channels % p.width < p.width = mod_below (k / p.channels) p.width wide in
      let channel : k % p.channels < p.channels = mod_below k p.channels some in
      let place : sample_number p.width p.channels (k / p.channels / p.width) (k / p.channels % p.width) (k % p.channels) ≡ k = ap (λ pixel. pixel * p.channels + k % p.channels) (div-add-mod' (k / p.channels) p.width) ∙ div-add-mod' k p.channels in
      let sample = p.sample_at (k / p.channels / p.width) (k / p.channels % p.width) (k % p.channels) in
      let here : slice_get made.samples k ≡ Some sample = ap (slice_get made.samples) (sym place) ∙ of.sampled.right_samples _ _ _ row column channel in
      let low : sample ≤ h.maxval = limits.samples_allowed _ _ _ row column channel in
      subst (λ n. n ≤ h.maxval) (sym (get_or_from_slice_get made.samples k sample d here)) low

  pub image_whole : IsWholeImage made
  image_whole = record {
    header = subst IsHeader (sym of.headed) (record { wide = limits.columns_allowed; high = limits.rows_allowed; light = is.light; bits = is.bits });
    all_samples = of.sampled.right_length ∙ ap (λ n. p.height * p.width * n) limits.channels_allowed ∙ ap sample_count (sym of.headed);
    none_above = λ k d inside. subst (λ n. get_or made.samples k d ≤ n) (sym (ap (λ (x : Header). x.maxval) of.headed)) (sample_low k d inside);
  }

-- where each picture that is shown comes through the steps as one that the other array shows
pub still_fits : (maxval : ℕ) (steps : List Step) (m n : Meaning ℕ) → ((p : Picture) → Shows m p → (q : Picture) × (after_all maxval 1 steps p ≡ Ok q) × Shows n q) → StillFits maxval steps m n
still_fits maxval steps m n runs h same held =
    let end = runs held.1 held.2 in
    let taken : after_all h.maxval 1 steps held.1 ≡ Ok end.0 = subst (λ v. after_all v 1 steps held.1 ≡ Ok end.0) (sym same) end.1 in
    (header_allowed steps h held.0, end.0, end.2, steps_fit h.maxval 1 steps h.kind held.1 end.0 taken held.3)
