-- Images that were written, and read back.
use Rattle.std.proofs.Common.{◌≡◌, ◌∙◌, ℕ, zero, suc, ◌+◌, ◌-◌, ◌*◌, ◌/◌, ◌%◌, ◌<◌, ◌≤◌, ◌^◌, Bool, true, false, List, [], ◌∷◌, ◌++◌, length, Result, Ok, refl, sym, ap, arith, append_assoc}
use Rattle.std.specs.Prelude.{All, codes, ◌==◌, nat_le, nat_lt, if◌then◌else◌}
use Rattle.std.specs.Char.{is_ascii_digit}
use Rattle.std.specs.Fmt.{decimal}
use Rattle.std.specs.List.{flat_map}
use Rattle.std.proofs.lemmas.Bool.Decides.{nat_tests}
use Rattle.std.proofs.lemmas.Fmt.{decimal_by_steps}
use Rattle.nd_picture_text.specs.declared.image_formats.Kind.{Kind}
use Rattle.nd_picture_text.specs.declared.image_formats.Kind.TheVariants.{PlainBitmap, PlainGrey, PlainColour, RawBitmap, RawGrey, RawColour}
use Rattle.nd_picture_text.specs.declared.image_formats.Header.{Header}
use Rattle.nd_picture_text.specs.declared.errors.ImageFlaw.{ImageFlaw}
use Rattle.nd_picture_text.specs.declared.errors.ImageFlaw.TheVariants.{Width, Height, Maxval, Sample}
use Rattle.nd_picture_text.specs.ImageFormatsAndHeaders.{Pixmap, IsHeader, IsWholeImage, channels_of, is_plain, is_bitmap, is_packed}
use Rattle.nd_picture_text.specs.ImageReadingLaws.{ImagesReadBack}
use Rattle.nd_picture_text.specs.NumbersInImageText.{◌>>=◌, is_hash, is_whitespace, wants_digit, after_gap, image_digits_after, image_number_here, next_number}
use Rattle.nd_picture_text.specs.ImageReading.{ImageStop, or_flaw, opening, number_in, maxval_in, image_header_in, bit_here, narrow_sample, wide_sample, sample_in, samples_after, samples_in, raster_in, image_in}
use Rattle.nd_picture_text.specs.ImageWriting.{kind_text, maxval_text, image_header_text, number_line, bit_line, sample_text, raster_text}
use Rattle.nd_picture_text.proofs.PackedBitmapPixels.{packed_back}

-- ---- numbers
sample_digit : (d : ℕ) → d < 10 → is_ascii_digit (48 + d) ≡ true
sample_digit d low = grind (arith, nat_tests)

no_hash : (d : ℕ) → is_hash (48 + d) ≡ false
no_hash d = grind (arith, nat_tests)

no_blank : (d : ℕ) → is_whitespace (48 + d) ≡ false
no_blank d = grind (arith, nat_tests)

-- a number begins with no blank and no comment
abbrev Begins : ℕ → List ℕ → Type 0
Begins n ds = (tail : List ℕ) → after_gap false (ds ++ tail) ≡ ds ++ tail

number_begins : (n : ℕ) → n < 2 ^ 64 → Begins n (decimal n)
number_begins n small = decimal_by_steps Begins first longer n small
  where
    first : (n : ℕ) → n < 10 → Begins n ((48 + n) ∷ [])
    first n low tail = rw (no_hash n, no_blank n) refl

    longer : (n : ℕ) (ds : List ℕ) → 10 ≤ n → Begins (n / 10) ds → Begins n (ds ++ ((48 + n % 10) ∷ []))
    longer n ds high so tail =
        let same = append_assoc ds ((48 + n % 10) ∷ []) tail in
        ap (after_gap false) same ∙ so ((48 + n % 10) ∷ tail) ∙ sym same

module _ (positive : Bool) (limit : ℕ) where
  within : (n d : ℕ) → n * 10 + d ≤ limit → nat_le (n * 10 + (48 + d - 48)) limit ≡ true
  within n d fits = grind (arith, nat_tests)

  digit_on : (n d : ℕ) (tail : List ℕ) → d < 10 → n * 10 + d ≤ limit → image_digits_after positive limit n ((48 + d) ∷ tail) ≡ image_digits_after positive limit (n * 10 + (48 + d - 48)) tail
  digit_on n d tail low fits = rw (sample_digit d low, within n d fits) refl

  digit_first : (d : ℕ) (tail : List ℕ) → d < 10 → d ≤ limit → image_number_here positive limit ((48 + d) ∷ tail) ≡ image_digits_after positive limit (48 + d - 48) tail
  digit_first d tail low fits = rw (sample_digit d low, within 0 d (omega (arith, fits))) refl

  abbrev Reads : ℕ → List ℕ → Type 0
  Reads n ds = n ≤ limit → (tail : List ℕ) → image_number_here positive limit (ds ++ tail) ≡ image_digits_after positive limit n tail

  one : (n : ℕ) → n < 10 → Reads n ((48 + n) ∷ [])
  one n low fits tail =
      let same : 48 + n - 48 ≡ n = omega arith in
      digit_first n tail low fits ∙ ap (λ m. image_digits_after positive limit m tail) same

  more : (n : ℕ) (ds : List ℕ) → 10 ≤ n → Reads (n / 10) ds → Reads n (ds ++ ((48 + n % 10) ∷ []))
  more n ds high reads fits tail =
      let low : n % 10 < 10 = omega arith in
      let all : n / 10 * 10 + n % 10 ≤ limit = omega (arith, fits) in
      let same : n / 10 * 10 + (48 + n % 10 - 48) ≡ n = omega arith in
      ap (image_number_here positive limit) (append_assoc ds ((48 + n % 10) ∷ []) tail)
      ∙ reads (omega (arith, fits)) ((48 + n % 10) ∷ tail)
      ∙ digit_on (n / 10) (n % 10) tail low all
      ∙ ap (λ m. image_digits_after positive limit m tail) same

  number_back : (flaw : ImageFlaw) (n : ℕ) (tail rest : List ℕ) → n ≤ limit → n < 2 ^ 64 → image_digits_after positive limit n tail ≡ Ok (n, rest) → number_in flaw positive limit (decimal n ++ tail) ≡ Ok (n, rest)
  unfolding next_number
  number_back flaw n tail rest fits small ends = ap (λ l. or_flaw flaw (image_number_here positive limit l)) (number_begins n small tail) ∙ ap (or_flaw flaw) (decimal_by_steps Reads one more n small fits tail ∙ ends)

-- a number and the blank after it
space_ends : (positive : Bool) (limit n : ℕ) (rest : List ℕ) → wants_digit positive n ≡ false → image_digits_after positive limit n (32 ∷ rest) ≡ Ok (n, rest)
space_ends positive limit n rest e = rw e refl

feed_ends : (positive : Bool) (limit n : ℕ) (rest : List ℕ) → wants_digit positive n ≡ false → image_digits_after positive limit n (10 ∷ rest) ≡ Ok (n, rest)
feed_ends positive limit n rest e = rw e refl

some : (n : ℕ) → 0 < n → wants_digit true n ≡ false
some n h = grind (arith, nat_tests)

-- ---- the header
opening_back : (k : Kind) (t : List ℕ) → opening (kind_text k ++ t) ≡ Ok (k, t)
opening_back PlainBitmap t = refl
opening_back PlainGrey t = refl
opening_back PlainColour t = refl
opening_back RawBitmap t = refl
opening_back RawGrey t = refl
opening_back RawColour t = refl

regroup : (k w h m t : List ℕ) → (k ++ (w ++ (codes " " ++ (h ++ (codes "\n" ++ m))))) ++ t ≡ k ++ (w ++ (32 ∷ (h ++ (10 ∷ (m ++ t)))))
regroup k w h m t = simp append_assoc

module _ (h : Header) (is : IsHeader h) where
  width_back : (t : List ℕ) → number_in Width true 1000000000 (decimal h.width ++ (32 ∷ t)) ≡ Ok (h.width, t)
  width_back t = number_back true 1000000000 Width h.width (32 ∷ t) t (is.wide.1) (omega (arith, is.wide.1)) (space_ends true 1000000000 h.width t (some h.width is.wide.0))

  height_back : (t : List ℕ) → number_in Height true 1000000000 (decimal h.height ++ (10 ∷ t)) ≡ Ok (h.height, t)
  height_back t = number_back true 1000000000 Height h.height (10 ∷ t) t (is.high.1) (omega (arith, is.high.1)) (feed_ends true 1000000000 h.height t (some h.height is.high.0))

  maxval_back : (t : List ℕ) → maxval_in h.kind (maxval_text h ++ t) ≡ Ok (h.maxval, t)
  maxval_back t = by_test (is_bitmap h.kind) refl
    where
      by_test : (bits : Bool) → is_bitmap h.kind ≡ bits
          → (if bits then Ok (1, (if bits then [] else (decimal h.maxval ++ codes "\n")) ++ t) else number_in Maxval true 65535 ((if bits then [] else (decimal h.maxval ++ codes "\n")) ++ t)) ≡ Ok (h.maxval, t)
      by_test true e = ap (λ m. Ok (m, t)) (sym (is.bits e))
      by_test false e =
          ap (number_in Maxval true 65535) (append_assoc (decimal h.maxval) (codes "\n") t)
          ∙ number_back true 65535 Maxval h.maxval (10 ∷ t) t (omega (arith, is.light.1)) (omega (arith, is.light.1)) (feed_ends true 65535 h.maxval t (some h.maxval is.light.0))

  header_back : (t : List ℕ) → image_header_in (kind_text h.kind ++ (decimal h.width ++ (32 ∷ (decimal h.height ++ (10 ∷ (maxval_text h ++ t)))))) ≡ Ok (h, t)
  unfolding image_header_in
  header_back t =
      let third = 10 ∷ (maxval_text h ++ t) in
      let second = 32 ∷ (decimal h.height ++ third) in
      rw (opening_back h.kind (decimal h.width ++ second), width_back (decimal h.height ++ third), height_back (maxval_text h ++ t), maxval_back t) refl

  header_text_then : (t : List ℕ) → image_header_text h ++ t ≡ kind_text h.kind ++ (decimal h.width ++ (32 ∷ (decimal h.height ++ (10 ∷ (maxval_text h ++ t)))))
  header_text_then t = regroup (kind_text h.kind) (decimal h.width) (decimal h.height) (maxval_text h) t

-- ---- samples
narrow_back : (maxval b x : ℕ) (rest : List ℕ) → b ≡ x → x ≤ maxval → narrow_sample maxval (b ∷ rest) ≡ Ok (x, rest)
narrow_back maxval b x rest same fits =
    let test : nat_le b maxval ≡ true = grind (arith, nat_tests, same, fits) in
    rw test (ap (λ y. Ok (y, rest)) same)

wide_back : (maxval a b x : ℕ) (rest : List ℕ) → a * 256 + b ≡ x → x ≤ maxval → wide_sample maxval (a ∷ b ∷ rest) ≡ Ok (x, rest)
wide_back maxval a b x rest same fits =
    let high : nat_le (a * 256) maxval ≡ true = grind (arith, nat_tests, same, fits) in
    let low : nat_le (a * 256 + b) maxval ≡ true = grind (arith, nat_tests, same, fits) in
    rw (high, low) (ap (λ y. Ok (y, rest)) same)

plain_back : (maxval x : ℕ) (rest : List ℕ) → x ≤ maxval → maxval < 65536 → number_in Sample false maxval (number_line x ++ rest) ≡ Ok (x, rest)
plain_back maxval x rest fits small = ap (number_in Sample false maxval) (append_assoc (decimal x) (codes "\n") rest) ∙ number_back false maxval Sample x (10 ∷ rest) rest fits (omega (arith, fits, small)) (feed_ends false maxval x rest refl)

bit_back : (x : ℕ) (rest : List ℕ) → x ≤ 1 → bit_here (after_gap false (bit_line x ++ rest)) ≡ Ok (x, 10 ∷ rest)
bit_back x rest low = by_test (x == 0) refl
  where
    by_test : (t : Bool) → (x == 0) ≡ t → bit_here (after_gap false ((if t then codes "1\n" else codes "0\n") ++ rest)) ≡ Ok (x, 10 ∷ rest)
    by_test true e = let black : 0 ≡ x = grind (arith, nat_tests, e) in ap (λ y. Ok (y, 10 ∷ rest)) black
    by_test false e = let white : 1 ≡ x = grind (arith, nat_tests, e, low) in ap (λ y. Ok (y, 10 ∷ rest)) white

module _ (h : Header) (is : IsHeader h) where
  -- a line feed after a digit of a bitmap is a blank before the next one
  feed_skipped : (count : ℕ) (rest : List ℕ) → is_plain h.kind ≡ true → is_bitmap h.kind ≡ true → samples_in h count (10 ∷ rest) ≡ samples_in h count rest
  unfolding sample_in
  feed_skipped zero rest plain bits = refl
  feed_skipped (suc count) rest plain bits =
      let same : sample_in h (10 ∷ rest) ≡ sample_in h rest = rw (plain, bits) refl in
      ap (λ (r : Result (ℕ × List ℕ) ImageStop). r >>= λ y. samples_after (y.0 ∷ []) (samples_in h count y.1)) same

  -- what a sample leaves is read on as what follows it
  abbrev Leaves : ℕ → List ℕ → List ℕ → Type 0
  Leaves x text rest = (left : List ℕ) × (sample_in h text ≡ Ok (x, left)) × ((count : ℕ) → samples_in h count left ≡ samples_in h count rest)

  bit_read : (x : ℕ) (rest : List ℕ) → x ≤ 1 → is_plain h.kind ≡ true → is_bitmap h.kind ≡ true → sample_in h (sample_text h x ++ rest) ≡ Ok (x, 10 ∷ rest)
  unfolding sample_in
  bit_read x rest low plain bits = rw (plain, bits) (bit_back x rest low)

  number_read : (x : ℕ) (rest : List ℕ) → x ≤ h.maxval → is_plain h.kind ≡ true → is_bitmap h.kind ≡ false → sample_in h (sample_text h x ++ rest) ≡ Ok (x, rest)
  unfolding sample_in
  number_read x rest fits plain grey = rw (plain, grey) (plain_back h.maxval x rest fits is.light.1)

  narrow_read : (x : ℕ) (rest : List ℕ) → x ≤ h.maxval → is_plain h.kind ≡ false → nat_lt h.maxval 256 ≡ true → sample_in h (sample_text h x ++ rest) ≡ Ok (x, rest)
  unfolding sample_in
  narrow_read x rest fits raw narrow =
      let few : h.maxval < 256 = grind (arith, nat_tests, narrow) in
      rw (raw, narrow) (narrow_back h.maxval (x % 256) x rest (omega (arith, fits, few)) fits)

  wide_read : (x : ℕ) (rest : List ℕ) → x ≤ h.maxval → is_plain h.kind ≡ false → nat_lt h.maxval 256 ≡ false → sample_in h (sample_text h x ++ rest) ≡ Ok (x, rest)
  unfolding sample_in
  wide_read x rest fits raw wide = rw (raw, wide) (wide_back h.maxval (x / 256) (x % 256) x rest (omega arith) fits)

  sample_back : (x : ℕ) (rest : List ℕ) → x ≤ h.maxval → Leaves x (sample_text h x ++ rest) rest
  sample_back x rest fits = by_tests (is_plain h.kind) (is_bitmap h.kind) (nat_lt h.maxval 256) refl refl refl
    where
      by_tests : (t u v : Bool) → is_plain h.kind ≡ t → is_bitmap h.kind ≡ u → nat_lt h.maxval 256 ≡ v → Leaves x (sample_text h x ++ rest) rest
      by_tests true true v d e f = let low : x ≤ 1 = omega (arith, fits, is.bits e) in (10 ∷ rest, bit_read x rest low d e, λ count. feed_skipped count rest d e)
      by_tests true false v d e f = (rest, number_read x rest fits d e, λ count. refl)
      by_tests false u true d e f = (rest, narrow_read x rest fits d f, λ count. refl)
      by_tests false u false d e f = (rest, wide_read x rest fits d f, λ count. refl)

  samples_back : (xs rest : List ℕ) → All (λ s. s ≤ h.maxval) xs → samples_in h (length xs) (flat_map (sample_text h) xs ++ rest) ≡ Ok xs
  samples_back [] rest all = refl
  samples_back (x ∷ xs) rest all =
      let others = flat_map (sample_text h) xs in
      let first = sample_back x (others ++ rest) (all 0 0 (omega arith)) in
      let more = samples_back xs rest (λ k d less. all (suc k) d (omega (arith, less))) in
      ap (samples_in h (length (x ∷ xs))) (append_assoc (sample_text h x) others rest)
      ∙ ap (λ (r : Result (ℕ × List ℕ) ImageStop). r >>= λ y. samples_after (y.0 ∷ []) (samples_in h (length xs) y.1)) first.1
      ∙ ap (samples_after (x ∷ [])) (first.2 (length xs) ∙ more)

-- ---- packed bitmaps
pub packed_is_grey : (kind : Kind) → is_packed kind ≡ true → channels_of kind ≡ 1
packed_is_grey PlainBitmap e = refl
packed_is_grey PlainGrey e = refl
packed_is_grey PlainColour e = absurd cc
packed_is_grey RawBitmap e = refl
packed_is_grey RawGrey e = refl
packed_is_grey RawColour e = absurd cc

packed_is_bitmap : (kind : Kind) → is_packed kind ≡ true → is_bitmap kind ≡ true
packed_is_bitmap PlainBitmap e = refl
packed_is_bitmap PlainGrey e = absurd cc
packed_is_bitmap PlainColour e = absurd cc
packed_is_bitmap RawBitmap e = refl
packed_is_bitmap RawGrey e = absurd cc
packed_is_bitmap RawColour e = absurd cc

module _ (p : Pixmap) (whole : IsWholeImage p) where
  packed_raster_back : (rest : List ℕ) → is_packed p.header.kind ≡ true → raster_in p.header (raster_text p ++ rest) ≡ Ok p.samples
  unfolding raster_in
  packed_raster_back rest e =
      let one = whole.header.bits (packed_is_bitmap p.header.kind e) in
      let count : length p.samples ≡ p.header.height * p.header.width = whole.all_samples ∙ ap (λ n. p.header.height * p.header.width * n) (packed_is_grey p.header.kind e) ∙ omega arith in
      rw e (packed_back p.header.width p.header.height p.samples rest count (λ k d less. omega (arith, whole.none_above k d less, one)))

  unpacked_raster_back : (rest : List ℕ) → is_packed p.header.kind ≡ false → raster_in p.header (raster_text p ++ rest) ≡ Ok p.samples
  unfolding raster_in
  unpacked_raster_back rest e =
      let text = flat_map (sample_text p.header) p.samples in
      rw e (ap (λ n. samples_in p.header n (text ++ rest)) (sym whole.all_samples) ∙ samples_back p.header whole.header p.samples rest whole.none_above)

  raster_back : (rest : List ℕ) → raster_in p.header (raster_text p ++ rest) ≡ Ok p.samples
  raster_back rest = by_test (is_packed p.header.kind) refl
    where
      by_test : (t : Bool) → is_packed p.header.kind ≡ t → raster_in p.header (raster_text p ++ rest) ≡ Ok p.samples
      by_test true e = packed_raster_back rest e
      by_test false e = unpacked_raster_back rest e

pub read_back : ImagesReadBack
unfolding image_in
read_back p rest whole =
    let text = append_assoc (image_header_text p.header) (raster_text p) rest ∙ header_text_then p.header whole.header (raster_text p ++ rest) in
    let head = ap image_header_in text ∙ header_back p.header whole.header (raster_text p ++ rest) in
    let samples = raster_back p whole rest in
    rw (head, samples) refl
