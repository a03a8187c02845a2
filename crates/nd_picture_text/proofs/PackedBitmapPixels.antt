-- Packed bitmaps: how many pixels there are, and that pixels that were written are read back.
use Rattle.std.proofs.Common.{◌≡◌, ◌∙◌, ℕ, zero, suc, ◌+◌, ◌-◌, ◌*◌, ◌/◌, ◌%◌, ◌<◌, ◌≤◌, Bool, true, false, List, [], ◌∷◌, ◌++◌, length, take, drop, length-append, length-drop, Result, Ok, Err, refl, sym, ap, subst, arith}
use Rattle.std.specs.Prelude.{All, min, ◌==◌, if◌then◌else◌}
use Rattle.std.proofs.lemmas.Bool.Decides.{nat_tests}
use Rattle.std.proofs.lemmas.List.{length-take, length-take-le, take-append-drop, take_at}
use Rattle.std.proofs.lemmas.List.Elements.{All-append}
use Rattle.std.proofs.Math.Seq.{take-append_seam, drop-append_seam}
use Rattle.nd_picture_text.specs.declared.errors.ImageFlaw.TheVariants.{TooShort}
use Rattle.nd_picture_text.specs.NumbersInImageText.{◌>>=◌}
use Rattle.nd_picture_text.specs.PackedBitmaps.{row_size, pixels_of, row_pixels, rows_pixels, packed_byte, row_text, rows_text}
use Rattle.nd_picture_text.specs.ImageReading.{ImageStop, samples_after, bytes_in, packed_in}

-- ---- bytes
pub bytes_short : (n : ℕ) (bs : List ℕ) → length bs < n → bytes_in n bs ≡ Err (0, TooShort)
bytes_short zero bs few = absurd (omega (arith, few))
bytes_short (suc n) [] few = refl
bytes_short (suc n) (b ∷ bs) few = ap (samples_after (b ∷ [])) (bytes_short n bs (omega (arith, few)))

pub bytes_enough : (n : ℕ) (bs : List ℕ) → n ≤ length bs → bytes_in n bs ≡ Ok (take n bs)
bytes_enough zero bs many = refl
bytes_enough (suc n) [] many = absurd (omega (arith, many))
bytes_enough (suc n) (b ∷ bs) many = ap (samples_after (b ∷ [])) (bytes_enough n bs (omega (arith, many)))

pub packed_short : (width height : ℕ) (bs : List ℕ) → length bs < height * row_size width → packed_in width height bs ≡ Err (0, TooShort)
packed_short width height bs few = ap (λ (r : Result (List ℕ) ImageStop). r >>= λ rows. Ok (rows_pixels width height rows)) (bytes_short (height * row_size width) bs few)

pub packed_enough : (width height : ℕ) (bs : List ℕ) → height * row_size width ≤ length bs → packed_in width height bs ≡ Ok (rows_pixels width height (take (height * row_size width) bs))
packed_enough width height bs many = ap (λ (r : Result (List ℕ) ImageStop). r >>= λ rows. Ok (rows_pixels width height rows)) (bytes_enough (height * row_size width) bs many)

-- ---- how many pixels, and how light
pixels_count : (count b : ℕ) → length (pixels_of count b) ≡ count
pixels_count zero b = refl
pixels_count (suc count) b = ap suc (pixels_count count (b % 128 * 2))

row_count : (bs : List ℕ) (width : ℕ) → width ≤ length bs * 8 → length (row_pixels width bs) ≡ width
row_count [] width fits = omega (arith, fits)
row_count (b ∷ bs) width fits =
    omega (arith, length-append (pixels_of (min width 8) b) (row_pixels (width - 8) bs), pixels_count (min width 8) b, row_count bs (width - 8) (omega (arith, fits)))

size_holds : (width : ℕ) → width ≤ row_size width * 8
size_holds width = omega arith

pub more_rows : (height n : ℕ) → suc height * n ≡ n + height * n
more_rows height n = grind arith

pub rows_count : (width height : ℕ) (bs : List ℕ) → length bs ≡ height * row_size width → length (rows_pixels width height bs) ≡ height * width
rows_count width zero bs size = omega arith
rows_count width (suc height) bs size =
    let n = row_size width in
    let all : length bs ≡ n + height * n = size ∙ more_rows height n in
    let enough : n ≤ length bs = omega (arith, all) in
    let one : width ≤ length (take n bs) * 8 = omega (arith, length-take-le n bs enough, size_holds width) in
    let rest : length (drop n bs) ≡ height * n = omega (arith, length-drop n bs, all) in
    omega (arith, length-append (row_pixels width (take n bs)) (rows_pixels width height (drop n bs)), row_count (take n bs) width one, rows_count width height (drop n bs) rest, more_rows height width)

pub kept_count : (width height : ℕ) (xs bs : List ℕ) → xs ≡ rows_pixels width height bs → length bs ≡ height * row_size width → length xs ≡ height * width
kept_count width height xs bs e size = ap length e ∙ rows_count width height bs size

abbrev IsLight : List ℕ → Type 0
IsLight xs = All (λ s. s ≤ 1) xs

light_first : (x : ℕ) (xs : List ℕ) → x ≤ 1 → IsLight xs → IsLight (x ∷ xs)
light_first x xs low all zero d h = low
light_first x xs low all (suc k) d h = all k d (omega (arith, h))

pixels_light : (count b : ℕ) → IsLight (pixels_of count b)
pixels_light zero b = λ k d h. absurd (omega (arith, h))
pixels_light (suc count) b = light_first (1 - b / 128) (pixels_of count (b % 128 * 2)) (omega arith) (pixels_light count (b % 128 * 2))

row_light : (bs : List ℕ) (width : ℕ) → IsLight (row_pixels width bs)
row_light [] width = λ k d h. absurd (omega (arith, h))
row_light (b ∷ bs) width = All-append (λ s. s ≤ 1) (pixels_of (min width 8) b) (row_pixels (width - 8) bs) (pixels_light (min width 8) b) (row_light bs (width - 8))

pub rows_light : (width height : ℕ) (bs : List ℕ) → All (λ s. s ≤ 1) (rows_pixels width height bs)
rows_light width zero bs = λ k d h. absurd (omega (arith, h))
rows_light width (suc height) bs = All-append (λ s. s ≤ 1) (row_pixels width (take (row_size width) bs)) (rows_pixels width height (drop (row_size width) bs)) (row_light (take (row_size width) bs) width) (rows_light width height (drop (row_size width) bs))

pub kept_light : (width height : ℕ) (xs bs : List ℕ) → xs ≡ rows_pixels width height bs → All (λ s. s ≤ 1) xs
kept_light width height xs bs e = subst (λ l. All (λ s. s ≤ 1) l) (sym e) (rows_light width height bs)

-- ---- a byte that was packed
bit_low : (w x p : ℕ) → p ≤ 2 * (w / 2) - 1 → (if x == 0 then w else 0) + p ≤ 2 * w - 1
bit_low w x p low = by_test (x == 0)
  where
    by_test : (t : Bool) → (if t then w else 0) + p ≤ 2 * w - 1
    by_test true = omega (arith, low)
    by_test false = omega (arith, low)

pub byte_low : (w : ℕ) (xs : List ℕ) → packed_byte w xs ≤ 2 * w - 1
byte_low w [] = omega arith
byte_low w (x ∷ xs) = bit_low w x (packed_byte (w / 2) xs) (byte_low (w / 2) xs)

-- so many times a weight is halved without a rest
abbrev Halves : ℕ → ℕ → Type 0
Halves zero w = Unit {0}
Halves (suc k) w = (w / 2 * 2 ≡ w) × Halves k (w / 2)

doubled : (w v x p q : ℕ) → v * 2 ≡ w → p * 2 ≡ q → ((if x == 0 then v else 0) + p) * 2 ≡ (if x == 0 then w else 0) + q
doubled w v x p q double so = by_test (x == 0)
  where
    by_test : (t : Bool) → ((if t then v else 0) + p) * 2 ≡ (if t then w else 0) + q
    by_test true = omega (arith, double, so)
    by_test false = omega (arith, so)

byte_doubled : (k w : ℕ) (xs : List ℕ) → length xs ≤ k → Halves k w → packed_byte (w / 2) xs * 2 ≡ packed_byte w xs
byte_doubled k w [] few halves = omega arith
byte_doubled zero w (x ∷ xs) few halves = absurd (omega (arith, few))
byte_doubled (suc k) w (x ∷ xs) few halves = doubled w (w / 2) x (packed_byte (w / 2 / 2) xs) (packed_byte (w / 2) xs) halves.0 (byte_doubled k (w / 2) xs (omega (arith, few)) halves.1)

halves_128 : Halves 7 128
halves_128 = (refl, (refl, (refl, (refl, (refl, (refl, (refl, tt)))))))

first_pixel : (x p : ℕ) → x ≤ 1 → p ≤ 127 → 1 - ((if x == 0 then 128 else 0) + p) / 128 ≡ x
first_pixel x p light low = by_test (x == 0) refl
  where
    by_test : (t : Bool) → (x == 0) ≡ t → 1 - ((if t then 128 else 0) + p) / 128 ≡ x
    by_test true e = let black : x ≡ 0 = grind (arith, nat_tests, e) in omega (arith, black, low)
    by_test false e = let white : 0 < x = grind (arith, nat_tests, e) in omega (arith, white, light, low)

rest_pixels : (x p : ℕ) → p ≤ 127 → ((if x == 0 then 128 else 0) + p) % 128 * 2 ≡ p * 2
rest_pixels x p low = by_test (x == 0)
  where
    by_test : (t : Bool) → ((if t then 128 else 0) + p) % 128 * 2 ≡ p * 2
    by_test true = omega (arith, low)
    by_test false = omega (arith, low)

pixels_back : (xs : List ℕ) → length xs ≤ 8 → IsLight xs → pixels_of (length xs) (packed_byte 128 xs) ≡ xs
pixels_back [] few light = refl
pixels_back (x ∷ xs) few light =
    let low : packed_byte 64 xs ≤ 127 = byte_low 64 xs in
    let first = first_pixel x (packed_byte 64 xs) (light 0 0 (omega arith)) low in
    let rest = rest_pixels x (packed_byte 64 xs) low ∙ byte_doubled 7 128 xs (omega (arith, few)) halves_128 in
    let others = ap (pixels_of (length xs)) rest ∙ pixels_back xs (omega (arith, few)) (λ k d h. light (suc k) d (omega (arith, h))) in
    ap (λ l. (1 - packed_byte 128 (x ∷ xs) / 128) ∷ l) others ∙ ap (λ y. y ∷ xs) first

-- ---- rows that were packed
text_size : (size : ℕ) (xs : List ℕ) → length (row_text size xs) ≡ size
text_size zero xs = refl
text_size (suc size) xs = ap suc (text_size size (drop 8 xs))

light_take : (n : ℕ) (xs : List ℕ) → IsLight xs → IsLight (take n xs)
light_take zero xs light = λ k d h. absurd (omega (arith, h))
light_take (suc n) [] light = light
light_take (suc n) (x ∷ xs) light = light_first x (take n xs) (light 0 0 (omega arith)) (light_take n xs (λ k d h. light (suc k) d (omega (arith, h))))

light_drop : (n : ℕ) (xs : List ℕ) → IsLight xs → IsLight (drop n xs)
light_drop zero xs light = light
light_drop (suc n) [] light = light
light_drop (suc n) (x ∷ xs) light = light_drop n xs (λ k d h. light (suc k) d (omega (arith, h)))

row_back : (size : ℕ) (xs : List ℕ) → length xs ≤ size * 8 → IsLight xs → row_pixels (length xs) (row_text size xs) ≡ xs
row_back zero [] fits light = refl
row_back zero (x ∷ xs) fits light = absurd (omega (arith, fits))
row_back (suc size) xs fits light =
    let front = take 8 xs in
    let back = drop 8 xs in
    let short : length front ≡ min (length xs) 8 = omega (arith, length-take 8 xs) in
    let left : length back ≡ length xs - 8 = omega (arith, length-drop 8 xs) in
    let first = ap (λ n. pixels_of n (packed_byte 128 front)) (sym short) ∙ pixels_back front (omega (arith, short)) (light_take 8 xs light) in
    let others = ap (λ n. row_pixels n (row_text size back)) (sym left) ∙ row_back size back (omega (arith, fits, left)) (light_drop 8 xs light) in
    ap (λ l. l ++ row_pixels (length xs - 8) (row_text size back)) first ∙ ap (λ l. front ++ l) others ∙ take-append-drop 8 xs

rows_size : (width height : ℕ) (xs : List ℕ) → length (rows_text width height xs) ≡ height * row_size width
rows_size width zero xs = omega arith
rows_size width (suc height) xs =
    omega (arith, length-append (row_text (row_size width) (take width xs)) (rows_text width height (drop width xs)), text_size (row_size width) (take width xs), rows_size width height (drop width xs), more_rows height (row_size width))

rows_back : (width height : ℕ) (xs : List ℕ) → length xs ≡ height * width → IsLight xs → rows_pixels width height (rows_text width height xs) ≡ xs
rows_back width zero [] count light = refl
rows_back width zero (x ∷ xs) count light = absurd (omega (arith, count))
rows_back width (suc height) xs count light =
    let n = row_size width in
    let front = row_text n (take width xs) in
    let back = rows_text width height (drop width xs) in
    let all : length xs ≡ width + height * width = count ∙ more_rows height width in
    let one : length (take width xs) ≡ width = length-take-le width xs (omega (arith, all)) in
    let left : length (drop width xs) ≡ height * width = omega (arith, length-drop width xs, all) in
    let split = ap (λ k. take k (front ++ back)) (sym (text_size n (take width xs))) ∙ take-append_seam front back in
    let rest = ap (λ k. drop k (front ++ back)) (sym (text_size n (take width xs))) ∙ drop-append_seam front back in
    let first = ap (row_pixels width) split ∙ ap (λ k. row_pixels k front) (sym one) ∙ row_back n (take width xs) (omega (arith, one, size_holds width)) (light_take width xs light) in
    let others = ap (rows_pixels width height) rest ∙ rows_back width height (drop width xs) left (light_drop width xs light) in
    ap (λ l. l ++ rows_pixels width height (drop n (front ++ back))) first ∙ ap (λ l. take width xs ++ l) others ∙ take-append-drop width xs

pub packed_back : (width height : ℕ) (xs rest : List ℕ) → length xs ≡ height * width → All (λ s. s ≤ 1) xs → packed_in width height (rows_text width height xs ++ rest) ≡ Ok xs
packed_back width height xs rest count light =
    let text = rows_text width height xs in
    let size = rows_size width height xs in
    packed_enough width height (text ++ rest) (omega (arith, length-append text rest, size))
    ∙ ap (λ l. Ok (rows_pixels width height l)) (take_at text rest (height * row_size width) size)
    ∙ ap (λ l. Ok l) (rows_back width height xs count light)
