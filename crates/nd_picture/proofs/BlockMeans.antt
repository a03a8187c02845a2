-- Blocks of a picture: how large they are, the sums of their samples, and their means.
use Rattle.std.proofs.Common.{◌≡◌, ◌∙◌, ℕ, zero, suc, ◌+◌, ◌-◌, ◌*◌, ◌/◌, ◌%◌, ◌^◌, ◌<◌, ◌≤◌, List, [], ◌∷◌, refl, sym, ap, arith}
use Rattle.std.specs.Prelude.{min, slice_index}
use Rattle.std.proofs.Math.Nat.{mul-le-mul, mul-le-mul_left, mul-le-mul_right}
use Rattle.std.proofs.lemmas.Nat.{div-add-mod', div_below, le-div, mod_below}
use Rattle.nd_shape_and_slice.specs.ShapesAndIndexOrders.{nonzero_product, HasCheckedSize}
use Rattle.nd_array_core.specs.ArrayMeaning.{Meaning}
use Rattle.nd_array_core.specs.SumsCountsAndExtrema.{sum_below}
use Rattle.nd_picture.specs.PictureChanges.{Picture, Shows, ceiling, rounded, part_total, block_end, block_length, block_total, block_mean}

-- ---- quotients

-- the quotient rounded up, from the quotient and the remainder
pub ceiling_is : (a b : ℕ) → 0 < b → a / b + min 1 (a % b) ≡ ceiling a b
ceiling_is a b some = by_rest (a % b) refl
  where
    by_rest : (r : ℕ) → a % b ≡ r → a / b + min 1 r ≡ ceiling a b
    by_rest zero e =
        let whole = div-add-mod' a b in
        let low : a / b ≤ ceiling a b = le-div (a / b) (a + (b - 1)) b some (omega (arith, whole)) in
        let high : ceiling a b < a / b + 1 = div_below (a + (b - 1)) b (a / b + 1) some (omega (arith, whole, e, some)) in
        omega (arith, low, high)
    by_rest (suc r) e =
        let whole = div-add-mod' a b in
        let below = mod_below a b some in
        let low : a / b + 1 ≤ ceiling a b = le-div (a / b + 1) (a + (b - 1)) b some (omega (arith, whole, e, some)) in
        let high : ceiling a b < a / b + 2 = div_below (a + (b - 1)) b (a / b + 2) some (omega (arith, whole, below, some)) in
        omega (arith, low, high)

-- a mean is at most what each of the numbers is at most
pub rounded_low : (s n m : ℕ) → 0 < n → s ≤ m * n → rounded s n ≤ m
rounded_low s n m some low =
    let below : rounded s n < m + 1 = div_below (s + n / 2) n (m + 1) some (omega (arith, low, some)) in
    omega (arith, below)

-- ---- sums

-- one more is added
pub sum_more : (first at s t : ℕ) (f : ℕ → ℕ) → first ≤ at → s ≡ sum_below (λ k. f (first + k)) (at - first) → t ≡ f at → s + t ≡ sum_below (λ k. f (first + k)) (at + 1 - first)
sum_more first at s t f after is next =
    let here : first + (at - first) ≡ at = omega (arith, after) in
    let more : suc (at - first) ≡ at + 1 - first = omega (arith, after) in
    (λ i. is i + (next ∙ ap f (sym here)) i) ∙ ap (sum_below (λ k. f (first + k))) more

pub sum_low : (n m : ℕ) (f : ℕ → ℕ) → ((i : ℕ) → i < n → f i ≤ m) → sum_below f n ≤ m * n
sum_low zero m f low = omega arith
sum_low (suc n) m f low =
    let before : sum_below f n ≤ m * n = sum_low n m f (λ i h. low i (omega (arith, h))) in
    let last = low n (omega arith) in
    omega (arith, before, last)

-- a row of a block is added
pub row_more : (top row width s t : ℕ) → top ≤ row → s ≤ 65535 * ((row - top) * width) → t ≤ 65535 * width → s + t ≤ 65535 * ((row + 1 - top) * width)
row_more top row width s t after low next =
    let more : row + 1 - top ≡ row - top + 1 = omega (arith, after) in
    let rows : (row + 1 - top) * width ≡ (row - top + 1) * width = ap (λ n. n * width) more in
    omega (arith, rows, low, next)

-- ---- blocks

pub block_begins : (n k i : ℕ) → 0 < k → i < ceiling n k → i * k < n
block_begins n k i some h =
    let whole = div-add-mod' (n + (k - 1)) k in
    let more : (i + 1) * k ≤ ceiling n k * k = mul-le-mul_right k (omega (arith, h)) in
    omega (arith, whole, more, some)

pub some_sample : (h w : ℕ) → 0 < h → 0 < w → 0 < h * w
some_sample h w high wide = let one : 1 * 1 ≤ h * w = mul-le-mul high wide in omega (arith, one)

-- a picture with a channel has at most so many pixels
pub few_pixels : (r c k h w : ℕ) → HasCheckedSize (r ∷ c ∷ k ∷ []) → 0 < k → 0 < h → 0 < w → h ≤ r → w ≤ c → h * w < 2 ^ 63
few_pixels zero c k h w checked some high wide a b = absurd (omega (arith, high, a))
few_pixels (suc r) zero k h w checked some high wide a b = absurd (omega (arith, wide, b))
few_pixels (suc r) (suc c) zero h w checked some high wide a b = absurd (omega (arith, some))
few_pixels (suc r) (suc c) (suc k) h w checked some high wide a b =
    let pixels : h * w ≤ suc r * suc c = mul-le-mul a b in
    let one : suc c * 1 ≤ suc c * (suc k * 1) = mul-le-mul_left (suc c) (omega arith) in
    let all : suc r * (suc c * 1) ≤ suc r * (suc c * (suc k * 1)) = mul-le-mul_left (suc r) one in
    omega (arith, pixels, all, checked)

pub block_fits : (ns : List ℕ) (r c k f row column channel top bottom left right : ℕ) → ns ≡ r ∷ c ∷ k ∷ [] → HasCheckedSize (r ∷ c ∷ k ∷ []) → 0 < f → row < ceiling (slice_index ns 0) f → column < ceiling (slice_index ns 1) f → channel < slice_index ns 2
    → top ≡ row * f → bottom ≡ block_end f r row → left ≡ column * f → right ≡ block_end f c column → ((bottom - top) * (right - left) < 2 ^ 63) × (0 < (bottom - top) * (right - left))
block_fits ns r c k f row column channel top bottom left right is checked some rows columns channels first last start end =
    let above = block_begins r f row some (omega (arith, rows, ap (λ l. ceiling (slice_index l 0) f) is)) in
    let before = block_begins c f column some (omega (arith, columns, ap (λ l. ceiling (slice_index l 1) f) is)) in
    let high : 0 < bottom - top = omega (arith, first, last, some, above) in
    let wide : 0 < right - left = omega (arith, start, end, some, before) in
    (few_pixels r c k (bottom - top) (right - left) checked (omega (arith, channels, ap (λ l. slice_index l 2) is)) high wide (omega (arith, last)) (omega (arith, end)), some_sample (bottom - top) (right - left) high wide)

-- the mean of a block, where its rows and columns are counted in the array
pub block_mean_is : (p : Picture) (k row column channel r c top bottom left right s mean : ℕ) → (r ≡ p.height) × (c ≡ p.width) → top ≡ row * k → bottom ≡ block_end k r row → left ≡ column * k → right ≡ block_end k c column
    → s ≡ part_total p top bottom left right channel → mean ≡ rounded s ((bottom - top) * (right - left)) → mean ≡ block_mean k p row column channel
block_mean_is p k row column channel r c top bottom left right s mean sides first last start end sum is =
    let down : bottom ≡ block_end k p.height row = last ∙ ap (λ n. block_end k n row) sides.0 in
    let over : right ≡ block_end k p.width column = end ∙ ap (λ n. block_end k n column) sides.1 in
    let whole : s ≡ block_total k p row column channel = sum ∙ (λ t. part_total p (first t) (down t) (start t) (over t) channel) in
    is ∙ (λ t. rounded (whole t) ((down t - first t) * (over t - start t)))

-- ---- the smaller picture

-- a length that isn't greater, and the product of those that aren't 0
pub product_low : (a b : ℕ) (ns ms : List ℕ) → a ≤ b → nonzero_product ns ≤ nonzero_product ms → nonzero_product (a ∷ ns) ≤ nonzero_product (b ∷ ms)
product_low zero zero ns ms low less = less
product_low zero (suc b) ns ms low less =
    let more : 1 * nonzero_product ms ≤ suc b * nonzero_product ms = mul-le-mul_right (nonzero_product ms) (omega arith) in
    omega (arith, less, more)
product_low (suc a) zero ns ms low less = absurd (omega (arith, low))
product_low (suc a) (suc b) ns ms low less = mul-le-mul low less

pub ceiling_low : (n k : ℕ) → 0 < k → ceiling n k ≤ n
ceiling_low n k some =
    let more : n * 1 ≤ n * k = mul-le-mul_left n some in
    let low : ceiling n k < n + 1 = div_below (n + (k - 1)) k (n + 1) some (omega (arith, more, some)) in
    omega (arith, low)

pub shrunk_checked : (r c k f a b : ℕ) → 0 < f → a ≡ ceiling r f → b ≡ ceiling c f → HasCheckedSize (r ∷ c ∷ k ∷ []) → HasCheckedSize (a ∷ b ∷ k ∷ [])
shrunk_checked r c k f a b some rows columns checked =
    let fewer_rows : a ≤ r = omega (arith, rows, ceiling_low r f some) in
    let fewer_columns : b ≤ c = omega (arith, columns, ceiling_low c f some) in
    let less : nonzero_product (a ∷ b ∷ k ∷ []) ≤ nonzero_product (r ∷ c ∷ k ∷ []) = product_low a r (b ∷ k ∷ []) (c ∷ k ∷ []) fewer_rows (product_low b c (k ∷ []) (k ∷ []) fewer_columns (omega arith)) in
    omega (arith, less, checked)

pub shrunk_sides : (m : Meaning ℕ) (p : Picture) (f r c k : ℕ) → Shows m p → r ≡ ceiling (slice_index m.shape 0) f → c ≡ ceiling (slice_index m.shape 1) f → k ≡ slice_index m.shape 2 → r ∷ c ∷ k ∷ [] ≡ ceiling p.height f ∷ ceiling p.width f ∷ p.channels ∷ []
shrunk_sides m p f r c k shows rows columns channels =
    (λ t. rows t ∷ columns t ∷ channels t ∷ []) ∙ ap (λ ns. ceiling (slice_index ns 0) f ∷ ceiling (slice_index ns 1) f ∷ slice_index ns 2 ∷ []) shows.right_shape

-- ---- no sample above the maxval

pub block_low : (maxval k : ℕ) (p : Picture) (row column channel : ℕ) → ((i j : ℕ) → i < p.height → j < p.width → p.sample_at i j channel ≤ maxval) → 0 < k → row * k < p.height → column * k < p.width → block_mean k p row column channel ≤ maxval
block_low maxval k p row column channel low some above before =
    let height = block_length k p.height row in
    let width = block_length k p.width column in
    let high : 0 < height = omega (arith, some, above) in
    let wide : 0 < width = omega (arith, some, before) in
    let each : (i : ℕ) → i < height → sum_below (λ j. p.sample_at (row * k + i) (column * k + j) channel) width ≤ maxval * width = λ i h. sum_low width maxval _ (λ j l. low (row * k + i) (column * k + j) (omega (arith, h)) (omega (arith, l))) in
    let sum : block_total k p row column channel ≤ maxval * width * height = sum_low height (maxval * width) _ each in
    rounded_low (block_total k p row column channel) (height * width) maxval (some_sample height width high wide) (omega (arith, sum))
