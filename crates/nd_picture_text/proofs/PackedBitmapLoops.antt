-- Packed bitmaps that are written and read byte after byte.
use Rattle.std.proofs.Common.{◌≡◌, ◌∙◌, ℕ, zero, suc, ◌+◌, ◌-◌, ◌*◌, ◌/◌, ◌%◌, ◌<◌, ◌≤◌, List, [], ◌∷◌, ◌++◌, length, get_or, take, drop, length-drop, append_assoc, append-nil, Option, sym, ap, subst, arith}
use Rattle.std.specs.Prelude.{min, ◌==◌, if◌then◌else◌}
use Rattle.std.proofs.lemmas.List.{take_all, take_min, drop_min}
use Rattle.nd_text.specs.declared.watched_streams.Watched.{Watched}
use Rattle.nd_text.specs.BufferedPrinting.{Puts}
use Rattle.nd_picture_text.proofs.PackedBitmapPixels.{more_rows}
use Rattle.nd_picture_text.specs.PackedBitmaps.{row_size, pixels_of, row_pixels, rows_pixels, packed_byte, row_text, rows_text}

-- ---- reading
pub pixels_more : (xs : List ℕ) (missing b : ℕ) (whole : List ℕ) → 0 < missing → xs ++ pixels_of missing b ≡ whole → (xs ++ (1 - b / 128) ∷ []) ++ pixels_of (missing - 1) (b % 128 * 2) ≡ whole
pixels_more xs zero b whole some is = absurd (omega (arith, some))
pixels_more xs (suc missing) b whole some is =
    let less : suc missing - 1 ≡ missing = omega arith in
    append_assoc xs ((1 - b / 128) ∷ []) (pixels_of (suc missing - 1) (b % 128 * 2)) ∙ ap (λ n. xs ++ (1 - b / 128) ∷ pixels_of n (b % 128 * 2)) less ∙ is

-- what follows the first byte
after_is : (b : ℕ) (bs : List ℕ) → take (length (b ∷ bs) - 1) bs ≡ bs
after_is b bs = take_all (length (b ∷ bs) - 1) bs (omega arith)

pub row_on : (xs : List ℕ) (width : ℕ) (rest : List ℕ) (more whole : List ℕ) → 1 ≤ length rest → more ≡ xs ++ pixels_of (min width 8) (get_or rest 0 0) → xs ++ row_pixels width rest ≡ whole
    → more ++ row_pixels (width - 8) (take (length rest - 1) (drop 1 rest)) ≡ whole
row_on xs width [] more whole some e is = absurd (omega (arith, some))
row_on xs width (b ∷ bs) more whole some e is =
    ap (λ l. l ++ row_pixels (width - 8) (take (length (b ∷ bs) - 1) bs)) e
    ∙ append_assoc xs (pixels_of (min width 8) b) (row_pixels (width - 8) (take (length (b ∷ bs) - 1) bs))
    ∙ ap (λ l. xs ++ (pixels_of (min width 8) b ++ row_pixels (width - 8) l)) (after_is b bs)
    ∙ is

pub rows_on : (xs : List ℕ) (width size missing : ℕ) (rest row after more whole : List ℕ) → size ≡ row_size width → row ≡ take size rest → after ≡ drop size rest → 0 < missing → more ≡ xs ++ row_pixels width row → xs ++ rows_pixels width missing rest ≡ whole
    → more ++ rows_pixels width (missing - 1) after ≡ whole
rows_on xs width size zero rest row after more whole fits first last some e is = absurd (omega (arith, some))
rows_on xs width size (suc missing) rest row after more whole fits first last some e is =
    let less : suc missing - 1 ≡ missing = omega arith in
    let front = first ∙ ap (λ n. take n rest) fits in
    let back = last ∙ ap (λ n. drop n rest) fits in
    ap (λ l. l ++ rows_pixels width (suc missing - 1) after) e
    ∙ append_assoc xs (row_pixels width row) (rows_pixels width (suc missing - 1) after)
    ∙ ap (λ n. xs ++ (row_pixels width row ++ rows_pixels width n after)) less
    ∙ ap (λ l. xs ++ (row_pixels width l ++ rows_pixels width missing after)) front
    ∙ ap (λ l. xs ++ (row_pixels width (take (row_size width) rest) ++ rows_pixels width missing l)) back
    ∙ is

pub all_pixels : (width missing : ℕ) (xs rest whole : List ℕ) → missing ≤ 0 → xs ++ rows_pixels width missing rest ≡ whole → xs ≡ whole
all_pixels width missing xs rest whole none is =
    let zero_left : 0 ≡ missing = omega (arith, none) in
    sym (append-nil xs) ∙ ap (λ n. xs ++ rows_pixels width n rest) zero_left ∙ is

-- the bytes of the rows that are left
pub rows_fit : (missing n long : ℕ) → 0 < missing → long ≡ missing * n → n ≤ long
rows_fit zero n long some e = absurd (omega (arith, some))
rows_fit (suc missing) n long some e = omega (arith, e, more_rows missing n)

pub rows_left : (missing n long : ℕ) → 0 < missing → long ≡ missing * n → long - n ≡ (missing - 1) * n
rows_left zero n long some e = absurd (omega (arith, some))
rows_left (suc missing) n long some e =
    let less : suc missing - 1 ≡ missing = omega arith in
    let so : long - n ≡ missing * n = omega (arith, e, more_rows missing n) in
    so ∙ ap (λ m. m * n) (sym less)

pub rows_long : (width size missing : ℕ) (rest after : List ℕ) → size ≡ row_size width → 0 < missing → after ≡ drop size rest → length rest ≡ missing * row_size width → length after ≡ (missing - 1) * row_size width
rows_long width size missing rest after fits some last long =
    let n = row_size width in
    let left : length after ≡ length rest - n = ap length (last ∙ ap (λ k. drop k rest) fits) ∙ length-drop n rest in
    left ∙ rows_left missing n (length rest) some long

pub size_fits : (width size missing long : ℕ) → size ≡ row_size width → 0 < missing → long ≡ missing * row_size width → size ≤ long
size_fits width size missing long fits some e = let fit = rows_fit missing (row_size width) long some e in omega (arith, fit, fits)

-- ---- writing
pub byte_more : (w : ℕ) (rest : List ℕ) → 1 ≤ length rest → packed_byte w rest ≡ (if get_or rest 0 0 == 0 then w else 0) + packed_byte (w / 2) (take (length rest - 1) (drop 1 rest))
byte_more w [] some = absurd (omega (arith, some))
byte_more w (x ∷ xs) some = ap (λ l. (if x == 0 then w else 0) + packed_byte (w / 2) l) (sym (after_is x xs))

pub row_more : (text : List ℕ) (missing count byte : ℕ) (rest front after whole : List ℕ) → 0 < missing → count ≡ min 8 (length rest) → front ≡ take count rest → after ≡ drop count rest → byte ≡ packed_byte 128 front → text ++ row_text missing rest ≡ whole
    → (text ++ byte ∷ []) ++ row_text (missing - 1) after ≡ whole
row_more text zero count byte rest front after whole some few first last is so = absurd (omega (arith, some))
row_more text (suc missing) count byte rest front after whole some few first last is so =
    let less : suc missing - 1 ≡ missing = omega arith in
    append_assoc text (byte ∷ []) (row_text (suc missing - 1) after)
    ∙ ap (λ n. text ++ byte ∷ row_text n after) less
    ∙ ap (λ l. text ++ byte ∷ row_text missing l) (last ∙ ap (λ k. drop k rest) few ∙ drop_min 8 rest)
    ∙ ap (λ b. text ++ b ∷ row_text missing (drop 8 rest)) (is ∙ ap (packed_byte 128) (first ∙ ap (λ k. take k rest) few ∙ take_min 8 rest))
    ∙ so

pub rows_more : (text : List ℕ) (width missing count : ℕ) (rest row after whole : List ℕ) → 0 < missing → count ≡ min width (length rest) → row ≡ take count rest → after ≡ drop count rest → text ++ rows_text width missing rest ≡ whole
    → (text ++ row_text (row_size width) row) ++ rows_text width (missing - 1) after ≡ whole
rows_more text width zero count rest row after whole some few first last so = absurd (omega (arith, some))
rows_more text width (suc missing) count rest row after whole some few first last so =
    let less : suc missing - 1 ≡ missing = omega arith in
    append_assoc text (row_text (row_size width) row) (rows_text width (suc missing - 1) after)
    ∙ ap (λ n. text ++ (row_text (row_size width) row ++ rows_text width n after)) less
    ∙ ap (λ l. text ++ (row_text (row_size width) row ++ rows_text width missing l)) (last ∙ ap (λ k. drop k rest) few ∙ drop_min width rest)
    ∙ ap (λ l. text ++ (row_text (row_size width) l ++ rows_text width missing (drop width rest))) (first ∙ ap (λ k. take k rest) few ∙ take_min width rest)
    ∙ so

-- all rows are written
pub all_rows : {W : Type 0} {contents : W → Option (List ℕ)} {old new : Watched W} {held left : List ℕ} (text whole : List ℕ) → text ++ [] ≡ whole → Puts contents old held new left text → Puts contents old held new left whole
all_rows {W} {contents} {old} {new} {held} {left} text whole e puts = subst (Puts contents old held new left) (sym (append-nil text) ∙ e) puts
