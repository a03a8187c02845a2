-- Lists of the samples of a picture's first rows, and of the rows after them.
use Rattle.std.proofs.Common.{◌≡◌, ◌∙◌, ℕ, zero, suc, ◌+◌, ◌-◌, ◌*◌, ◌<◌, ◌≤◌, Bool, true, false, List, [], ◌∷◌, ◌++◌, length, length-append, Some, refl, sym, ap, subst, arith, zero-mul}
use Rattle.std.specs.Prelude.{slice_get, slice_index, nat_lt}
use Rattle.std.proofs.lemmas.Bool.Decides.{nat_tests}
use Rattle.nd_picture_text.specs.declared.image_formats.Header.{Header}
use Rattle.nd_picture_text.specs.ImageFormatsAndHeaders.{pixmap_with, channels_of}
use Rattle.nd_picture.specs.PictureSampleLists.{Lists, sample_number, picture_in}
use Rattle.nd_picture.specs.PictureChanges.{Picture, rows_from}
use Rattle.nd_picture.proofs.ImageLimitsThroughSteps.{below_rows}

-- an item of a list, and of a list after another
get_left : (xs ys : List ℕ) (k : ℕ) → k < length xs → slice_get (xs ++ ys) k ≡ slice_get xs k
get_left [] ys k h = absurd (omega (arith, h))
get_left (x ∷ xs) ys zero h = refl
get_left (x ∷ xs) ys (suc k) h = get_left xs ys k (omega (arith, h))

get_right : (xs ys : List ℕ) (k : ℕ) → slice_get (xs ++ ys) (length xs + k) ≡ slice_get ys k
get_right [] ys k = let same : 0 + k ≡ k = omega arith in ap (slice_get ys) same
get_right (x ∷ xs) ys k =
    let same : suc (length xs) + k ≡ suc (length xs + k) = omega arith in
    ap (slice_get (x ∷ (xs ++ ys))) same ∙ get_right xs ys k

get_inside : (xs : List ℕ) (k : ℕ) → k < length xs → slice_get xs k ≡ Some (slice_index xs k)
get_inside [] k h = absurd (omega (arith, h))
get_inside (x ∷ xs) zero h = refl
get_inside (x ∷ xs) (suc k) h = get_inside xs k (omega (arith, h))

-- the number of a sample so many rows further down
number_after : (w c n row column channel : ℕ) → sample_number w c (n + row) column channel ≡ n * w * c + sample_number w c row column channel
number_after w c n row column channel = grind arith

rows_after : (n k w c : ℕ) → (n + k) * w * c ≡ n * w * c + k * w * c
rows_after n k w c = grind arith

number_below : (n w c row column channel : ℕ) → row < n → column < w → channel < c → sample_number w c row column channel < n * w * c
number_below n w c row column channel a b d = below_rows (n * w) channel c (row * w + column) (below_rows n column w row a b) d

-- rows and the rows after them are all of these
pub rows_join : (p : Picture) (n k : ℕ) (xs ys : List ℕ) → Lists xs (rows_from 0 n p) → Lists ys (rows_from n k p) → Lists (xs ++ ys) (rows_from 0 (n + k) p)
rows_join p n k xs ys front back = record {
  right_length = length-append xs ys ∙ omega (arith, front.right_length, back.right_length, rows_after n k p.width p.channels);
  right_samples = λ row column channel a b c. by_row row column channel a b c (nat_lt row n) refl;
}
  where
    by_row : (row column channel : ℕ) → row < n + k → column < p.width → channel < p.channels → (t : Bool) → nat_lt row n ≡ t → slice_get (xs ++ ys) (sample_number p.width p.channels row column channel) ≡ Some (p.sample_at (0 + row) column channel)
    by_row row column channel a b c true e =
        let above : row < n = grind (arith, nat_tests, e) in
        let place = number_below n p.width p.channels row column channel above b c in
        get_left xs ys (sample_number p.width p.channels row column channel) (omega (arith, place, front.right_length)) ∙ front.right_samples row column channel above b c
    by_row row column channel a b c false e =
        let below : n ≤ row = grind (arith, nat_tests, e) in
        let down : row ≡ n + (row - n) = omega (arith, below) in
        let place : sample_number p.width p.channels row column channel ≡ length xs + sample_number p.width p.channels (row - n) column channel =
        ap (λ r. sample_number p.width p.channels r column channel) down ∙ number_after p.width p.channels n (row - n) column channel ∙ ap (λ m. m + sample_number p.width p.channels (row - n) column channel) (sym front.right_length) in
        let same : n + (row - n) ≡ 0 + row = omega (arith, below) in
        ap (slice_get (xs ++ ys)) place ∙ get_right xs ys (sample_number p.width p.channels (row - n) column channel) ∙ back.right_samples (row - n) column channel (omega (arith, a, below)) b c ∙ ap (λ r. Some (p.sample_at r column channel)) same

-- all rows are the first ones and the rows after them
pub rows_split : (p : Picture) (n k : ℕ) (xs ys : List ℕ) → length xs ≡ n * p.width * p.channels → Lists (xs ++ ys) (rows_from 0 (n + k) p) → Lists xs (rows_from 0 n p) × Lists ys (rows_from n k p)
rows_split p n k xs ys size all = (
  record {
    right_length = size;
    right_samples = λ row column channel a b c.
        (let place = number_below n p.width p.channels row column channel a b c in
        sym (get_left xs ys (sample_number p.width p.channels row column channel) (omega (arith, place, size))) ∙ all.right_samples row column channel (omega (arith, a)) b c);
  },
  record {
    right_length = omega (arith, all.right_length, length-append xs ys, size, rows_after n k p.width p.channels);
    right_samples = λ row column channel a b c.
        (let place : sample_number p.width p.channels (n + row) column channel ≡ length xs + sample_number p.width p.channels row column channel = number_after p.width p.channels n row column channel ∙ ap (λ m. m + sample_number p.width p.channels row column channel) (sym size) in
        let same : 0 + (n + row) ≡ n + row = omega arith in
        sym (get_right xs ys (sample_number p.width p.channels row column channel)) ∙ ap (slice_get (xs ++ ys)) (sym place) ∙ all.right_samples (n + row) column channel (omega (arith, a)) b c ∙ ap (λ r. Some (p.sample_at r column channel)) same);
  },
)

-- the first rows of an image whose other samples may lack
pub first_rows : (h : Header) (n : ℕ) (xs : List ℕ) → length xs ≡ n * h.width * channels_of h.kind → Lists xs (rows_from 0 n (picture_in (pixmap_with h xs)))
first_rows h n xs size = record {
  right_length = size;
  right_samples = λ row column channel a b c.
      (let place = number_below n h.width (channels_of h.kind) row column channel a b c in
      let same : row ≡ 0 + row = omega arith in
      get_inside xs (sample_number h.width (channels_of h.kind) row column channel) (omega (arith, place, size)) ∙ ap (λ r. Some (slice_index xs (sample_number h.width (channels_of h.kind) r column channel))) same);
}

-- no rows
pub no_rows : (p : Picture) → Lists [] (rows_from 0 0 p)
no_rows p = record { right_length = sym (ap (λ n. n * p.channels) (zero-mul p.width) ∙ zero-mul p.channels); right_samples = λ row column channel a b c. absurd (omega (arith, a)) }

-- the rows from the first on, as many as there are
pub all_rows : (p : Picture) (n : ℕ) (xs : List ℕ) → n ≡ p.height → Lists xs (rows_from 0 n p) → Lists xs p
all_rows p n xs all is = record {
  right_length = is.right_length ∙ ap (λ m. m * p.width * p.channels) all;
  right_samples = λ row column channel a b c.
      (let same : 0 + row ≡ row = omega arith in
      is.right_samples row column channel (omega (arith, a, all)) b c ∙ ap (λ r. Some (p.sample_at r column channel)) same);
}

pub same_rows : (p : Picture) (n m : ℕ) (xs : List ℕ) → n ≡ m → Lists xs (rows_from 0 n p) → Lists xs (rows_from 0 m p)
same_rows p n m xs is rows = subst (λ k. Lists xs (rows_from 0 k p)) is rows
