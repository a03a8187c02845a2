-- Arrays that show every k-th row or column of a picture, each sample changed, or the mean of those around it.
use Rattle.std.proofs.Common.{◌≡◌, ◌∙◌, ℕ, zero, suc, ◌+◌, ◌-◌, ◌*◌, ◌<◌, ◌≤◌, true, false, cond, List, [], ◌∷◌, None, Some, pos, refl, sym, ap, subst, arith}
use Rattle.std.proofs.Math.Nat.{mul-le-mul_left}
use Rattle.std.proofs.lemmas.Bool.Decides.{nat_tests}
use Rattle.std.specs.Prelude.{nat_le, ◌==◌, if◌then◌else◌, slice_index}
use Rattle.std.specs.Option.{option_map}
use Rattle.std.proofs.Math.Dec.{leb-zero}
use Rattle.nd_shape_and_slice.specs.ShapesAndIndexOrders.{HasCheckedSize}
use Rattle.nd_shape_and_slice.specs.declared.slice.Slice.{Slice}
use Rattle.nd_shape_and_slice.specs.Slice.{low_of, high_of, sliced_length, sliced_from, sliced_shape, sliced_index}
use Rattle.nd_array_core.specs.ArrayMeaning.{Meaning, inside}
use Rattle.nd_array_core.proofs.base_lemmas.ArraysByCoordinates.{in_three_axes}
use Rattle.nd_picture.specs.EveryKthRowSlices.{every}
use Rattle.nd_picture.specs.PictureChanges.{Picture, Shows, ceiling, rows_from, columns_from, picture_of_every_row, picture_of_every_column, picture_changed, blurred_at, picture_blurred, light_of, picture_grayed}
use Rattle.nd_picture.proofs.BlockMeans.{block_begins}

lowest : (n k : ℕ) → low_of n (every k) ≡ 0
lowest n k = rw (leb-zero n) refl

highest : (n k : ℕ) → high_of n (every k) ≡ n
highest n k = rw (leb-zero n) (omega arith)

every_length : (n k : ℕ) → sliced_length n (every k) ≡ ceiling n k
every_length n k = let range : high_of n (every k) - low_of n (every k) ≡ n = omega (arith, lowest n k, highest n k) in ap (λ r. ceiling r k) range

every_from : (n k i : ℕ) → sliced_from n (every k) i ≡ i * k
every_from n k i = omega (arith, lowest n k)

-- a picture sliced along an axis shows what the slice's shape and its indexes give
sliced_shown : (m n : Meaning ℕ) (q : Picture) (axis : ℕ) (s t : Slice) → s ≡ t → n.shape ≡ sliced_shape m.shape axis s → ((i : List ℕ) → n.at i ≡ inside (sliced_shape m.shape axis s) i (m.at (sliced_index m.shape axis s i))) → sliced_shape m.shape axis t ≡ q.height ∷ q.width ∷ q.channels ∷ []
    → ((i j l : ℕ) → i < q.height → j < q.width → l < q.channels → m.at (sliced_index m.shape axis t (i ∷ j ∷ l ∷ [])) ≡ Some (q.sample_at i j l)) → Shows n q
sliced_shown m n q axis s t is shape at sides samples = record {
  right_shape = shape ∙ ap (sliced_shape m.shape axis) is ∙ sides;
  right_samples = λ i j l a b c.
      at (i ∷ j ∷ l ∷ [])
      ∙ ap (λ u. inside (sliced_shape m.shape axis u) (i ∷ j ∷ l ∷ []) (m.at (sliced_index m.shape axis u (i ∷ j ∷ l ∷ [])))) is
      ∙ ap (λ ns. inside ns (i ∷ j ∷ l ∷ []) (m.at (sliced_index m.shape axis t (i ∷ j ∷ l ∷ [])))) sides
      ∙ ap (λ b. cond b (m.at (sliced_index m.shape axis t (i ∷ j ∷ l ∷ []))) None) (in_three_axes q.height q.width q.channels i j l a b c)
      ∙ samples i j l a b c;
}

module _ (m n : Meaning ℕ) (p : Picture) (k : ℕ) (some : 0 < k) (shows : Shows m p) where
  rows_shape : sliced_shape m.shape 0 (every k) ≡ ceiling p.height k ∷ p.width ∷ p.channels ∷ []
  rows_shape = ap (λ ns. sliced_shape ns 0 (every k)) shows.right_shape ∙ ap (λ x. x ∷ p.width ∷ p.channels ∷ []) (every_length p.height k)

  rows_source : (i j l : ℕ) → sliced_index m.shape 0 (every k) (i ∷ j ∷ l ∷ []) ≡ i * k ∷ j ∷ l ∷ []
  rows_source i j l = ap (λ ns. sliced_index ns 0 (every k) (i ∷ j ∷ l ∷ [])) shows.right_shape ∙ ap (λ x. x ∷ j ∷ l ∷ []) (every_from p.height k i)

  pub rows_shown : (s : Slice) → s ≡ every k → n.shape ≡ sliced_shape m.shape 0 s → ((i : List ℕ) → n.at i ≡ inside (sliced_shape m.shape 0 s) i (m.at (sliced_index m.shape 0 s i))) → Shows n (picture_of_every_row k p)
  rows_shown s is shape at = sliced_shown m n (picture_of_every_row k p) 0 s (every k) is shape at rows_shape (λ i j l a b c. ap m.at (rows_source i j l) ∙ shows.right_samples (i * k) j l (block_begins p.height k i some a) b c)

  columns_shape : sliced_shape m.shape 1 (every k) ≡ p.height ∷ ceiling p.width k ∷ p.channels ∷ []
  columns_shape = ap (λ ns. sliced_shape ns 1 (every k)) shows.right_shape ∙ ap (λ x. p.height ∷ x ∷ p.channels ∷ []) (every_length p.width k)

  columns_source : (i j l : ℕ) → sliced_index m.shape 1 (every k) (i ∷ j ∷ l ∷ []) ≡ i ∷ j * k ∷ l ∷ []
  columns_source i j l = ap (λ ns. sliced_index ns 1 (every k) (i ∷ j ∷ l ∷ [])) shows.right_shape ∙ ap (λ x. i ∷ x ∷ l ∷ []) (every_from p.width k j)

  pub columns_shown : (s : Slice) → s ≡ every k → n.shape ≡ sliced_shape m.shape 1 s → ((i : List ℕ) → n.at i ≡ inside (sliced_shape m.shape 1 s) i (m.at (sliced_index m.shape 1 s i))) → Shows n (picture_of_every_column k p)
  columns_shown s is shape at = sliced_shown m n (picture_of_every_column k p) 1 s (every k) is shape at columns_shape (λ i j l a b c. ap m.at (columns_source i j l) ∙ shows.right_samples i (j * k) l a (block_begins p.width k j some b) c)

-- so many coordinates from one on
abbrev from_on : ℕ → ℕ → Slice
from_on first count = record { start = pos first; end = Some (pos (first + count)); step = pos 1 }

module _ (first count n : ℕ) (fits : first + count ≤ n) where
  within : nat_le first n ≡ true
  within = grind (arith, nat_tests, fits)

  end_within : nat_le (first + count) n ≡ true
  end_within = grind (arith, nat_tests, fits)

  cut_low : low_of n (from_on first count) ≡ first
  cut_low = rw within refl

  cut_high : high_of n (from_on first count) ≡ first + count
  cut_high = rw (within, end_within) (omega arith)

  cut_length : sliced_length n (from_on first count) ≡ count
  cut_length = omega (arith, cut_low, cut_high)

  cut_from : (i : ℕ) → sliced_from n (from_on first count) i ≡ first + i
  cut_from i = omega (arith, cut_low)

module _ (m n : Meaning ℕ) (p : Picture) (first count : ℕ) (shows : Shows m p) where
  pub rows_cut : first + count ≤ slice_index m.shape 0 → (s : Slice) → s ≡ from_on first count → n.shape ≡ sliced_shape m.shape 0 s → ((i : List ℕ) → n.at i ≡ inside (sliced_shape m.shape 0 s) i (m.at (sliced_index m.shape 0 s i))) → Shows n (rows_from first count p)
  rows_cut all s is shape at =
      let fits : first + count ≤ p.height = omega (arith, all, ap (λ ns. slice_index ns 0) shows.right_shape) in
      let sides : sliced_shape m.shape 0 (from_on first count) ≡ count ∷ p.width ∷ p.channels ∷ [] = ap (λ ns. sliced_shape ns 0 (from_on first count)) shows.right_shape ∙ ap (λ x. x ∷ p.width ∷ p.channels ∷ []) (cut_length first count p.height fits) in
      sliced_shown m n (rows_from first count p) 0 s (from_on first count) is shape at sides
      (λ i j l a b c. ap m.at (ap (λ ns. sliced_index ns 0 (from_on first count) (i ∷ j ∷ l ∷ [])) shows.right_shape ∙ ap (λ x. x ∷ j ∷ l ∷ []) (cut_from first count p.height fits i)) ∙ shows.right_samples (first + i) j l (omega (arith, a, fits)) b c)

  pub columns_cut : first + count ≤ slice_index m.shape 1 → (s : Slice) → s ≡ from_on first count → n.shape ≡ sliced_shape m.shape 1 s → ((i : List ℕ) → n.at i ≡ inside (sliced_shape m.shape 1 s) i (m.at (sliced_index m.shape 1 s i))) → Shows n (columns_from first count p)
  columns_cut all s is shape at =
      let fits : first + count ≤ p.width = omega (arith, all, ap (λ ns. slice_index ns 1) shows.right_shape) in
      let sides : sliced_shape m.shape 1 (from_on first count) ≡ p.height ∷ count ∷ p.channels ∷ [] = ap (λ ns. sliced_shape ns 1 (from_on first count)) shows.right_shape ∙ ap (λ x. p.height ∷ x ∷ p.channels ∷ []) (cut_length first count p.width fits) in
      sliced_shown m n (columns_from first count p) 1 s (from_on first count) is shape at sides
      (λ i j l a b c. ap m.at (ap (λ ns. sliced_index ns 1 (from_on first count) (i ∷ j ∷ l ∷ [])) shows.right_shape ∙ ap (λ x. i ∷ x ∷ l ∷ []) (cut_from first count p.width fits j)) ∙ shows.right_samples i (first + j) l a (omega (arith, b, fits)) c)

-- each sample changed
pub changed_shown : (m n : Meaning ℕ) (f : ℕ → ℕ) (p : Picture) → n.shape ≡ m.shape → ((i : List ℕ) → n.at i ≡ option_map f (m.at i)) → Shows m p → Shows n (picture_changed f p)
changed_shown m n f p shape at shows = record {
  right_shape = shape ∙ shows.right_shape;
  right_samples = λ i j l a b c. at (i ∷ j ∷ l ∷ []) ∙ ap (option_map f) (shows.right_samples i j l a b c);
}

-- the means, by index
abbrev pub mean_of : Picture → List ℕ → ℕ
mean_of p [] = 0
mean_of p (i ∷ []) = 0
mean_of p (i ∷ j ∷ []) = 0
mean_of p (i ∷ j ∷ l ∷ []) = blurred_at p i j l
mean_of p (i ∷ j ∷ l ∷ k ∷ is) = 0

pub means_shown : (m n : Meaning ℕ) (p : Picture) (shape : List ℕ) → m.shape ≡ shape → Shows m p → n.shape ≡ shape → ((i : List ℕ) → n.at i ≡ inside shape i (Some (mean_of p i))) → Shows n (picture_blurred p)
means_shown m n p shape same shows is at = record {
  right_shape = is ∙ sym same ∙ shows.right_shape;
  right_samples = λ i j l a b c.
      at (i ∷ j ∷ l ∷ [])
      ∙ ap (λ ns. inside ns (i ∷ j ∷ l ∷ []) (Some (blurred_at p i j l))) (sym same ∙ shows.right_shape)
      ∙ ap (λ t. cond t (Some (blurred_at p i j l)) None) (in_three_axes p.height p.width p.channels i j l a b c);
}

-- how many rows and columns there are
pub sides_are : (m : Meaning ℕ) (p : Picture) (h w c : ℕ) → h ∷ w ∷ c ∷ [] ≡ m.shape → Shows m p → (h ≡ p.height) × (w ≡ p.width)
sides_are m p h w c is shows = let same : h ∷ w ∷ c ∷ [] ≡ p.height ∷ p.width ∷ p.channels ∷ [] = is ∙ shows.right_shape in (cc, cc)

-- the samples of a picture, by index
abbrev pub sample_of : Picture → List ℕ → ℕ
sample_of p [] = 0
sample_of p (i ∷ []) = 0
sample_of p (i ∷ j ∷ []) = 0
sample_of p (i ∷ j ∷ l ∷ []) = p.sample_at i j l
sample_of p (i ∷ j ∷ l ∷ k ∷ is) = 0

pub made_shown : (n : Meaning ℕ) (q : Picture) (shape : List ℕ) → shape ≡ q.height ∷ q.width ∷ q.channels ∷ [] → n.shape ≡ shape → ((i : List ℕ) → n.at i ≡ inside shape i (Some (sample_of q i))) → Shows n q
made_shown n q shape same is at = record {
  right_shape = is ∙ same;
  right_samples = λ i j l a b c.
      at (i ∷ j ∷ l ∷ [])
      ∙ ap (λ ns. inside ns (i ∷ j ∷ l ∷ []) (Some (q.sample_at i j l))) same
      ∙ ap (λ t. cond t (Some (q.sample_at i j l)) None) (in_three_axes q.height q.width q.channels i j l a b c);
}

-- three channels, and one in their place
pub three_channels : (ns : List ℕ) (r c k : ℕ) → ns ≡ r ∷ c ∷ k ∷ [] → slice_index ns 2 ≡ 3 → k ≡ 3
three_channels ns r c k is three = sym (ap (λ l. slice_index l 2) is) ∙ three

one_fewer : (r c : ℕ) → HasCheckedSize (r ∷ c ∷ 3 ∷ []) → HasCheckedSize (r ∷ c ∷ 1 ∷ [])
one_fewer zero zero h = omega (arith, h)
one_fewer zero (suc c) h = omega (arith, h)
one_fewer (suc r) zero h = omega (arith, h)
one_fewer (suc r) (suc c) h =
    let less : suc r * (suc c * 1) ≤ suc r * (suc c * 3) = mul-le-mul_left (suc r) (omega arith) in
    omega (arith, less, h)

pub one_channel : (r c k : ℕ) → k ≡ 3 → HasCheckedSize (r ∷ c ∷ k ∷ []) → HasCheckedSize (r ∷ c ∷ 1 ∷ [])
one_channel r c k three h = one_fewer r c (subst (λ l. HasCheckedSize (r ∷ c ∷ l ∷ [])) three h)

pub light_sides : (m : Meaning ℕ) (p : Picture) (r c : ℕ) → m.shape ≡ r ∷ c ∷ 3 ∷ [] → Shows m p → r ∷ c ∷ 1 ∷ [] ≡ p.height ∷ p.width ∷ 1 ∷ []
light_sides m p r c is shows =
    let same : r ∷ c ∷ 3 ∷ [] ≡ p.height ∷ p.width ∷ p.channels ∷ [] = sym is ∙ shows.right_shape in
    cc

-- without colours
pub gray_made : (m n : Meaning ℕ) (maxval : ℕ) (p : Picture) → (slice_index m.shape 2 == 3) ≡ true → Shows m p → Shows n (light_of maxval p) → Shows n (picture_grayed maxval p)
gray_made m n maxval p three shows light =
    let test : (p.channels == 3) ≡ true = sym (ap (λ ns. slice_index ns 2 == 3) shows.right_shape) ∙ three in
    subst (λ t. Shows n (if t then light_of maxval p else p)) (sym test) light

pub gray_kept : (m : Meaning ℕ) (maxval : ℕ) (p : Picture) → (slice_index m.shape 2 == 3) ≡ false → Shows m p → Shows m (picture_grayed maxval p)
gray_kept m maxval p other shows =
    let test : (p.channels == 3) ≡ false = sym (ap (λ ns. slice_index ns 2 == 3) shows.right_shape) ∙ other in
    subst (λ t. Shows m (if t then light_of maxval p else p)) (sym test) shows

-- with a border
pub border_sides : (m : Meaning ℕ) (p : Picture) (border r c k : ℕ) → Shows m p → r ≡ slice_index m.shape 0 + 2 * border → c ≡ slice_index m.shape 1 + 2 * border → k ≡ slice_index m.shape 2 → r ∷ c ∷ k ∷ [] ≡ (p.height + 2 * border) ∷ (p.width + 2 * border) ∷ p.channels ∷ []
border_sides m p border r c k shows rows columns channels =
    (λ t. rows t ∷ columns t ∷ channels t ∷ []) ∙ ap (λ ns. (slice_index ns 0 + 2 * border) ∷ (slice_index ns 1 + 2 * border) ∷ slice_index ns 2 ∷ []) shows.right_shape
