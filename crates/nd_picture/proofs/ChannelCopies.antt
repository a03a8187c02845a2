-- A channel of an array written from that of another, and what the array shows once each was.
use Rattle.std.proofs.Common.{◌≡◌, ◌∙◌, ℕ, ◌+◌, ◌-◌, ◌<◌, ◌^◌, Bool, true, false, cond, List, [], ◌∷◌, ℤ, pos, negsuc, None, refl, sym, ap, arith}
use Rattle.std.proofs.lemmas.Bool.{lt-ltb}
use Rattle.std.proofs.lemmas.Bool.Decides.{nat_tests}
use Rattle.std.specs.Prelude.{◌&&◌, nat_lt, nat_eq, slice_index, max, if◌then◌else◌}
use Rattle.std.proofs.Math.Dec.{leb-zero}
use Rattle.std.proofs.Math.Nat.{sub-zero}
use Rattle.nd_shape_and_slice.specs.declared.slice_info.SliceInfoElem.{SliceInfoElem}
use Rattle.nd_shape_and_slice.specs.declared.slice_info.SliceInfoElem.TheVariants.{Slice as Part, Index}
use Rattle.nd_shape_and_slice.specs.SlicesFromRanges.{bound_of, slice_between, element_of}
use Rattle.nd_shape_and_slice.specs.ShapesAndIndexOrders.{in_box, size_of, row_rank}
use Rattle.nd_shape_and_slice.specs.DefaultAndFortranStrides.{c_strides}
use Rattle.nd_shape_and_slice.proofs.RowMajor.{row_rank_below, displacement_of-row, c_strides-full}
use Rattle.nd_shape_and_slice.specs.PlacesAndOverlaps.{displacement_of}
use Rattle.nd_shape_and_slice.specs.LayoutIndexMaps.{indexed_shape, indexed_index}
use Rattle.nd_shape_and_slice.specs.Slice.{low_of, high_of, sliced_length}
use Rattle.nd_shape_and_slice.specs.SliceInfo.{fits_shape}
use Rattle.nd_shape_and_slice.specs.IndexesNamedBySlices.{names_index, slice_names}
use Rattle.nd_shape_and_slice.proofs.IndexesWithChangedCoordinates.{in_two_axes}
use Rattle.nd_array_core.specs.ArrayMeaning.{Meaning, inside}
use Rattle.nd_array_core.specs.scoped.AssignedOrChangedParts.{index_after}
use Rattle.nd_picture.specs.PictureChanges.{Picture, Shows}
use Rattle.nd_picture.specs.SamplesAndChannels.{HasChannel, HasChannelsBelow, HasSamplesOf}

lowest : (n : ℕ) → low_of n (slice_between (pos 0) None) ≡ 0
lowest n = rw (leb-zero n) refl

highest : (n : ℕ) → high_of n (slice_between (pos 0) None) ≡ n
highest n = rw (leb-zero n) (omega arith)

whole_length : (n : ℕ) → sliced_length n (slice_between (pos 0) None) ≡ n
whole_length n = omega (arith, lowest n, highest n)

all_named : (n i : ℕ) → i < n → slice_names n (slice_between (pos 0) None) i ≡ true
all_named n i h =
    let top : max 0 n ≡ n = omega arith in
    rw (lowest n, top, lt-ltb i n h, leb-zero i) refl

bound_is : (k : ℕ) → k < 2 ^ 63 → bound_of k ≡ pos k
bound_is k h = ap (λ t. if t then pos k else negsuc (2 ^ 64 - 1 - k)) (lt-ltb k (2 ^ 63) h)

module _ (ns : List ℕ) (h w c k : ℕ) (same : ns ≡ h ∷ w ∷ c ∷ []) (within : k < c) (short : c < 2 ^ 63) (e f g : SliceInfoElem) (rows : e ≡ element_of (slice_between (pos 0) None)) (columns : f ≡ element_of (slice_between (pos 0) None)) (one : g ≡ Index (bound_of k)) where
  list_is : e ∷ f ∷ g ∷ [] ≡ Part (pos 0) None (pos 1) ∷ Part (pos 0) None (pos 1) ∷ Index (pos k) ∷ []
  list_is = (λ t. rows t ∷ columns t ∷ one t ∷ []) ∙ ap (λ b. Part (pos 0) None (pos 1) ∷ Part (pos 0) None (pos 1) ∷ Index b ∷ []) (bound_is k (omega (arith, within, short)))

  pub channel_fits : fits_shape ns (e ∷ f ∷ g ∷ []) ≡ true
  channel_fits = (λ t. fits_shape (same t) (list_is t)) ∙ rw (leb-zero h, leb-zero w, lt-ltb k c within) refl

  -- the list names each pixel's sample of the channel, and no other
  pub channel_named : (row column channel : ℕ) → row < h → column < w → names_index ns (e ∷ f ∷ g ∷ []) (row ∷ column ∷ channel ∷ []) ≡ nat_eq channel k && true
  channel_named row column channel a b = (λ t. names_index (same t) (list_is t) (row ∷ column ∷ channel ∷ [])) ∙ rw (all_named h row a, all_named w column b, lt-ltb k c within) refl

  -- the pixel that it stands for
  pub channel_after : (row column channel : ℕ) → index_after ns (e ∷ f ∷ g ∷ []) (row ∷ column ∷ channel ∷ []) ≡ row ∷ column ∷ []
  channel_after row column channel = (λ t. index_after (same t) (list_is t) (row ∷ column ∷ channel ∷ [])) ∙ (λ t. (row - lowest h t) ∷ (column - lowest w t) ∷ []) ∙ (λ t. sub-zero row t ∷ sub-zero column t ∷ [])

module _ (old new from plane : Meaning ℕ) (k : ℕ) (same : from.shape ≡ old.shape) (is : old.shape ≡ slice_index old.shape 0 ∷ slice_index old.shape 1 ∷ slice_index old.shape 2 ∷ []) (within : k < slice_index old.shape 2) (short : slice_index old.shape 2 < 2 ^ 63) (e f g : SliceInfoElem) (rows : e ≡ element_of (slice_between (pos 0) None)) (columns : f ≡ element_of (slice_between (pos 0) None)) (one : g ≡ Index (bound_of k)) where
  names : (row column channel : ℕ) → row < slice_index old.shape 0 → column < slice_index old.shape 1 → names_index old.shape (e ∷ f ∷ g ∷ []) (row ∷ column ∷ channel ∷ []) ≡ nat_eq channel k && true
  names = channel_named old.shape (slice_index old.shape 0) (slice_index old.shape 1) (slice_index old.shape 2) k is within short e f g rows columns one

  inside_old : (row column : ℕ) → row < slice_index old.shape 0 → column < slice_index old.shape 1 → in_box old.shape (row ∷ column ∷ k ∷ []) ≡ true
  inside_old row column a b = ap (λ ns. in_box ns (row ∷ column ∷ k ∷ [])) is ∙ rw (lt-ltb row (slice_index old.shape 0) a, lt-ltb column (slice_index old.shape 1) b, lt-ltb k (slice_index old.shape 2) within) refl

  -- the pixels of the plane are those of the channel
  seen : ((i : List ℕ) → plane.at i ≡ inside (indexed_shape from.shape 2) i (from.at (indexed_index 2 k i))) → (row column : ℕ) → row < slice_index old.shape 0 → column < slice_index old.shape 1 → plane.at (row ∷ column ∷ []) ≡ from.at (row ∷ column ∷ k ∷ [])
  seen shows row column a b =
      shows (row ∷ column ∷ [])
      ∙ ap (λ ns. inside (indexed_shape ns 2) (row ∷ column ∷ []) (from.at (row ∷ column ∷ k ∷ []))) (same ∙ is)
      ∙ ap (λ t. cond t (from.at (row ∷ column ∷ k ∷ [])) None) (in_two_axes (slice_index old.shape 0) (slice_index old.shape 1) row column a b)

  pub copied : ((i : List ℕ) → plane.at i ≡ inside (indexed_shape from.shape 2) i (from.at (indexed_index 2 k i))) → ((i : List ℕ) → in_box old.shape i ≡ true → names_index old.shape (e ∷ f ∷ g ∷ []) i ≡ true → new.at i ≡ plane.at (index_after old.shape (e ∷ f ∷ g ∷ []) i)) → HasChannel new from k
  copied shows named row column a b =
      let above : row < slice_index old.shape 0 = omega (arith, a, ap (λ s. slice_index s 0) same) in
      let before : column < slice_index old.shape 1 = omega (arith, b, ap (λ s. slice_index s 1) same) in
      let it : nat_eq k k ≡ true = grind (arith, nat_tests) in
      named (row ∷ column ∷ k ∷ []) (inside_old row column above before) (names row column k above before ∙ ap (λ t. t && true) it)
      ∙ ap plane.at (channel_after old.shape (slice_index old.shape 0) (slice_index old.shape 1) (slice_index old.shape 2) k is within short e f g rows columns one row column k)
      ∙ seen shows row column above before

  pub others_kept : ((i : List ℕ) → names_index old.shape (e ∷ f ∷ g ∷ []) i ≡ false → new.at i ≡ old.at i) → HasChannelsBelow new old k
  others_kept unnamed other less row column a b =
      let another : nat_eq other k ≡ false = grind (arith, nat_tests, less) in
      unnamed (row ∷ column ∷ other ∷ []) (names row column other a b ∙ ap (λ t. t && true) another)

-- one channel more is copied
pub channel_more : (old new from : Meaning ℕ) (channel : ℕ) → old.shape ≡ from.shape → HasChannel new from channel → HasChannelsBelow new old channel → HasChannelsBelow old from channel → HasChannelsBelow new from (channel + 1)
channel_more old new from channel shape last others before o h row column a b = by_test (nat_lt o channel) refl
  where
    by_test : (t : Bool) → nat_lt o channel ≡ t → new.at (row ∷ column ∷ o ∷ []) ≡ from.at (row ∷ column ∷ o ∷ [])
    by_test true e =
        let below : o < channel = grind (arith, nat_tests, e) in
        others o below row column (omega (arith, a, ap (λ s. slice_index s 0) shape)) (omega (arith, b, ap (λ s. slice_index s 1) shape)) ∙ before o below row column a b
    by_test false e =
        let same : o ≡ channel = grind (arith, nat_tests, e, h) in
        ap (λ k. new.at (row ∷ column ∷ k ∷ [])) same ∙ last row column a b ∙ ap (λ k. from.at (row ∷ column ∷ k ∷ [])) (sym same)

-- a copy shows the same pictures
pub copy_shows : (m n : Meaning ℕ) (p : Picture) → n.shape ≡ m.shape → HasSamplesOf n m → Shows m p → Shows n p
copy_shows m n p shape copied shows = record {
  right_shape = shape ∙ shows.right_shape;
  right_samples = λ row column channel a b c.
      copied channel (omega (arith, c, ap (λ s. slice_index s 2) shows.right_shape)) row column (omega (arith, a, ap (λ s. slice_index s 0) shows.right_shape)) (omega (arith, b, ap (λ s. slice_index s 1) shows.right_shape))
      ∙ shows.right_samples row column channel a b c;
}

-- the strides of fresh storage lead to each index's rank
pub ranks_lead : (ns : List ℕ) (ss : List ℤ) → ss ≡ c_strides ns → (i : List ℕ) → in_box ns i ≡ true → displacement_of ss i ≡ pos (row_rank ns i)
ranks_lead ns ss is i h =
    let some : 0 < size_of ns = omega (arith, row_rank_below ns i h) in
    ap (λ s. displacement_of s i) (is ∙ c_strides-full ns some) ∙ displacement_of-row ns i h
