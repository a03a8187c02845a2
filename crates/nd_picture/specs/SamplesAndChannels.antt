-- Arrays of rows, columns and channels: the samples that they are made of, and a channel copied from another array.
use Rattle.std.specs.Prelude.{◌≡◌, ◌<◌, ℕ, List, [], ◌∷◌, slice_get, slice_index}
use Rattle.nd_shape_and_slice.specs.ShapesAndIndexOrders.{row_rank}
use Rattle.nd_array_core.specs.ArrayMeaning.{Meaning}

-- Says that an array has a list's items in row-major order, for so many rows, columns and channels.
abbrev pub HasInOrder : Meaning ℕ → ℕ → ℕ → ℕ → List ℕ → Type 0
HasInOrder m height width channels xs =
    (row column channel : ℕ) → row < height → column < width → channel < channels
    → m.at (row ∷ column ∷ channel ∷ []) ≡ slice_get xs (row_rank (height ∷ width ∷ channels ∷ []) (row ∷ column ∷ channel ∷ []))

-- Says that at each pixel of `n` the array `m` has the same sample of the channel as `n`.
abbrev pub HasChannel : Meaning ℕ → Meaning ℕ → ℕ → Type 0
HasChannel m n channel =
    (row column : ℕ) → row < slice_index n.shape 0 → column < slice_index n.shape 1
    → m.at (row ∷ column ∷ channel ∷ []) ≡ n.at (row ∷ column ∷ channel ∷ [])

-- Says that at each pixel of `n` the array `m` has the same sample as `n` of each channel below the given one.
abbrev pub HasChannelsBelow : Meaning ℕ → Meaning ℕ → ℕ → Type 0
HasChannelsBelow m n channel = (other : ℕ) → other < channel → HasChannel m n other

-- Says that at each pixel of `n` the array `m` has the same sample as `n` of each channel.
abbrev pub HasSamplesOf : Meaning ℕ → Meaning ℕ → Type 0
HasSamplesOf m n = HasChannelsBelow m n (slice_index n.shape 2)
