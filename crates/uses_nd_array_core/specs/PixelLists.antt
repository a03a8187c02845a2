-- Images of rows, columns and colours as lists of pixels.
use Rattle.std.specs.Prelude.{◌≡◌, ◌+◌, ◌*◌, ℕ, List, [], ◌∷◌, Option, IsTrue}
use Rattle.nd_array_core.specs.Prelude.{Meaning, in_box}
use Rattle.uses_nd_array_core.specs.TablesBuiltGrownAndReshaped.{IsRegrouped}

-- Says that the second shape has a row for each pixel of the first, and as many colours.
abbrev pub IsPixelShape : List ℕ → List ℕ → Type 0
IsPixelShape ns ms = (rows columns colours : ℕ) → ns ≡ rows ∷ columns ∷ colours ∷ [] → ms ≡ (rows * columns) ∷ colours ∷ []

module _ {A : Type 0} where
  -- Says that `new` has a row for each pixel of the image, and that each sample keeps its row-major rank.
  abbrev pub ArePixelsByRank : Meaning A → (List ℕ → Option A) → Type 0
  ArePixelsByRank m new = (rows columns colours : ℕ) → m.shape ≡ rows ∷ columns ∷ colours ∷ [] → IsRegrouped m ((rows * columns) ∷ colours ∷ []) new

  -- Says that `new` has a row for each pixel of the image, and that the pixels of each row of the image follow those
  -- of the row before.
  abbrev pub ArePixels : Meaning A → (ℕ → ℕ → Option A) → Type 0
  ArePixels m new = (rows columns colours row column colour : ℕ) → m.shape ≡ rows ∷ columns ∷ colours ∷ [] → IsTrue (in_box m.shape (row ∷ column ∷ colour ∷ [])) → new (row * columns + column) colour ≡ m.at (row ∷ column ∷ colour ∷ [])
