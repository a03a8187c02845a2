-- Which indexes of an image a row, a column and the border have, and images that were painted. An image is an array
-- of rows and columns.
use Rattle.std.specs.Prelude.{◌≡◌, ◌≢◌, ◌<◌, ◌+◌, ◌/◌, ◌%◌, ℕ, suc, ℤ, Bool, false, ◌&&◌, ◌||◌, nat_eq, nat_lt, List, [], ◌∷◌, Option, None, Some, if◌then◌else◌, IsTrue}
use Rattle.nd_array_core.specs.Prelude.{Meaning, in_box, Table, cropped, SameTable}
use Rattle.nd_array_core.specs.SliceInfo.{coordinate_on}

-- Returns whether the coordinate `i` is the given one.
abbrev pub is_at : Option ℕ → ℕ → Bool
is_at None i = false
is_at (Some k) i = nat_eq i k

-- Returns whether the index lies in the image and in the row of this number, where a negative number counts from the
-- end.
abbrev pub in_row : List ℕ → ℤ → List ℕ → Bool
in_row (rows ∷ columns ∷ []) k (row ∷ column ∷ []) = is_at (coordinate_on rows k) row && nat_lt column columns
in_row ns k is = false

-- Returns whether the index lies in the image and in the column of this number, where a negative number counts from
-- the end.
abbrev pub in_column : List ℕ → ℤ → List ℕ → Bool
in_column (rows ∷ columns ∷ []) k (row ∷ column ∷ []) = nat_lt row rows && is_at (coordinate_on columns k) column
in_column ns k is = false

-- Returns whether the coordinate is the first or the last of an axis of length `n`.
abbrev pub is_edge : ℕ → ℕ → Bool
is_edge n i = nat_eq i 0 || nat_eq (suc i) n

-- Returns whether the index lies in the image, and in its first or last row, or in its first or last column.
abbrev pub is_border : List ℕ → List ℕ → Bool
is_border (rows ∷ columns ∷ []) (row ∷ column ∷ []) = (nat_lt row rows && nat_lt column columns) && (is_edge rows row || is_edge columns column)
is_border ns is = false

-- Returns the row that stands in the place of this one after two rows are exchanged.
abbrev pub exchanged : ℕ → ℕ → ℕ → ℕ
exchanged first second row = if nat_eq row first then second else (if nat_eq row second then first else row)

-- Returns the colour of a pixel: `even` if its row and column have an even sum, and otherwise `odd`.
abbrev pub chequered : {A : Type 0} → A → A → ℕ → ℕ → A
chequered even odd row column = if nat_eq ((row + column) % 2) 0 then even else odd

module _ {A : Type 0} where
  -- Says that each index for which the test is true has the value `x`.
  abbrev pub FillsWhere : (List ℕ → Bool) → A → (List ℕ → Option A) → Type 0
  FillsWhere test x new = (i : List ℕ) → IsTrue (test i) → new i ≡ Some x

  -- Says that each index for which the test is false has the element that it had.
  abbrev pub KeepsOthers : (List ℕ → Bool) → (List ℕ → Option A) → (List ℕ → Option A) → Type 0
  KeepsOthers test old new = (i : List ℕ) → test i ≡ false → new i ≡ old i

  -- Says that the rows of even number have the value `even`, and the others the value `odd`.
  abbrev pub IsInterleaved : List ℕ → A → A → (List ℕ → Option A) → Type 0
  IsInterleaved shape even odd new = (row column : ℕ) → IsTrue (in_box shape (row ∷ column ∷ [])) → new (row ∷ column ∷ []) ≡ Some (if nat_eq (row % 2) 0 then even else odd)

  -- Says that the columns of even number have the colour `x`, and the others their old elements.
  abbrev pub EvenColumnsPainted : A → Meaning A → (List ℕ → Option A) → Type 0
  EvenColumnsPainted x old new = (row column : ℕ) → IsTrue (in_box old.shape (row ∷ column ∷ [])) → new (row ∷ column ∷ []) ≡ if nat_eq (column % 2) 0 then Some x else old.at (row ∷ column ∷ [])

  -- Says that each cell of the square blocks of a size that follow one another down the diagonal is `x`.
  abbrev pub HasBlocks : ℕ → A → Table A → Type 0
  HasBlocks size x table = (row column : ℕ) → row < table.rows → column < table.columns → row / size ≡ column / size → table.cells row column ≡ Some x

  -- Says that each cell outside these square blocks is the same in both tables.
  abbrev pub SameOffBlocks : ℕ → Table A → Table A → Type 0
  SameOffBlocks size old new = (row column : ℕ) → row / size ≢ column / size → new.cells row column ≡ old.cells row column

  -- ---- A smaller image inside a board.
  -- Says that the part of the board from its second row and its second column on is the image.
  abbrev pub IsInside : Table A → Table A → Type 0
  IsInside image board = SameTable (cropped 1 1 image.rows image.columns board) image

  -- Says that the first and the last row, and the first and the last column, are the same in both tables.
  abbrev pub SameOnBorder : Table A → Table A → Type 0
  SameOnBorder old new =
      ((column : ℕ) → new.cells 0 column ≡ old.cells 0 column)
      × ((row column : ℕ) → row + 1 ≡ old.rows → new.cells row column ≡ old.cells row column)
      × ((row : ℕ) → new.cells row 0 ≡ old.cells row 0)
      × ((row column : ℕ) → column + 1 ≡ old.columns → new.cells row column ≡ old.cells row column)
