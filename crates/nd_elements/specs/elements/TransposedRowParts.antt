-- Rows that are each cut into as many parts as there are rows: a table of parts whose rows and columns are exchanged.
-- What is left over at the end of a row stays there.
use Rattle.std.specs.Prelude.{◌≡◌, ◌+◌, ◌*◌, ◌++◌, ◌/◌, ◌%◌, ◌<◌, ◌≤◌, ℕ, List, length, ℤ, pos, Option, None, Some, nat_lt, if◌then◌else◌, slice_get, slice_index_or}
use Rattle.nd_layout.specs.NumberedPlacesAndWalks.{Numbered, along}
use Rattle.nd_layout.specs.declared.walk.lane.Lane.{Lane}

-- Returns the place of the number `k` along the lane, and 0 where there is no lane.
abbrev pub place_along : Option Lane → ℕ → ℤ
place_along None k = pos 0
place_along (Some lane) k = (along lane).place k

-- The numbered places of `count` elements of each lane, from the number `from` on, one lane after the other.
abbrev pub columns_of_lanes : List Lane → ℕ → ℕ → Numbered
columns_of_lanes lanes from count = record { count = length lanes * count; place = λ n. place_along (slice_get lanes (n / count)) (from + n % count) }

-- Returns the number that is exchanged with the one at `column` of `row`, in rows of length `width` that begin with
-- `rows` parts of length `part`: the same column of that part whose row and part numbers are exchanged. A number after
-- all parts of its row stays.
abbrev pub turned_in : ℕ → ℕ → ℕ → ℕ → ℕ → ℕ
turned_in rows part width row column = if nat_lt column (rows * part) then (column / part) * width + (row * part + column % part) else row * width + column

-- Returns the number that is exchanged with `n`, in rows of length `width` that begin with `rows` parts of length
-- `part`.
abbrev pub turned_number : ℕ → ℕ → ℕ → ℕ → ℕ
turned_number rows part width n = turned_in rows part width (n / width) (n % width)

-- The numbered places of `rows` rows of length `width`, once their numbers are exchanged as `turned_number` says.
abbrev pub turned_places : ℕ → ℕ → ℕ → (ℕ → ℤ) → Numbered
turned_places rows part width place = record { count = rows * width; place = λ n. place (turned_number rows part width n) }

-- The numbered places of lanes of length `width`, one after the other, once their parts of length `part` are exchanged.
abbrev pub rows_by_parts : List Lane → ℕ → ℕ → Numbered
rows_by_parts lanes part width = turned_places (length lanes) part width (columns_of_lanes lanes 0 width).place

-- The numbered places of one row once the parts are exchanged: the part `nth` of each lane, and what is left over at
-- the end of the lane `nth`.
abbrev pub part_by_parts : List Lane → ℕ → ℕ → ℕ → Numbered
part_by_parts lanes part width nth = record { count = width; place = λ n. (rows_by_parts lanes part width).place (nth * width + n) }

-- The places of `whole` with the numbers from `from` on begin with those of `part`.
pub record GoesOnAs (whole : Numbered) (from : ℕ) (part : Numbered) : Type 0 where
  pub within : from + part.count ≤ whole.count
  pub same : (k : ℕ) → k < part.count → part.place k ≡ whole.place (from + k)

-- Each lane has `width` places.
abbrev pub AreLong : ℕ → List Lane → Type 0
AreLong width lanes = (a : ℕ) (lane : Lane) → slice_get lanes a ≡ Some lane → lane.count ≡ width

-- Each lane has at least `end` places.
abbrev pub ReachTo : ℕ → List Lane → Type 0
ReachTo end lanes = (a : ℕ) (lane : Lane) → slice_get lanes a ≡ Some lane → end ≤ lane.count

-- The lane with the number `a` has `width` places, which are those of `at` from the number `a * width` on.
pub record IsRowAt (at : Numbered) (width a : ℕ) (lanes : List Lane) : Type 0 where
  pub lane : Lane
  pub is : slice_get lanes a ≡ Some lane
  pub long : lane.count ≡ width
  pub places : (k : ℕ) → k < width → (along lane).place k ≡ at.place (a * width + k)

-- The first `rows` lanes are rows of length `width` of the numbered places `at`, one after the other, and together they
-- have `size` places. There is at least one such row.
pub record HasRows (at : Numbered) (size width : ℕ) (lanes : List Lane) (rows : ℕ) : Type 0 where
  pub some : 0 < rows
  pub few : rows ≤ length lanes
  pub all : rows * width ≡ size
  pub each : (a : ℕ) → a < rows → IsRowAt at width a lanes

module _ {A : Type 0} where
  -- The list `ys` has what `xs` has, with the `count` items from `one` on and those from `other` on exchanged.
  pub record AreExchanged (one other count : ℕ) (xs ys : List A) : Type 0 where
    pub first : (k : ℕ) (d : A) → k < count → slice_index_or ys (one + k) d ≡ slice_index_or xs (other + k) d
    pub second : (k : ℕ) (d : A) → k < count → slice_index_or ys (other + k) d ≡ slice_index_or xs (one + k) d
    pub before : (n : ℕ) (d : A) → n < one → slice_index_or ys n d ≡ slice_index_or xs n d
    pub between : (n : ℕ) (d : A) → one + count ≤ n → n < other → slice_index_or ys n d ≡ slice_index_or xs n d
    pub after : (n : ℕ) (d : A) → other + count ≤ n → slice_index_or ys n d ≡ slice_index_or xs n d

  -- The list `ys` has what `xs` has, with each item whose number is below `to` exchanged with that at its
  -- `turned_number`. An item stays if neither number is below `to`.
  pub record IsTurnedBelow (rows part width to : ℕ) (xs ys : List A) : Type 0 where
    pub long : length ys ≡ length xs
    pub early : (n : ℕ) (d : A) → n < rows * width → n < to → slice_index_or ys n d ≡ slice_index_or xs (turned_number rows part width n) d
    pub paired : (n : ℕ) (d : A) → n < rows * width → turned_number rows part width n < to → slice_index_or ys n d ≡ slice_index_or xs (turned_number rows part width n) d
    pub left : (n : ℕ) (d : A) → n < rows * width → to ≤ n → to ≤ turned_number rows part width n → slice_index_or ys n d ≡ slice_index_or xs n d

  -- Says that if `old` is any list with the numbers below `from` exchanged, then `new` is that list with those below
  -- `to` exchanged.
  abbrev pub TurnsFurther : ℕ → ℕ → ℕ → ℕ → ℕ → List A → List A → Type 0
  TurnsFurther rows part width from to old new = (xs : List A) → IsTurnedBelow rows part width from xs old → IsTurnedBelow rows part width to xs new

  -- Says that `new` begins with the first `start` items of `old`, and that the items after them are those of `old` with
  -- all parts of the rows exchanged.
  abbrev pub IsTurnedAfter : ℕ → ℕ → ℕ → ℕ → List A → List A → Type 0
  IsTurnedAfter start rows part width old new = (front xs : List A) → old ≡ front ++ xs → length front ≡ start → (ys : List A) × (new ≡ front ++ ys) × IsTurnedBelow rows part width (rows * width) xs ys
