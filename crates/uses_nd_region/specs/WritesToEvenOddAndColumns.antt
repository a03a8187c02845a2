-- Places of a region that are written in turn.
use Rattle.std.specs.Prelude.{◌≡◌, ℕ, List, [], ◌∷◌, Bool, length, IsSome, pos, slice_set}
use Rattle.nd_region.specs.declared.divided_mutable_borrow.Region.{Region}
use Rattle.nd_region.specs.RegionPlaces.{names_not}
use Rattle.nd_region.specs.Region.{region_stored, elements_of, with_element, HasPlaces, IsWhole, IsPartWhere}

-- The even and the odd numbers below six.
abbrev pub even_places : List ℕ
even_places = 0 ∷ 2 ∷ 4 ∷ []

abbrev pub odd_places : List ℕ
odd_places = 1 ∷ 3 ∷ 5 ∷ []

-- Of three rows of four, row by row: the places of the second column, of all others, and of the fourth column.
abbrev pub second_column : List ℕ
second_column = 1 ∷ 5 ∷ 9 ∷ []

abbrev pub other_columns : List ℕ
other_columns = 0 ∷ 2 ∷ 3 ∷ 4 ∷ 6 ∷ 7 ∷ 8 ∷ 10 ∷ 11 ∷ []

abbrev pub fourth_column : List ℕ
fourth_column = 3 ∷ 7 ∷ 11 ∷ []

-- Three rows of four with 1 in the second column, and 0 in every other place.
abbrev pub ones_in_second_column : List ℕ
ones_in_second_column = 0 ∷ 1 ∷ 0 ∷ 0 ∷ 0 ∷ 1 ∷ 0 ∷ 0 ∷ 0 ∷ 1 ∷ 0 ∷ 0 ∷ []

module _ {A : Type 0} where
  -- Says that the region `r` has the places 0, .., n - 1 and no others.
  abbrev pub HasFirst : ℕ → Region A → Type 0
  HasFirst n r = (length (elements_of r) ≡ n) × IsWhole r (elements_of r)

  -- Says that the region `r` has those of the places 0, .., n - 1 that pass the test `g`.
  abbrev pub HasPassing : (ℕ → Bool) → ℕ → Region A → Type 0
  HasPassing g n r = (whole : Region A) × HasFirst n whole × IsPartWhere g whole r

  -- Says that the region `r` has each place of the list.
  abbrev pub HasEach : Region A → List ℕ → Type 0
  HasEach r [] = Unit {0}
  HasEach r (p ∷ ps) = IsSome (region_stored r p) × HasEach r ps

  -- Returns the region `r` with `x` at each place of the list.
  abbrev pub with_each : Region A → List ℕ → A → Region A
  with_each r [] x = r
  with_each r (p ∷ ps) x = with_each (with_element r p x) ps x

  -- Returns the list `xs` with `x` at each position of another list.
  abbrev pub each_set : List A → List ℕ → A → List A
  each_set xs [] x = xs
  each_set xs (p ∷ ps) x = each_set (slice_set xs p x) ps x

  -- Of three rows of four, the region has the places that the second column leaves, and so those of the fourth column.
  abbrev pub HasAllButSecondColumn : Region A → Type 0
  HasAllButSecondColumn r = HasPlaces r 3 (3 ∷ []) (pos 4 ∷ []) × HasPassing (names_not 1 (3 ∷ []) (pos 4 ∷ [])) 12 r

-- The list of three rows of four with 1 in the second column, and 2 in the fourth.
abbrev pub with_both_columns : List ℕ → List ℕ
with_both_columns xs = each_set (each_set xs second_column 1) fourth_column 2
