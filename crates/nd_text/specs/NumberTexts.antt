-- How numbers and lists of them are written.
use Rattle.std.specs.Prelude.{ℕ, ℤ, List, ◌++◌, length, codes}
use Rattle.std.specs.List.{flat_map}
use Rattle.std.specs.Fmt.{decimal, signed_decimal}

-- Returns the text of the numbers, each after a space.
abbrev pub naturals_text : List ℕ → List ℕ
naturals_text ns = flat_map (λ n. codes " " ++ decimal n) ns

-- Returns the text of the signed numbers, each after a space.
abbrev pub values_text : List ℤ → List ℕ
values_text vs = flat_map (λ v. codes " " ++ signed_decimal v) vs

-- Returns the text of a list: how many numbers it has, and then the numbers.
abbrev pub list_text : List ℕ → List ℕ
list_text ns = decimal (length ns) ++ naturals_text ns
