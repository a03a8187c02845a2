-- The number that a word writes in decimal digits.
use Rattle.std.specs.Prelude.{◌≡◌, ℕ, ◌+◌, ◌-◌, ◌*◌, ◌^◌, ◌<◌, ◌≤◌, Bool, true, false, ◌&&◌, not, ◌==◌, nat_lt, nat_le, List, [], ◌∷◌, length, ℤ, pos, neg_ℤ, Option, Some, None, ◌⊎◌, if◌then◌else◌, IsTrue}
use Rattle.std.specs.Char.{is_ascii_digit}
use Rattle.std.specs.List.{list_all}
use Rattle.std.specs.Option.{option_map, option_and_then}
use Rattle.std.specs.Str.Parse.{digits_value}
use Rattle.nd_text.specs.LinesAndWords.{is_blank, words_of}

-- Returns whether the word is one digit or more, and nothing else.
abbrev pub is_numeral : List ℕ → Bool
is_numeral word = not (length word == 0) && list_all is_ascii_digit word

-- Says that the word is a numeral, and that its digits write the number `n`.
abbrev pub IsNumeral : List ℕ → ℕ → Type 0
IsNumeral digits n = IsTrue (is_numeral digits) × (n ≡ digits_value 10 digits)

-- Says that the word writes the `usize` `n`.
abbrev pub IsNat : List ℕ → ℕ → Type 0
IsNat word n = IsNumeral word n × (n < 2 ^ 64)

-- Says that the word writes the `isize` or `i64` `z`: it is digits, or a minus sign and digits.
abbrev pub IsInt : List ℕ → ℤ → Type 0
IsInt word z =
    ((n : ℕ) × IsNumeral word n × (n < 2 ^ 63) × (z ≡ pos n))
    ⊎ ((digits : List ℕ) × (n : ℕ) × (word ≡ 45 ∷ digits) × IsNumeral digits n × (n ≤ 2 ^ 63) × (z ≡ neg_ℤ (pos n)))

-- Returns the `usize` that a word writes, or None if it writes none.
unfoldable pub nat_of : List ℕ → Option ℕ
nat_of word = if is_numeral word && nat_lt (digits_value 10 word) (2 ^ 64) then Some (digits_value 10 word) else None

-- Returns the number `n` with the digit `c` after its own digits, or None if `c` is no digit or the result no
-- `usize`.
abbrev pub with_digit : ℕ → ℕ → Option ℕ
with_digit n c = if is_ascii_digit c && nat_lt (n * 10 + (c - 48)) (2 ^ 64) then Some (n * 10 + (c - 48)) else None

-- Returns the number `n` with the digits up to the first blank after its own digits, and the words after that blank.
-- The result is None if one of these bytes is no digit or the number no `usize`.
abbrev pub with_digits : ℕ → List ℕ → Option (ℕ × List (List ℕ))
with_digits n [] = Some (n, [])
with_digits n (b ∷ bs) = if is_blank b then Some (n, words_of bs) else option_and_then (λ m. with_digits m bs) (with_digit n b)

-- Returns the `usize` that the bytes up to the first blank write, and the words after that blank, or None if they
-- write none.
abbrev pub first_digits : List ℕ → Option (ℕ × List (List ℕ))
first_digits [] = None
first_digits (b ∷ bs) = option_and_then (λ n. with_digits n bs) (with_digit 0 b)

-- Returns the bytes without the minus sign at their front, if there is one.
abbrev pub without_minus : List ℕ → List ℕ
without_minus [] = []
without_minus (b ∷ bs) = if b == 45 then bs else b ∷ bs

-- Returns whether the first byte is a minus sign.
abbrev pub has_minus : List ℕ → Bool
has_minus [] = false
has_minus (b ∷ bs) = b == 45

-- Returns the number `n`, negated if `minus` is true, or None if no `i64` holds it.
abbrev pub signed_of : Bool → ℕ → Option ℤ
signed_of true n = if nat_le n (2 ^ 63) then Some (neg_ℤ (pos n)) else None
signed_of false n = if nat_lt n (2 ^ 63) then Some (pos n) else None

-- Returns the number, negated if `minus` is true, or None if there is none or no `i64` holds it.
abbrev pub signed_from : Bool → Option ℕ → Option ℤ
signed_from minus None = None
signed_from minus (Some n) = signed_of minus n

-- Returns the number, negated if `minus` is true, and the words after it, or None if there is none or no `i64` holds
-- it.
abbrev pub signed_first : Bool → Option (ℕ × List (List ℕ)) → Option (ℤ × List (List ℕ))
signed_first minus None = None
signed_first minus (Some x) = option_map (λ z. (z, x.1)) (signed_of minus x.0)

-- Returns the `isize` or `i64` that a word writes, or None if it writes none.
unfoldable pub int_of : List ℕ → Option ℤ
int_of word = if is_numeral (without_minus word) then signed_of (has_minus word) (digits_value 10 (without_minus word)) else None
