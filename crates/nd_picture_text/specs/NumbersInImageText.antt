-- Numbers in the text of an image: decimal digits, with blanks before them, and one blank or the end after them. A
-- comment goes from a # to the end of its line, and counts as a blank.
use Rattle.std.specs.Prelude.{ℕ, ◌+◌, ◌-◌, ◌*◌, Bool, true, false, ◌||◌, ◌&&◌, not, ◌==◌, nat_le, List, [], ◌∷◌, length, Result, Ok, Err, if◌then◌else◌}
use Rattle.std.specs.Char.{is_ascii_digit}

-- Returns whether the byte is a line feed or a carriage return.
abbrev pub ends_line : ℕ → Bool
ends_line b = b == 10 || b == 13

-- Returns whether the byte is a space, a tab or one that ends a line.
abbrev pub is_whitespace : ℕ → Bool
is_whitespace b = b == 32 || (b == 9 || ends_line b)

-- Returns whether the byte begins a comment.
abbrev pub is_hash : ℕ → Bool
is_hash b = b == 35

-- Returns what follows the first byte that ends a line, or nothing if no byte does.
abbrev pub after_line : List ℕ → List ℕ
after_line [] = []
after_line (b ∷ bs) = if ends_line b then bs else after_line bs

-- Returns what follows the blanks and comments at the front, where `inside` says that the bytes begin inside a
-- comment.
abbrev pub after_gap : Bool → List ℕ → List ℕ
after_gap inside [] = []
after_gap true (b ∷ bs) = after_gap (not (ends_line b)) bs
after_gap false (b ∷ bs) = if is_hash b then after_gap true bs else (if is_whitespace b then after_gap false bs else b ∷ bs)

-- Returns what follows the one blank or comment at the front, or how many bytes are left if there is none.
abbrev pub after_blank : List ℕ → Result (List ℕ) ℕ
after_blank [] = Err 0
after_blank (b ∷ bs) = if is_hash b then Ok (after_line bs) else (if is_whitespace b then Ok bs else Err (length (b ∷ bs)))

infixl 10 ◌>>=◌
abbrev pub ◌>>=◌ : {A B E : Type 0} → Result A E → (A → Result B E) → Result B E
(Ok x) >>= f = f x
(Err n) >>= f = Err n

-- Returns whether the byte is a digit and the number `n` with it as one more digit is at most the limit.
abbrev pub image_takes_digit : ℕ → ℕ → ℕ → Bool
image_takes_digit limit n b = is_ascii_digit b && nat_le (n * 10 + (b - 48)) limit

-- Returns whether the number must have more digits, where `positive` says that it may not be 0.
abbrev pub wants_digit : Bool → ℕ → Bool
wants_digit positive n = positive && n == 0

-- Returns the number `n`, which the bytes end, and what follows the blank that ends it; or how many bytes are left if it
-- must have more digits, or if no blank stands there. The end of the bytes ends a number too.
abbrev pub number_end : Bool → ℕ → List ℕ → Result (ℕ × List ℕ) ℕ
number_end positive n [] = if wants_digit positive n then Err 0 else Ok (n, [])
number_end positive n (b ∷ bs) = if wants_digit positive n then Err (length (b ∷ bs)) else (after_blank (b ∷ bs) >>= λ rest. Ok (n, rest))

-- Returns the number whose digits so far write `n`, and what follows it and a blank; or how many bytes are left where
-- the number can't go on.
abbrev pub image_digits_after : Bool → ℕ → ℕ → List ℕ → Result (ℕ × List ℕ) ℕ
image_digits_after positive limit n [] = number_end positive n []
image_digits_after positive limit n (b ∷ bs) = if image_takes_digit limit n b then image_digits_after positive limit (n * 10 + (b - 48)) bs else number_end positive n (b ∷ bs)

-- Returns the number whose first digit is the first byte, and what follows it and a blank; or how many bytes are left
-- where it isn't one up to the limit.
abbrev pub image_number_here : Bool → ℕ → List ℕ → Result (ℕ × List ℕ) ℕ
image_number_here positive limit [] = Err 0
image_number_here positive limit (b ∷ bs) = if image_takes_digit limit 0 b then image_digits_after positive limit (b - 48) bs else Err (length (b ∷ bs))

-- Returns the number after blanks and comments, and what follows it and a blank; or how many bytes are left where it
-- isn't one up to the limit. Where `positive` is true the number may not be 0.
unfoldable pub next_number : Bool → ℕ → List ℕ → Result (ℕ × List ℕ) ℕ
next_number positive limit bytes = image_number_here positive limit (after_gap false bytes)
