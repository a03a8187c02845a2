-- How the tokens of a head are read from the front of the bytes: marks, fixed words, quotes and numbers.
use Rattle.std.specs.Prelude.{ℕ, ◌+◌, ◌-◌, ◌*◌, ◌^◌, Bool, true, false, ◌||◌, ◌&&◌, ◌==◌, nat_lt, List, [], ◌∷◌, length, Result, Ok, Err, codes, if◌then◌else◌}
use Rattle.std.specs.Char.{is_ascii_digit}
use Rattle.nd_npy_text.specs.declared.errors.HeaderFlaw.{HeaderFlaw}
use Rattle.nd_npy_text.specs.declared.errors.HeaderFlaw.TheVariants.{Key, Truth}

-- A stop is the error of reading tokens: how many bytes are left at the place that can't be read, and what is wrong
-- there.
abbrev pub HeaderStop : Type 0
HeaderStop = ℕ × HeaderFlaw

infixl 10 ◌>>=◌
abbrev pub ◌>>=◌ : {A B E : Type 0} → Result A E → (A → Result B E) → Result B E
(Ok x) >>= f = f x
(Err e) >>= f = Err e

-- Returns what follows the spaces at the front.
abbrev pub after_spaces : List ℕ → List ℕ
after_spaces [] = []
after_spaces (b ∷ bs) = if b == 32 then after_spaces bs else b ∷ bs

-- Returns what follows a given text at the front, or `flaw` at the first byte that differs from the text, or at the end
-- if the bytes end before the text does.
abbrev pub after_text : HeaderFlaw → List ℕ → List ℕ → Result (List ℕ) HeaderStop
after_text flaw [] bytes = Ok bytes
after_text flaw (c ∷ cs) [] = Err (0, flaw)
after_text flaw (c ∷ cs) (b ∷ bs) = if b == c then after_text flaw cs bs else Err (length (b ∷ bs), flaw)

-- Returns what follows the byte `mark` at the front, where spaces may stand before it.
unfoldable pub after_mark : HeaderFlaw → ℕ → List ℕ → Result (List ℕ) HeaderStop
after_mark flaw mark bytes = after_text flaw (mark ∷ []) (after_spaces bytes)

-- Says whether a byte is one of the quotes ' and ".
abbrev pub is_quote : ℕ → Bool
is_quote b = b == 39 || b == 34

-- Returns the quote at the front, and what follows it.
abbrev pub quote_in : List ℕ → Result (ℕ × List ℕ) HeaderStop
quote_in [] = Err (0, Key)
quote_in (b ∷ bs) = if is_quote b then Ok (b, bs) else Err (length (b ∷ bs), Key)

-- Says whether the byte `b` is a digit and the number `n` followed by this digit is at most `isize::MAX`.
abbrev pub npy_takes_digit : ℕ → ℕ → Bool
npy_takes_digit n b = is_ascii_digit b && nat_lt (n * 10 + (b - 48)) (2 ^ 63)

-- Returns the number that is written as the digits of `n` and then those at the front, and what follows the last digit.
-- The error is `flaw` at the digit that makes the number pass `isize::MAX`.
abbrev pub npy_digits_after : HeaderFlaw → ℕ → List ℕ → Result (ℕ × List ℕ) HeaderStop
npy_digits_after flaw n [] = Ok (n, [])
npy_digits_after flaw n (b ∷ bs) = if is_ascii_digit b then (if npy_takes_digit n b then npy_digits_after flaw (n * 10 + (b - 48)) bs else Err (length (b ∷ bs), flaw)) else Ok (n, b ∷ bs)

-- Returns the number at the front, of at least one digit and at most `isize::MAX`, and what follows it.
abbrev pub npy_number_here : HeaderFlaw → List ℕ → Result (ℕ × List ℕ) HeaderStop
npy_number_here flaw [] = Err (0, flaw)
npy_number_here flaw (b ∷ bs) = if is_ascii_digit b then npy_digits_after flaw (b - 48) bs else Err (length (b ∷ bs), flaw)

-- Says whether the bytes begin with F.
abbrev pub begins_false : List ℕ → Bool
begins_false [] = false
begins_false (b ∷ bs) = b == 70

-- Returns whether `True` or `False` stands at the front, and what follows it.
unfoldable pub truth_here : List ℕ → Result (Bool × List ℕ) HeaderStop
truth_here bytes = if begins_false bytes then (after_text Truth (codes "False") bytes >>= λ rest. Ok (false, rest)) else (after_text Truth (codes "True") bytes >>= λ rest. Ok (true, rest))
