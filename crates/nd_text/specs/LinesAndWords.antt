-- The lines of a text, and the words of a line.
use Rattle.std.specs.Prelude.{ℕ, ◌+◌, Bool, true, false, ◌||◌, ◌&&◌, not, ◌==◌, List, [], ◌∷◌, Option, None, Some, if◌then◌else◌}
use Rattle.std.specs.Int.{from_bool}

-- Returns the parts with the byte `b` in front of the first part, or `b` as the only part if there is none.
abbrev pub before_first : ℕ → List (List ℕ) → List (List ℕ)
before_first b [] = (b ∷ []) ∷ []
before_first b (part ∷ parts) = (b ∷ part) ∷ parts

-- Returns the lines of a text, each without its line feed. The last line may lack it.
abbrev pub lines_of : List ℕ → List (List ℕ)
lines_of [] = []
lines_of (b ∷ bs) = if b == 10 then [] ∷ lines_of bs else before_first b (lines_of bs)

-- Returns whether the byte is a space, a tab or a carriage return.
abbrev pub is_blank : ℕ → Bool
is_blank b = b == 32 || (b == 9 || b == 13)

-- Returns whether a word goes on at the front of these bytes: the first byte isn't blank.
abbrev pub word_goes_on : List ℕ → Bool
word_goes_on [] = false
word_goes_on (b ∷ bs) = not (is_blank b)

-- Returns the words of a line: its longest runs of bytes that aren't blank.
abbrev pub words_of : List ℕ → List (List ℕ)
words_of [] = []
words_of (b ∷ bs) = if is_blank b then words_of bs else (if word_goes_on bs then before_first b (words_of bs) else (b ∷ []) ∷ words_of bs)

-- Returns whether a word begins with this byte, where `after_blank` says whether a blank stands before it.
abbrev pub begins_word : Bool → ℕ → Bool
begins_word after_blank b = after_blank && not (is_blank b)

-- Returns how many words begin in these bytes, where `after_blank` says whether a blank stands before them.
abbrev pub words_begun : Bool → List ℕ → ℕ
words_begun after_blank [] = 0
words_begun after_blank (b ∷ bs) = from_bool (begins_word after_blank b) + words_begun (is_blank b) bs

-- Returns how many words begin after the first of these bytes.
abbrev pub words_after : List ℕ → ℕ
words_after [] = 0
words_after (b ∷ bs) = words_begun (is_blank b) bs

-- Returns whether a line has no words.
abbrev pub is_wordless : List (List ℕ) → Bool
is_wordless [] = true
is_wordless (word ∷ words) = false

infixl 10 ◌>>=◌
abbrev pub ◌>>=◌ : {A B : Type 0} → Option A → (A → Option B) → Option B
None >>= f = None
(Some x) >>= f = f x

-- Returns what `of` makes of the first word, and the words after it.
abbrev pub first_as : {X : Type 0} → (List ℕ → Option X) → List (List ℕ) → Option (X × List (List ℕ))
first_as of [] = None
first_as of (word ∷ words) = of word >>= λ x. Some (x, words)
