-- A law of the lines of a text: joined again they are the text.
use Rattle.std.specs.Prelude.{◌≡◌, ◌==◌, [], ◌∷◌, ◌++◌, List, ℕ, codes, if◌then◌else◌}
use Rattle.std.specs.List.{flat_map}
use Rattle.nd_text.specs.LinesAndWords.{lines_of}

-- Returns the lines one after another, each followed by a line feed.
abbrev pub joined_lines : List (List ℕ) → List ℕ
joined_lines lines = flat_map (λ line. line ++ codes "\n") lines

-- Returns the text with a line feed after its last line, if that lacks one.
abbrev pub with_last_feed : List ℕ → List ℕ
with_last_feed [] = []
with_last_feed (b ∷ []) = if b == 10 then b ∷ [] else b ∷ 10 ∷ []
with_last_feed (b ∷ c ∷ cs) = b ∷ with_last_feed (c ∷ cs)

-- The lines of a text, joined again, are the text with a line feed after its last line.
abbrev pub LinesJoinAgain : Type 0
LinesJoinAgain = (text : List ℕ) → joined_lines (lines_of text) ≡ with_last_feed text
