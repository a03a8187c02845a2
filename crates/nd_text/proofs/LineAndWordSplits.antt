-- The first line of a text and the first word of a line, by the place where they end.
use Rattle.std.proofs.Common.{◌≡◌, ℕ, zero, suc, ◌+◌, ◌<◌, ◌≤◌, Bool, true, false, cond, eqb, ltb, not, length-drop, get_or, List, [], ◌∷◌, length, take, drop, Option, Some, None, refl, sym, ap, subst, ◌∙◌, arith}
use Rattle.std.specs.List.{position, position_or_len}
use Rattle.std.proofs.lemmas.List.{take_all, drop_all}
use Rattle.std.proofs.lemmas.Bool.{ltb-true, ltb-false, lt-ltb, le-ltb, false_from_ne_true, not-true, not-false}
use Rattle.std.proofs.lemmas.List.Sums.{position_or_len_is}
use Rattle.memchr.specs.Find.{IsFirstByte, is_byte}
use Rattle.std.specs.Int.{from_bool}
use Rattle.nd_text.specs.LinesAndWords.{before_first, lines_of, is_blank, word_goes_on, words_of, words_begun, words_after}

abbrev ends_line : ℕ → Bool
ends_line b = eqb b 10

-- ---- lines

line_longer : (b k : ℕ) (bs : List ℕ) → lines_of bs ≡ take k bs ∷ lines_of (drop (k + 1) bs) → before_first b (lines_of bs) ≡ take (1 + k) (b ∷ bs) ∷ lines_of (drop (1 + k + 1) (b ∷ bs))
line_longer b k bs h =
    let one : 1 + k ≡ suc k = omega arith in
    let two : 1 + k + 1 ≡ suc (k + 1) = omega arith in
    rw (two, one, h) refl

line_by : (t : Bool) (b : ℕ) (bs : List ℕ) → eqb b 10 ≡ t → (0 < length bs → lines_of bs ≡ take (position_or_len ends_line bs) bs ∷ lines_of (drop (position_or_len ends_line bs + 1) bs))
    → lines_of (b ∷ bs) ≡ take (position_or_len ends_line (b ∷ bs)) (b ∷ bs) ∷ lines_of (drop (position_or_len ends_line (b ∷ bs) + 1) (b ∷ bs))
line_by true b bs e h = rw e refl
line_by false b [] e h = rw e refl
line_by false b (c ∷ cs) e h = rw e (line_longer b (position_or_len ends_line (c ∷ cs)) (c ∷ cs) (h (omega arith)))

-- a text that isn't empty begins with the bytes before the first line feed
line_at : (text : List ℕ) → 0 < length text → lines_of text ≡ take (position_or_len ends_line text) text ∷ lines_of (drop (position_or_len ends_line text + 1) text)
line_at [] h = absurd (omega arith)
line_at (b ∷ bs) h = line_by (eqb b 10) b bs refl (line_at bs)

-- ---- the place of the first byte that passes

place_by : (t : Bool) (n k : ℕ) → cond t (Some n) None ≡ Some k → (t ≡ true) × (n ≡ k)
place_by true n k e = (refl, cc)
place_by false n k e = absurd cc

no_place_by : (t : Bool) (n : ℕ) (r : Option ℕ) → cond t (Some n) None ≡ r → r ≡ None → t ≡ false
no_place_by true n r e none = absurd cc
no_place_by false n r e none = refl

pub place_is : (p : ℕ → Bool) (xs : List ℕ) (k : ℕ) → position p xs ≡ Some k → (k ≡ position_or_len p xs) × (k < length xs)
place_is p xs k e =
    let h = place_by (ltb (position_or_len p xs) (length xs)) (position_or_len p xs) k e in
    (sym h.1, subst (λ (n : ℕ). n < length xs) h.1 (ltb-true _ _ h.0))

pub no_place : (p : ℕ → Bool) (xs : List ℕ) → position p xs ≡ None → length xs ≤ position_or_len p xs
no_place p xs e = ltb-false _ _ (no_place_by (ltb (position_or_len p xs) (length xs)) (position_or_len p xs) None e refl)

-- what a search for a byte finds
pub found_first : (text : List ℕ) (r : Option ℕ) → IsFirstByte (is_byte 10) text r → r ≡ position (λ b. eqb b 10) text
found_first text None nowhere =
    let n = length text in
    let end : position_or_len ends_line text ≡ n = position_or_len_is ends_line text n 0 (omega arith) (λ k lt. false_from_ne_true (ends_line (get_or text k 0)) (nowhere k (omega arith) lt)) (λ lt. absurd (omega (arith, lt))) in
    rw (end, le-ltb n n (omega arith)) refl
found_first text (Some k) here =
    let at : position_or_len ends_line text ≡ k = position_or_len_is ends_line text k 0 (omega (arith, here.0.high)) (λ j lt. false_from_ne_true (ends_line (get_or text j 0)) (here.0.before j (omega arith) lt)) (λ lt. here.1) in
    rw (at, lt-ltb k (length text) here.0.high) refl

pub line_ends : (text : List ℕ) (k : ℕ) → position (λ b. eqb b 10) text ≡ Some k → lines_of text ≡ take k text ∷ lines_of (drop (k + 1) text)
line_ends text k e =
    let at = place_is ends_line text k e in
    rw at.0 (line_at text (omega (arith, at.1)))

pub line_is_last : (text : List ℕ) → 0 < length text → position (λ b. eqb b 10) text ≡ None → lines_of text ≡ text ∷ []
line_is_last text h e =
    let n = position_or_len ends_line text in
    let end : length text ≤ n = no_place ends_line text e in
    line_at text h ∙ rw (take_all n text end, drop_all (n + 1) text (omega (arith, end))) refl

-- ---- words

word_longer : (b k : ℕ) (bs : List ℕ) → words_of bs ≡ take k bs ∷ words_of (drop k bs) → before_first b (words_of bs) ≡ take (1 + k) (b ∷ bs) ∷ words_of (drop (1 + k) (b ∷ bs))
word_longer b k bs h =
    let one : 1 + k ≡ suc k = omega arith in
    rw (one, h) refl

word_by : (t : Bool) (b k : ℕ) (bs : List ℕ) → is_blank b ≡ false → word_goes_on bs ≡ t → (t ≡ true → words_of bs ≡ take k bs ∷ words_of (drop k bs)) → (t ≡ false → k ≡ 0)
    → words_of (b ∷ bs) ≡ take (1 + k) (b ∷ bs) ∷ words_of (drop (1 + k) (b ∷ bs))
word_by true b k bs e f h z = rw (e, f) (word_longer b k bs (h refl))
word_by false b k bs e f h z = rw (e, f, z refl) refl

-- where no word goes on, no byte is before the first blank
no_front : (bs : List ℕ) → word_goes_on bs ≡ false → position_or_len is_blank bs ≡ 0
no_front [] e = refl
no_front (b ∷ bs) e = rw (not-false (is_blank b) e) refl

-- a line whose first byte isn't blank begins with the bytes before the first blank
pub word_at : (line : List ℕ) → word_goes_on line ≡ true → words_of line ≡ take (position_or_len is_blank line) line ∷ words_of (drop (position_or_len is_blank line) line)
word_at [] e = absurd cc
word_at (b ∷ bs) e =
    let starts : is_blank b ≡ false = not-true (is_blank b) e in
    let longer : position_or_len is_blank (b ∷ bs) ≡ 1 + position_or_len is_blank bs = rw starts refl in
    let k = position_or_len is_blank bs in
    subst (λ (n : ℕ). words_of (b ∷ bs) ≡ take n (b ∷ bs) ∷ words_of (drop n (b ∷ bs))) (sym longer) (word_by (word_goes_on bs) b k bs starts refl (word_at bs) (no_front bs))

past_by : (t : Bool) (b : ℕ) (bs : List ℕ) → is_blank b ≡ t → (position_or_len is_blank bs < length bs → words_of (drop (position_or_len is_blank bs) bs) ≡ words_of (drop (position_or_len is_blank bs + 1) bs))
    → position_or_len is_blank (b ∷ bs) < length (b ∷ bs) → words_of (drop (position_or_len is_blank (b ∷ bs)) (b ∷ bs)) ≡ words_of (drop (position_or_len is_blank (b ∷ bs) + 1) (b ∷ bs))
past_by true b bs e h inside = rw (e, e) refl
past_by false b bs e h inside =
    let k = position_or_len is_blank bs in
    let longer : position_or_len is_blank (b ∷ bs) ≡ 1 + k = rw e refl in
    let one : 1 + k ≡ suc k = omega arith in
    let two : 1 + k + 1 ≡ suc (k + 1) = omega arith in
    rw (longer, two, one) (h (omega (arith, longer, inside)))

-- after a word's end its blank may be left out
past : (line : List ℕ) → position_or_len is_blank line < length line → words_of (drop (position_or_len is_blank line) line) ≡ words_of (drop (position_or_len is_blank line + 1) line)
past [] inside = refl
past (b ∷ bs) inside = past_by (is_blank b) b bs refl (past bs) inside

pub word_ends : (line : List ℕ) (k : ℕ) → word_goes_on line ≡ true → position is_blank line ≡ Some k → words_of line ≡ take k line ∷ words_of (drop (k + 1) line)
word_ends line k e is =
    let at = place_is is_blank line k is in
    let inside : position_or_len is_blank line < length line = omega (arith, at.0, at.1) in
    rw at.0 (word_at line e ∙ ap (λ ws. take (position_or_len is_blank line) line ∷ ws) (past line inside))

pub word_is_last : (line : List ℕ) → word_goes_on line ≡ true → position is_blank line ≡ None → words_of line ≡ line ∷ []
word_is_last line e is =
    let n = position_or_len is_blank line in
    let end : length line ≤ n = no_place is_blank line is in
    word_at line e ∙ rw (take_all n line end, drop_all n line end) refl

-- ---- counting words

begun_by : (t g : Bool) (b n m : ℕ) (words : List (List ℕ)) → n ≡ length words → m + cond g 1 0 ≡ length words
    → (from_bool (not t) + cond t n m ≡ length (cond t words (cond g (before_first b words) ((b ∷ []) ∷ words)))) × (0 + cond t n m + cond (not t) 1 0 ≡ length (cond t words (cond g (before_first b words) ((b ∷ []) ∷ words))))
begun_by true g b n m words e f = (omega (arith, e), omega (arith, e))
begun_by false true b n m [] e f = absurd (omega (arith, f))
begun_by false true b n m (part ∷ parts) e f = (omega (arith, f), omega (arith, f))
begun_by false false b n m words e f = (omega (arith, f), omega (arith, f))

by_flag : (t : Bool) (bs : List ℕ) → words_begun t bs ≡ cond t (words_begun true bs) (words_begun false bs)
by_flag true bs = refl
by_flag false bs = refl

begun_both : (line : List ℕ) → (words_begun true line ≡ length (words_of line)) × (words_begun false line + cond (word_goes_on line) 1 0 ≡ length (words_of line))
begun_both [] = (refl, refl)
begun_both (b ∷ bs) = let h = begun_both bs in rw (by_flag (is_blank b) bs) (begun_by (is_blank b) (word_goes_on bs) b (words_begun true bs) (words_begun false bs) (words_of bs) h.0 h.1)

-- a line's words are those that begin in it
pub begun_is : (line : List ℕ) → words_begun true line ≡ length (words_of line)
begun_is line = (begun_both line).0

-- after the last byte no word begins
alone : (bytes : List ℕ) → length bytes ≤ 1 → words_after bytes ≡ 0
alone [] few = refl
alone (b ∷ []) few = refl
alone (b ∷ c ∷ bs) few = absurd (omega (arith, few))

pub last_after : (bytes : List ℕ) (i : ℕ) → length bytes ≤ i + 1 → words_after (drop i bytes) ≡ 0
last_after bytes i end = alone (drop i bytes) (omega (arith, length-drop i bytes, end))

-- the words of a block and those further on; its last byte is the one in front of these
pub after_split : (k : ℕ) (bytes : List ℕ) → k < length bytes → words_after bytes ≡ words_after (take (suc k) bytes) + words_after (drop k bytes)
after_split k [] inside = absurd (omega (arith, inside))
after_split zero (b ∷ bs) inside = omega arith
after_split (suc k) (b ∷ []) inside = absurd (omega (arith, inside))
after_split (suc k) (b ∷ c ∷ bs) inside = omega (arith, after_split k (c ∷ bs) (omega (arith, inside)))

-- the first byte, and those after it
pub begun_first : (line : List ℕ) (blank : Bool) (n : ℕ) → 0 < length line → blank ≡ is_blank (get_or line 0 0) → n ≡ from_bool (not blank) → length (words_of line) ≡ n + words_after line
begun_first [] blank n some is e = absurd (omega (arith, some))
begun_first (b ∷ bs) blank n some is e = sym (begun_is (b ∷ bs)) ∙ rw (e, is) refl
