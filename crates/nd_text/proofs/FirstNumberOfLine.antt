-- The number that the first word of a line writes, read up to the first blank.
use Rattle.std.proofs.Common.{◌≡◌, ℕ, suc, ◌+◌, ◌-◌, ◌*◌, ◌^◌, ◌<◌, ◌≤◌, ltb, get_or, add-one, drop-cons, Bool, true, false, cond, eqb, not, List, [], ◌∷◌, length, take, drop, ℤ, Option, Some, None, refl, sym, ap, ◌∙◌, arith}
use Rattle.std.specs.Char.{is_ascii_digit}
use Rattle.std.specs.List.{position_or_len}
use Rattle.std.specs.Option.{option_map, option_and_then}
use Rattle.std.proofs.lemmas.Bool.{ne_eqb, lt-ltb, not-true}
use Rattle.std.proofs.lemmas.Bool.Decides.{nat_tests}
use Rattle.std.proofs.lemmas.Grind.{pow_more}
use Rattle.std.proofs.Math.Nat.{pow-le-pow_right}
use Rattle.nd_text.specs.DecimalNumerals.{nat_of, int_of, with_digit, with_digits, first_digits, has_minus, without_minus, signed_of, signed_from, signed_first}
use Rattle.nd_text.specs.LinesAndWords.{is_blank, word_goes_on, words_of, first_as}
use Rattle.nd_text.proofs.DigitsRead.{after, nat_none, nat_after, int_after}
use Rattle.nd_text.proofs.LineAndWordSplits.{word_at}

-- where the first blank is
abbrev end_of : List ℕ → ℕ
end_of line = position_or_len is_blank line

-- what the bytes in front of the first blank write, and the words after it
abbrev front_as : {X : Type 0} → (List ℕ → Option X) → List ℕ → Option (X × List (List ℕ))
front_as of line = first_as of (take (end_of line) line ∷ words_of (drop (end_of line) line))

-- one step more on both sides
then_by : (r : Option ℕ) (f : ℕ → Option (ℕ × List (List ℕ))) (g : ℕ → Option ℕ) (word : List ℕ) (words : List (List ℕ)) → ((m : ℕ) → f m ≡ first_as (λ w. g m) (word ∷ words)) → option_and_then f r ≡ first_as (λ w. option_and_then g r) (word ∷ words)
then_by None f g word words e = refl
then_by (Some m) f g word words e = e m

digits_by : (t : Bool) (n b : ℕ) (bs : List ℕ) → is_blank b ≡ t → ((m : ℕ) → with_digits m bs ≡ front_as (after m) bs) → with_digits n (b ∷ bs) ≡ front_as (after n) (b ∷ bs)
digits_by true n b bs e h = rw (e, e) refl
digits_by false n b bs e h =
    let one : 1 + end_of bs ≡ suc (end_of bs) = omega arith in
    rw (e, one) (then_by (with_digit n b) (λ m. with_digits m bs) (λ m. after m (take (end_of bs) bs)) (take (end_of bs) bs) (words_of (drop (end_of bs) bs)) h)

-- digit by digit up to the first blank is what those digits write
digits_are : (n : ℕ) (line : List ℕ) → with_digits n line ≡ front_as (after n) line
digits_are n [] = refl
digits_are n (b ∷ bs) = digits_by (is_blank b) n b bs refl (λ m. digits_are m bs)

no_digit : (b : ℕ) → is_blank b ≡ true → is_ascii_digit b ≡ false
no_digit b e = grind (arith, nat_tests)

some_bytes : (b : ℕ) (bs : List ℕ) → eqb (length (b ∷ bs)) 0 ≡ false
some_bytes b bs = ne_eqb (length (b ∷ bs)) 0 (λ z. omega (arith, z))

first_by : (t : Bool) (b : ℕ) (bs : List ℕ) → is_blank b ≡ t → first_digits (b ∷ bs) ≡ front_as nat_of (b ∷ bs)
first_by true b bs e = rw (no_digit b e, e, nat_none [] refl) refl
first_by false b bs e =
    let whole : first_digits (b ∷ bs) ≡ with_digits 0 (b ∷ bs) = rw e refl in
    let one : 1 + end_of bs ≡ suc (end_of bs) = omega arith in
    let read : front_as (after 0) (b ∷ bs) ≡ front_as nat_of (b ∷ bs) = rw (e, one, nat_after (b ∷ take (end_of bs) bs) (some_bytes b (take (end_of bs) bs))) refl in
    whole ∙ digits_are 0 (b ∷ bs) ∙ read

-- the digits in front of the first blank
first_are : (line : List ℕ) → first_digits line ≡ front_as nat_of line
first_are [] = rw (nat_none [] refl) refl
first_are (b ∷ bs) = first_by (is_blank b) b bs refl

-- where a line has no blank at its front, its front is its first word
front_by : {X : Type 0} (t : Bool) (of : List ℕ → Option X) (line : List ℕ) → word_goes_on line ≡ t → t ≡ not (eqb (length line) 0) → of [] ≡ None → front_as of line ≡ first_as of (words_of line)
front_by true of line e f none = rw (word_at line e) refl
front_by false of [] e f none = rw none refl
front_by false of (b ∷ bs) e f none = let no : false ≡ true = f ∙ ap not (some_bytes b bs) in absurd cc

-- a line's first number, read of what follows the blanks at its front
pub first_number : (line rest : List ℕ) → word_goes_on rest ≡ not (eqb (length rest) 0) → words_of rest ≡ words_of line → first_digits rest ≡ first_as nat_of (words_of line)
first_number line rest front words = first_are rest ∙ front_by (word_goes_on rest) nat_of rest refl front (nat_none [] refl) ∙ ap (first_as nat_of) words

then_words : (r : Option ℤ) (words : List (List ℕ)) → first_as (λ w. r) ([] ∷ words) ≡ option_map (λ z. (z, words)) r
then_words None words = refl
then_words (Some z) words = refl

signed_then : (r : Option ℕ) (minus : Bool) (words : List (List ℕ)) → first_as (λ w. signed_from minus r) ([] ∷ words) ≡ signed_first minus (first_as (λ w. r) ([] ∷ words))
signed_then None minus words = refl
signed_then (Some n) minus words = then_words (signed_of minus n) words

signed_by : (t : Bool) (b : ℕ) (bs : List ℕ) → eqb b 45 ≡ t → is_blank b ≡ false → front_as int_of (b ∷ bs) ≡ signed_first t (first_digits (cond t bs (b ∷ bs)))
signed_by true b bs minus e =
    let one : 1 + end_of bs ≡ suc (end_of bs) = omega arith in
    let read : front_as int_of (b ∷ bs) ≡ first_as (λ w. signed_from true (nat_of (take (end_of bs) bs))) ([] ∷ words_of (drop (end_of bs) bs)) = rw (e, one, int_after (b ∷ take (end_of bs) bs), minus) refl in
    read ∙ signed_then (nat_of (take (end_of bs) bs)) true (words_of (drop (end_of bs) bs)) ∙ ap (signed_first true) (sym (first_are bs))
signed_by false b bs minus e =
    let one : 1 + end_of bs ≡ suc (end_of bs) = omega arith in
    let word = b ∷ take (end_of bs) bs in
    let words = words_of (drop (end_of bs) bs) in
    let read : front_as int_of (b ∷ bs) ≡ first_as (λ w. signed_from false (nat_of word)) ([] ∷ words) = rw (e, one, int_after word, minus) refl in
    let digits : first_as (λ w. nat_of word) ([] ∷ words) ≡ front_as nat_of (b ∷ bs) = rw (e, one) refl in
    read ∙ signed_then (nat_of word) false words ∙ ap (signed_first false) (digits ∙ sym (first_are (b ∷ bs)))

int_none : int_of [] ≡ None
int_none = rw (int_after [], nat_none [] refl) refl

int_by : (rest : List ℕ) → word_goes_on rest ≡ not (eqb (length rest) 0) → front_as int_of rest ≡ signed_first (has_minus rest) (first_digits (without_minus rest))
int_by [] front = rw int_none refl
int_by (b ∷ bs) front = signed_by (eqb b 45) b bs refl (not-true (is_blank b) (front ∙ ap not (some_bytes b bs)))

-- the same with a sign
pub first_int : (line rest digits : List ℕ) (minus : Bool) → word_goes_on rest ≡ not (eqb (length rest) 0) → words_of rest ≡ words_of line → minus ≡ has_minus rest → digits ≡ without_minus rest → signed_first minus (first_digits digits) ≡ first_as int_of (words_of line)
first_int line rest digits minus front words sign split =
    rw (sign, split) (sym (ap (first_as int_of) (sym words) ∙ sym (front_by (word_goes_on rest) int_of rest refl front int_none) ∙ int_by rest front))

-- ---- a digit and as many after it as fit

-- there is room for one more
pub room_left : (n i : ℕ) → i < 18 → n < 10 ^ (i + 1) → n * 10 + 9 < 2 ^ 64
room_left n i few below =
    let most : 10 ^ (i + 1) ≤ 10 ^ 18 = pow-le-pow_right {n = 10} (omega arith) {i = i + 1} {j = 18} (omega (arith, few)) in
    omega (arith, most, below)

-- with one digit more a number is below the next power
pub below_more : (n d i : ℕ) → d < 10 → n < 10 ^ (i + 1) → n * 10 + d < 10 ^ (i + 1 + 1)
below_more n d i digit below = rw (pow_more 10 (i + 1)) (omega (arith, digit, below))

no_blank : (b : ℕ) → is_ascii_digit b ≡ true → is_blank b ≡ false
no_blank b e = grind (arith, nat_tests)

digit_by : (n b d : ℕ) (bs : List ℕ) → is_ascii_digit b ≡ true → d ≡ b - 48 → n * 10 + d < 2 ^ 64 → with_digits n (b ∷ bs) ≡ with_digits (n * 10 + d) bs
digit_by n b d bs digit value fits =
    let small : ltb (n * 10 + (b - 48)) (2 ^ 64) ≡ true = lt-ltb (n * 10 + (b - 48)) (2 ^ 64) (omega (arith, value, fits)) in
    rw (no_blank b digit, digit, small, value) refl

-- one digit of the line more
pub digit_more : (line : List ℕ) (n d i : ℕ) (whole : Option (ℕ × List (List ℕ))) → i < length line → is_ascii_digit (get_or line i 0) ≡ true → d ≡ get_or line i 0 - 48 → n * 10 + d < 2 ^ 64 → with_digits n (drop i line) ≡ whole → with_digits (n * 10 + d) (drop (i + 1) line) ≡ whole
digit_more line n d i whole inside digit value fits so_far =
    let here : with_digits n (drop i line) ≡ with_digits n (get_or line i 0 ∷ drop (suc i) line) = ap (with_digits n) (drop-cons line i 0 inside) in
    rw add-one (sym (digit_by n (get_or line i 0) d (drop (suc i) line) digit value fits) ∙ sym here ∙ so_far)
