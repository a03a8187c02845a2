-- What is read digit by digit is what a word writes.
use Rattle.std.proofs.Common.{◌≡◌, ℕ, ◌+◌, ◌-◌, ◌*◌, ◌<◌, ◌≤◌, ◌^◌, Bool, true, false, cond, eqb, ltb, leb, ◌&&◌, List, [], ◌∷◌, length, drop, drop-cons, get_or, Option, Some, None, refl, sym, ◌∙◌, arith}
use Rattle.std.specs.List.{list_all}
use Rattle.std.specs.Option.{option_and_then}
use Rattle.std.specs.Char.{is_ascii_digit, digit_value}
use Rattle.std.specs.Str.Parse.{digits_value, digits_value_after}
use Rattle.std.proofs.lemmas.Bool.{ltb-true, ltb-false, lt-ltb, le-ltb}
use Rattle.std.proofs.lemmas.Bool.Decides.{nat_tests}
use Rattle.std.proofs.lemmas.List.{drop_all}
use Rattle.nd_text.specs.DecimalNumerals.{is_numeral, nat_of, int_of, with_digit, without_minus, has_minus, signed_of, signed_from}

-- the number that digits write after those of n, digit by digit
abbrev pub after : ℕ → List ℕ → Option ℕ
after n [] = Some n
after n (c ∷ cs) = option_and_then (λ m. after m cs) (with_digit n c)

grows : (n : ℕ) (ds : List ℕ) → n ≤ digits_value_after 10 n ds
grows n [] = omega arith
grows n (d ∷ ds) = omega (arith, grows (n * 10 + digit_value d) ds)

worth : (c : ℕ) → is_ascii_digit c ≡ true → digit_value c ≡ c - 48
worth c digit = grind (arith, nat_tests)

no_more : (b : Bool) (n : ℕ) → 2 ^ 64 ≤ n → cond (b && ltb n (2 ^ 64)) (Some n) None ≡ None
no_more true n large = rw (le-ltb n (2 ^ 64) large) refl
no_more false n large = refl

after_by : (d t : Bool) (n c v : ℕ) (cs : List ℕ) → is_ascii_digit c ≡ d → (is_ascii_digit c ≡ true → v ≡ c - 48) → ltb (n * 10 + (c - 48)) (2 ^ 64) ≡ t
    → (n * 10 + (c - 48) < 2 ^ 64 → after (n * 10 + (c - 48)) cs ≡ cond (list_all is_ascii_digit cs && ltb (digits_value_after 10 (n * 10 + (c - 48)) cs) (2 ^ 64)) (Some (digits_value_after 10 (n * 10 + (c - 48)) cs)) None)
    → after n (c ∷ cs) ≡ cond ((is_ascii_digit c && list_all is_ascii_digit cs) && ltb (digits_value_after 10 (n * 10 + v) cs) (2 ^ 64)) (Some (digits_value_after 10 (n * 10 + v) cs)) None
after_by false t n c v cs digit worth fits h = rw digit refl
after_by true true n c v cs digit worth fits h = rw (worth digit, digit, fits) (h (ltb-true (n * 10 + (c - 48)) (2 ^ 64) fits))
after_by true false n c v cs digit worth fits h =
    let large : 2 ^ 64 ≤ digits_value_after 10 (n * 10 + (c - 48)) cs = omega (arith, ltb-false (n * 10 + (c - 48)) (2 ^ 64) fits, grows (n * 10 + (c - 48)) cs) in
    rw (worth digit, digit, fits) (sym (no_more (list_all is_ascii_digit cs) (digits_value_after 10 (n * 10 + (c - 48)) cs) large))

after_is : (n : ℕ) (ds : List ℕ) → n < 2 ^ 64 → after n ds ≡ cond (list_all is_ascii_digit ds && ltb (digits_value_after 10 n ds) (2 ^ 64)) (Some (digits_value_after 10 n ds)) None
after_is n [] fits = rw (lt-ltb n (2 ^ 64) fits) refl
after_is n (c ∷ cs) fits = after_by (is_ascii_digit c) (ltb (n * 10 + (c - 48)) (2 ^ 64)) n c (digit_value c) cs refl (worth c) refl (after_is (n * 10 + (c - 48)) cs)

pub nat_none : (word : List ℕ) → eqb (length word) 0 ≡ true → nat_of word ≡ None
unfolding nat_of
nat_none word empty = rw empty refl

-- the `usize`
pub nat_after : (word : List ℕ) → eqb (length word) 0 ≡ false → nat_of word ≡ after 0 word
unfolding nat_of
nat_after word some = rw some (sym (after_is 0 word (omega arith)))

-- a byte that can't be read after those before it
pub nat_stuck : (word : List ℕ) (n i : ℕ) → eqb (length word) 0 ≡ false → i < length word → with_digit n (get_or word i 0) ≡ None → after n (drop i word) ≡ after 0 word → nat_of word ≡ None
nat_stuck word n i some inside none so_far =
    let cut : after n (drop i word) ≡ None = rw (drop-cons word i 0, none) refl in
    nat_after word some ∙ sym so_far ∙ cut

-- all bytes were read
pub nat_read : (word : List ℕ) (n i : ℕ) → eqb (length word) 0 ≡ false → length word ≤ i → after n (drop i word) ≡ after 0 word → nat_of word ≡ Some n
nat_read word n i some end so_far =
    let all : after n (drop i word) ≡ Some n = rw (drop_all i word end) refl in
    nat_after word some ∙ sym so_far ∙ all

-- the `isize` or `i64`
signed_none : (minus : Bool) (n : ℕ) → 2 ^ 64 ≤ n → signed_of minus n ≡ None
signed_none true n large = let no : leb n (2 ^ 63) ≡ false = grind (arith, nat_tests) in rw no refl
signed_none false n large = let no : ltb n (2 ^ 63) ≡ false = le-ltb n (2 ^ 63) (omega arith) in rw no refl

signed_by : (minus numeral fits : Bool) (n : ℕ) → ltb n (2 ^ 64) ≡ fits → cond numeral (signed_of minus n) None ≡ signed_from minus (cond (numeral && fits) (Some n) None)
signed_by minus false fits n e = refl
signed_by minus true true n e = refl
signed_by minus true false n e = signed_none minus n (ltb-false n (2 ^ 64) e)

pub int_after : (word : List ℕ) → int_of word ≡ signed_from (has_minus word) (nat_of (without_minus word))
unfolding nat_of int_of
int_after word =
    let digits = without_minus word in
    signed_by (has_minus word) (is_numeral digits) (ltb (digits_value 10 digits) (2 ^ 64)) (digits_value 10 digits) refl
