-- Lengths that were written, read back.
use Rattle.std.proofs.Common.{◌≡◌, ◌∙◌, ℕ, zero, suc, ◌+◌, ◌-◌, ◌*◌, ◌/◌, ◌%◌, ◌<◌, ◌≤◌, ◌^◌, Bool, true, false, List, [], ◌∷◌, ◌++◌, length, refl, sym, ap, arith, append_assoc}
use Rattle.std.specs.Prelude.{Result, Ok, nat_eq, nat_lt}
use Rattle.std.specs.Char.{is_ascii_digit}
use Rattle.std.specs.Fmt.{decimal}
use Rattle.std.specs.List.{flat_map}
use Rattle.std.proofs.lemmas.Bool.Decides.{nat_tests}
use Rattle.std.proofs.lemmas.Fmt.{decimal_by_steps}
use Rattle.nd_npy_text.specs.declared.errors.HeaderFlaw.{HeaderFlaw}
use Rattle.nd_npy_text.specs.declared.errors.HeaderFlaw.TheVariants.{Length}
use Rattle.nd_npy_text.specs.HeaderTokens.{HeaderStop, ◌>>=◌, after_mark, after_spaces, npy_digits_after, npy_number_here}
use Rattle.nd_npy_text.specs.HeaderReading.{after_length, begins_end, closes, length_in, lengths_appended, lengths_in, one_too_many}
use Rattle.nd_npy_text.specs.HeaderDescription.{product_without_zeros}
use Rattle.nd_npy_text.specs.HeaderWriting.{next_length}
use Rattle.nd_npy_text.proofs.LengthListReading.{one_read}
use Rattle.nd_npy_text.proofs.NonzeroProducts.{first_within, rest_within}

length_digit : (d : ℕ) → d < 10 → is_ascii_digit (48 + d) ≡ true
length_digit d low = grind (arith, nat_tests)

within : (n d : ℕ) → n * 10 + d < 2 ^ 63 → nat_lt (n * 10 + (48 + d - 48)) (2 ^ 63) ≡ true
within n d fits = grind (arith, nat_tests)

no_space : (d : ℕ) → nat_eq (48 + d) 32 ≡ false
no_space d = grind (arith, nat_tests)

no_end : (d : ℕ) → d < 10 → nat_eq (48 + d) 41 ≡ false
no_end d low = grind (arith, nat_tests)

module _ (flaw : HeaderFlaw) where
  -- a digit is read on
  digit_on : (n d : ℕ) (tail : List ℕ) → d < 10 → n * 10 + d < 2 ^ 63 → npy_digits_after flaw n ((48 + d) ∷ tail) ≡ npy_digits_after flaw (n * 10 + (48 + d - 48)) tail
  digit_on n d tail low fits = rw (length_digit d low, within n d fits) refl

  digit_first : (d : ℕ) (tail : List ℕ) → d < 10 → npy_number_here flaw ((48 + d) ∷ tail) ≡ npy_digits_after flaw (48 + d - 48) tail
  digit_first d tail low = rw (length_digit d low) refl

  abbrev Reads : ℕ → List ℕ → Type 0
  Reads n ds = n < 2 ^ 63 → (tail : List ℕ) → npy_number_here flaw (ds ++ tail) ≡ npy_digits_after flaw n tail

  one : (n : ℕ) → n < 10 → Reads n ((48 + n) ∷ [])
  one n low fits tail =
      let same : 48 + n - 48 ≡ n = omega arith in
      digit_first n tail low ∙ ap (λ m. npy_digits_after flaw m tail) same

  more : (n : ℕ) (ds : List ℕ) → 10 ≤ n → Reads (n / 10) ds → Reads n (ds ++ ((48 + n % 10) ∷ []))
  more n ds high reads fits tail =
      let low : n % 10 < 10 = omega arith in
      let all : n / 10 * 10 + n % 10 < 2 ^ 63 = omega (arith, fits) in
      let same : n / 10 * 10 + (48 + n % 10 - 48) ≡ n = omega arith in
      ap (npy_number_here flaw) (append_assoc ds ((48 + n % 10) ∷ []) tail)
      ∙ reads (omega (arith, fits)) ((48 + n % 10) ∷ tail)
      ∙ digit_on (n / 10) (n % 10) tail low all
      ∙ ap (λ m. npy_digits_after flaw m tail) same

  -- a number that was written is read as the same
  number_back : (n : ℕ) (tail : List ℕ) → n < 2 ^ 63 → npy_number_here flaw (decimal n ++ tail) ≡ npy_digits_after flaw n tail
  number_back n tail fits = decimal_by_steps Reads one more n (omega (arith, fits)) fits tail

-- a number begins with no space, and doesn't end the shape
abbrev Begins : ℕ → List ℕ → Type 0
Begins n ds = (tail : List ℕ) → (after_spaces (ds ++ tail) ≡ ds ++ tail) × (begins_end (ds ++ tail) ≡ false)

length_begins : (n : ℕ) → n < 2 ^ 64 → Begins n (decimal n)
length_begins n small = decimal_by_steps Begins first longer n small
  where
    first : (n : ℕ) → n < 10 → Begins n ((48 + n) ∷ [])
    first n low tail = (rw (no_space n) refl, no_end n low)

    longer : (n : ℕ) (ds : List ℕ) → 10 ≤ n → Begins (n / 10) ds → Begins n (ds ++ ((48 + n % 10) ∷ []))
    longer n ds high so tail =
        let front = so ((48 + n % 10) ∷ tail) in
        let same = append_assoc ds ((48 + n % 10) ∷ []) tail in
        (ap after_spaces same ∙ front.0 ∙ sym same, ap begins_end same ∙ front.1)

-- what follows the digits of a length, read on
abbrev after_digits : Bool → ℕ → List ℕ → Result (ℕ × List ℕ) HeaderStop
after_digits first n tail = npy_digits_after Length n tail >>= λ x. after_length first (after_spaces x.1) >>= λ rest. Ok (x.0, rest)

module _ (n : ℕ) (tail : List ℕ) (fits : n < 2 ^ 63) where
  goes_on : closes (decimal n ++ tail) ≡ false
  goes_on =
      let front = length_begins n (omega (arith, fits)) tail in
      ap begins_end front.0 ∙ front.1

  length_back : (first : Bool) → length_in first (decimal n ++ tail) ≡ after_digits first n tail
  unfolding length_in
  length_back first =
      let front = length_begins n (omega (arith, fits)) tail in
      ap (λ l. npy_number_here Length l >>= λ x. after_length first (after_spaces x.1) >>= λ rest. Ok (x.0, rest)) front.0
      ∙ ap (λ r. r >>= λ x. after_length first (after_spaces x.1) >>= λ rest. Ok (x.0, rest)) (number_back Length n tail fits)

  -- one length, and then others
  step_back : (first : Bool) (allowed : ℕ) (more : List ℕ) (xs rest : List ℕ) → 0 < allowed → after_digits first n tail ≡ Ok (n, more) → lengths_in false (allowed - 1) more ≡ Ok (xs, rest) → lengths_in first allowed (decimal n ++ tail) ≡ Ok (n ∷ xs, rest)
  step_back first allowed more xs rest some after others =
      one_read first allowed (decimal n ++ tail) goes_on some
      ∙ ap (λ r. r >>= λ x. lengths_appended (x.0 ∷ []) (lengths_in false (allowed - 1) x.1)) (length_back first ∙ after)
      ∙ ap (lengths_appended (n ∷ [])) others

-- a space before lengths makes no difference
space_skipped : (first : Bool) (allowed : ℕ) (bytes : List ℕ) → lengths_in first allowed (32 ∷ bytes) ≡ lengths_in first allowed bytes
unfolding lengths_in length_in one_too_many after_mark
space_skipped first zero bytes = refl
space_skipped first (suc allowed) bytes = refl

pub none_back : (first : Bool) (allowed : ℕ) (tail : List ℕ) → lengths_in first allowed (41 ∷ tail) ≡ Ok ([], tail)
unfolding lengths_in after_mark
none_back first zero tail = refl
none_back first (suc allowed) tail = refl

-- the first length is the only one
abbrev pub is_alone : Bool → List ℕ → Bool
is_alone false ns = false
is_alone true [] = true
is_alone true (n ∷ ns) = false

-- lengths up to the end of the shape, of which the first may stand before others
pub lengths_back : (n : ℕ) (ns : List ℕ) (first : Bool) (allowed : ℕ) (tail : List ℕ) → product_without_zeros (n ∷ ns) < 2 ^ 63 → suc (length ns) ≤ allowed → is_alone first ns ≡ false
    → lengths_in first allowed (decimal n ++ (flat_map next_length ns ++ 41 ∷ tail)) ≡ Ok (n ∷ ns, tail)
lengths_back n [] true allowed tail fits axes goes = absurd cc
lengths_back n [] false allowed tail fits axes goes =
    step_back n (41 ∷ tail) (first_within n [] fits) false allowed (41 ∷ tail) [] tail (omega (arith, axes)) refl (none_back false (allowed - 1) tail)
lengths_back n (m ∷ ms) first allowed tail fits axes goes =
    let others : List ℕ = flat_map next_length ms ++ 41 ∷ tail in
    let within = rest_within n (m ∷ ms) fits in
    let same : flat_map next_length (m ∷ ms) ++ 41 ∷ tail ≡ 44 ∷ 32 ∷ (decimal m ++ others) = ap (λ (l : List ℕ). 44 ∷ 32 ∷ l) (append_assoc (decimal m) (flat_map next_length ms) (41 ∷ tail)) in
    let left : suc (length ms) ≤ allowed - 1 = omega (arith, axes) in
    let next = space_skipped false (allowed - 1) (decimal m ++ others) ∙ lengths_back m ms false (allowed - 1) tail within left refl in
    ap (λ l. lengths_in first allowed (decimal n ++ l)) same
    ∙ step_back n (44 ∷ 32 ∷ (decimal m ++ others)) (first_within n (m ∷ ms) fits) first allowed (32 ∷ (decimal m ++ others)) (m ∷ ms) tail (omega (arith, axes)) refl next

-- an only length, with a comma after it
pub only_back : (n : ℕ) (tail : List ℕ) → n < 2 ^ 63 → lengths_in true 32 (decimal n ++ (44 ∷ 41 ∷ tail)) ≡ Ok (n ∷ [], tail)
only_back n tail fits = step_back n (44 ∷ 41 ∷ tail) fits true 32 (41 ∷ tail) [] tail (omega arith) refl (none_back false 31 tail)
