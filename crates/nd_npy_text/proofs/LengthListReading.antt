-- Lengths behind those read so far.
use Rattle.std.proofs.Common.{◌≡◌, ◌∙◌, ℕ, zero, suc, ◌-◌, ◌<◌, ◌≤◌, Bool, true, false, cond, List, [], ◌∷◌, ◌++◌, length, refl, sym, ap, arith, append_assoc, append-nil}
use Rattle.std.specs.Prelude.{Result, Ok, Err}
use Rattle.std.proofs.lemmas.List.{length-take}
use Rattle.nd_npy_text.specs.declared.errors.HeaderFlaw.TheVariants.{AfterLength}
use Rattle.nd_npy_text.specs.HeaderTokens.{HeaderStop, ◌>>=◌, after_mark}
use Rattle.nd_npy_text.specs.declared.length_list.Lengths.{Lengths}
use Rattle.nd_npy_text.specs.DictEntries.{listed}
use Rattle.nd_npy_text.specs.HeaderReading.{closes, length_in, lengths_appended, lengths_in, no_length, one_too_many}

appended_more : (xs : List ℕ) (x : ℕ) (r : Result (List ℕ × List ℕ) HeaderStop) → lengths_appended (xs ++ x ∷ []) r ≡ lengths_appended xs (lengths_appended (x ∷ []) r)
appended_more xs x (Ok ys) = ap (λ (l : List ℕ). Ok (l, ys.1)) (append_assoc xs (x ∷ []) ys.0)
appended_more xs x (Err stop) = refl

pub lengths_first : (r : Result (List ℕ × List ℕ) HeaderStop) → lengths_appended [] r ≡ r
lengths_first (Ok x) = refl
lengths_first (Err stop) = refl

-- the lengths where they end, where another one is read, and where none may be
ended : (first : Bool) (allowed : ℕ) (bs : List ℕ) → closes bs ≡ true → lengths_in first allowed bs ≡ no_length (after_mark AfterLength 41 bs)
unfolding lengths_in
ended first zero bs ends = rw ends refl
ended first (suc allowed) bs ends = rw ends refl

pub one_read : (first : Bool) (allowed : ℕ) (bs : List ℕ) → closes bs ≡ false → 0 < allowed → lengths_in first allowed bs ≡ (length_in first bs >>= λ x. lengths_appended (x.0 ∷ []) (lengths_in false (allowed - 1) x.1))
unfolding lengths_in
one_read first zero bs goes some = absurd (omega (arith, some))
one_read first (suc allowed) bs goes some =
    let less : allowed ≡ suc allowed - 1 = omega arith in
    ap (λ t. cond t (no_length (after_mark AfterLength 41 bs)) (length_in first bs >>= λ x. lengths_appended (x.0 ∷ []) (lengths_in false allowed x.1))) goes
    ∙ ap (λ n. length_in first bs >>= λ x. lengths_appended (x.0 ∷ []) (lengths_in false n x.1)) less

full : (first : Bool) (allowed : ℕ) (bs : List ℕ) → closes bs ≡ false → allowed ≡ 0 → lengths_in first allowed bs ≡ one_too_many bs
unfolding lengths_in
full first zero bs goes none = rw goes refl
full first (suc allowed) bs goes none = absurd (omega (arith, none))

module _ (first : Bool) (allowed : ℕ) (xs bs : List ℕ) (whole : Result (List ℕ × List ℕ) HeaderStop) (is : lengths_appended xs (lengths_in first allowed bs) ≡ whole) where
  pub lengths_on : (x : ℕ) (after : List ℕ) → closes bs ≡ false → 0 < allowed → length_in first bs ≡ Ok (x, after) → lengths_appended (xs ++ x ∷ []) (lengths_in false (allowed - 1) after) ≡ whole
  lengths_on x after goes some read =
      let step : lengths_in first allowed bs ≡ lengths_appended (x ∷ []) (lengths_in false (allowed - 1) after) = one_read first allowed bs goes some ∙ ap (λ r. r >>= λ x. lengths_appended (x.0 ∷ []) (lengths_in false (allowed - 1) x.1)) read in
      appended_more xs x (lengths_in false (allowed - 1) after) ∙ ap (lengths_appended xs) (sym step) ∙ is

  -- it can't be read
  pub lengths_stop : (stop : HeaderStop) → closes bs ≡ false → 0 < allowed → length_in first bs ≡ Err stop → whole ≡ Err stop
  lengths_stop stop goes some read = sym is ∙ ap (lengths_appended xs) (one_read first allowed bs goes some ∙ ap (λ r. r >>= λ x. lengths_appended (x.0 ∷ []) (lengths_in false (allowed - 1) x.1)) read)

  pub lengths_many : (stop : HeaderStop) → closes bs ≡ false → allowed ≡ 0 → one_too_many bs ≡ Err stop → whole ≡ Err stop
  lengths_many stop goes none read = sym is ∙ ap (lengths_appended xs) (full first allowed bs goes none ∙ read)

  -- the shape ends
  pub lengths_end : (after : List ℕ) → closes bs ≡ true → after_mark AfterLength 41 bs ≡ Ok after → whole ≡ Ok (xs, after)
  lengths_end after ends read = sym is ∙ ap (lengths_appended xs) (ended first allowed bs ends ∙ ap no_length read) ∙ ap (λ (l : List ℕ). Ok (l, after)) (append-nil xs)

  pub lengths_unclosed : (stop : HeaderStop) → closes bs ≡ true → after_mark AfterLength 41 bs ≡ Err stop → whole ≡ Err stop
  lengths_unclosed stop ends read = sym is ∙ ap (lengths_appended xs) (ended first allowed bs ends ∙ ap no_length read)

-- the lengths so far are few
pub listed_few : (l : Lengths) → l.count ≤ 32 → length (listed l) ≤ 32
listed_few l few = omega (arith, length-take l.count l.lengths, few)
