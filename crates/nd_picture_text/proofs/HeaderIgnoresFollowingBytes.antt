-- What a header leaves of the bytes is their end. More bytes after them change nothing before these, if a byte is left.
use Rattle.std.proofs.Common.{◌≡◌, ◌∙◌, ℕ, ◌+◌, ◌-◌, ◌*◌, ◌<◌, ◌≤◌, Bool, true, false, List, [], ◌∷◌, ◌++◌, length, length-append, drop, Option, None, Some, Result, Ok, Err, refl, sym, ap, append_assoc, arith}
use lib.Seq.{drop-append_seam}
use Rattle.std.specs.Prelude.{not, if◌then◌else◌, ◌==◌}
use Rattle.nd_picture_text.specs.declared.image_formats.Kind.{Kind}
use Rattle.nd_picture_text.specs.declared.image_formats.Header.{Header}
use Rattle.nd_picture_text.specs.declared.errors.ImageFlaw.{ImageFlaw}
use Rattle.nd_picture_text.specs.declared.errors.ImageFlaw.TheVariants.{Format, Width, Height, Maxval}
use Rattle.nd_picture_text.specs.ImageFormatsAndHeaders.{is_bitmap, IsHeader}
use Rattle.nd_picture_text.specs.NumbersInImageText.{◌>>=◌, ends_line, is_whitespace, is_hash, after_line, after_gap, after_blank, image_takes_digit, wants_digit, image_digits_after, number_end, image_number_here, next_number}
use Rattle.nd_picture_text.specs.ImageReading.{ImageStop, stop_at, or_flaw, image_kind_named, after_kind, kind_in, opening, number_in, maxval_in, image_header_in}
use Rattle.nd_picture_text.specs.RowwiseImageReading.{StartsWithHeader, HasMore}

-- the end of the bytes that is left, and stays so
pub record Passes (g : List ℕ → List ℕ) (bs : List ℕ) : Type 0 where
  pub front : List ℕ
  pub parts : bs ≡ front ++ g bs
  pub goes_on : (b : ℕ) (tail more : List ℕ) → g bs ≡ b ∷ tail → g (bs ++ more) ≡ g bs ++ more

line_passes : (bs : List ℕ) → Passes after_line bs
line_passes [] = record { front = []; parts = refl; goes_on = λ b tail more e. absurd cc }
line_passes (c ∷ bs) = by_test (ends_line c) refl (line_passes bs)
  where
    by_test : (t : Bool) → ends_line c ≡ t → Passes after_line bs → Passes after_line (c ∷ bs)
    by_test true e so =
        let is : after_line (c ∷ bs) ≡ bs = ap (λ (t : Bool). if t then bs else after_line bs) e in
        record {
          front = c ∷ [];
          parts = ap (λ (l : List ℕ). c ∷ l) (sym is);
          goes_on = λ b tail more h. ap (λ (t : Bool). if t then bs ++ more else after_line (bs ++ more)) e ∙ ap (λ (l : List ℕ). l ++ more) (sym is);
        }
    by_test false e so =
        let is : after_line (c ∷ bs) ≡ after_line bs = ap (λ (t : Bool). if t then bs else after_line bs) e in
        record {
          front = c ∷ so.front;
          parts = ap (λ (l : List ℕ). c ∷ l) (so.parts ∙ ap (λ (l : List ℕ). so.front ++ l) (sym is));
          goes_on = λ b tail more h. ap (λ (t : Bool). if t then bs ++ more else after_line (bs ++ more)) e ∙ so.goes_on b tail more (sym is ∙ h) ∙ ap (λ (l : List ℕ). l ++ more) (sym is);
        }

pub gap_passes : (inside : Bool) (bs : List ℕ) → Passes (after_gap inside) bs
gap_passes inside [] = record { front = []; parts = refl; goes_on = λ b tail more e. absurd cc }
gap_passes true (c ∷ bs) =
    let so = gap_passes (not (ends_line c)) bs in
    record { front = c ∷ so.front; parts = ap (λ (l : List ℕ). c ∷ l) so.parts; goes_on = λ b tail more h. so.goes_on b tail more h }
gap_passes false (c ∷ bs) = by_tests (is_hash c) (is_whitespace c) refl refl (gap_passes true bs) (gap_passes false bs)
  where
    chosen : Bool → Bool → List ℕ → List ℕ
    chosen t u l = if t then after_gap true l else (if u then after_gap false l else c ∷ l)

    by_tests : (t u : Bool) → is_hash c ≡ t → is_whitespace c ≡ u → Passes (after_gap true) bs → Passes (after_gap false) bs → Passes (after_gap false) (c ∷ bs)
    by_tests true u e d comment so =
        let is : (l : List ℕ) → after_gap false (c ∷ l) ≡ after_gap true l = λ l. ap (λ (t : Bool). chosen t (is_whitespace c) l) e in
        record {
          front = c ∷ comment.front;
          parts = ap (λ (l : List ℕ). c ∷ l) (comment.parts ∙ ap (λ (l : List ℕ). comment.front ++ l) (sym (is bs)));
          goes_on = λ b tail more h. is (bs ++ more) ∙ comment.goes_on b tail more (sym (is bs) ∙ h) ∙ ap (λ (l : List ℕ). l ++ more) (sym (is bs));
        }
    by_tests false true e d comment so =
        let is : (l : List ℕ) → after_gap false (c ∷ l) ≡ after_gap false l = λ l. ap (λ (t : Bool). chosen t (is_whitespace c) l) e ∙ ap (λ (t : Bool). chosen false t l) d in
        record {
          front = c ∷ so.front;
          parts = ap (λ (l : List ℕ). c ∷ l) (so.parts ∙ ap (λ (l : List ℕ). so.front ++ l) (sym (is bs)));
          goes_on = λ b tail more h. is (bs ++ more) ∙ so.goes_on b tail more (sym (is bs) ∙ h) ∙ ap (λ (l : List ℕ). l ++ more) (sym (is bs));
        }
    by_tests false false e d comment so =
        let is : (l : List ℕ) → after_gap false (c ∷ l) ≡ c ∷ l = λ l. ap (λ (t : Bool). chosen t (is_whitespace c) l) e ∙ ap (λ (t : Bool). chosen false t l) d in
        record {
          front = [];
          parts = sym (is bs);
          goes_on = λ b tail more h. is (bs ++ more) ∙ ap (λ (l : List ℕ). l ++ more) (sym (is bs));
        }

-- what a reader that gives a value takes from the front of the bytes, and what it gives with more bytes after them
pub record Yields {X E : Type 0} (f : List ℕ → Result (X × List ℕ) E) (bs : List ℕ) (x : X) (rest : List ℕ) : Type 0 where
  pub front : List ℕ
  pub parts : bs ≡ front ++ rest
  pub goes_on : (b : ℕ) (tail more : List ℕ) → rest ≡ b ∷ tail → f (bs ++ more) ≡ Ok (x, rest ++ more)

-- bytes of which one is left are some
pub some_before : (bs front rest : List ℕ) (b : ℕ) (tail : List ℕ) → bs ≡ front ++ rest → rest ≡ b ∷ tail → (c : ℕ) × (others : List ℕ) × (bs ≡ c ∷ others)
some_before [] front rest b tail parts left = absurd (omega (arith, length-append front (b ∷ tail), ap length parts, ap (λ (l : List ℕ). length (front ++ l)) left))
some_before (c ∷ others) front rest b tail parts left = (c, others, refl)

-- a result has one value, and leaves one end
pub same_pair : {X E : Type 0} (r : Result (X × List ℕ) E) (x y : X) (l m : List ℕ) → r ≡ Ok (x, l) → r ≡ Ok (y, m) → (x ≡ y) × (l ≡ m)
same_pair {X} {E} r x y l m d e =
    let same : (x, l) ≡ (y, m) = cc in
    (ap (λ (z : X × List ℕ). z.0) same, ap (λ (z : X × List ℕ). z.1) same)

abbrev blank_then : {X : Type 0} → X → List ℕ → Result (X × List ℕ) ℕ
blank_then x bs = after_blank bs >>= λ rest. Ok (x, rest)

blank_yields : {X : Type 0} (x y : X) (bs rest : List ℕ) → blank_then x bs ≡ Ok (y, rest) → Yields (blank_then x) bs y rest
blank_yields {X} x y [] rest is = absurd cc
blank_yields {X} x y (c ∷ bs) rest is = by_tests (is_hash c) (is_whitespace c) refl refl (line_passes bs)
  where
    chosen : Bool → Bool → List ℕ → Result (X × List ℕ) ℕ
    chosen t u l = (if t then Ok (after_line l) else (if u then Ok l else Err (length (c ∷ l)))) >>= λ rest. Ok (x, rest)

    by_tests : (t u : Bool) → is_hash c ≡ t → is_whitespace c ≡ u → Passes after_line bs → Yields (blank_then x) (c ∷ bs) y rest
    by_tests true u e d line =
        let so : (l : List ℕ) → blank_then x (c ∷ l) ≡ Ok (x, after_line l) = λ l. ap (λ (t : Bool). chosen t (is_whitespace c) l) e in
        let same = same_pair (blank_then x (c ∷ bs)) x y (after_line bs) rest (so bs) is in
        let value : x ≡ y = same.0 in
        let left : after_line bs ≡ rest = same.1 in
        record {
          front = c ∷ line.front;
          parts = ap (λ (l : List ℕ). c ∷ l) (line.parts ∙ ap (λ (l : List ℕ). line.front ++ l) left);
          goes_on = λ b tail more h. so (bs ++ more) ∙ ap (λ (l : List ℕ). Ok (x, l)) (line.goes_on b tail more (left ∙ h) ∙ ap (λ (l : List ℕ). l ++ more) left) ∙ ap (λ (z : X). Ok (z, rest ++ more)) value;
        }
    by_tests false true e d line =
        let so : (l : List ℕ) → blank_then x (c ∷ l) ≡ Ok (x, l) = λ l. ap (λ (t : Bool). chosen t (is_whitespace c) l) e ∙ ap (λ (t : Bool). chosen false t l) d in
        let same = same_pair (blank_then x (c ∷ bs)) x y bs rest (so bs) is in
        let value : x ≡ y = same.0 in
        let left : bs ≡ rest = same.1 in
        record {
          front = c ∷ [];
          parts = ap (λ (l : List ℕ). c ∷ l) left;
          goes_on = λ b tail more h. so (bs ++ more) ∙ ap (λ (l : List ℕ). Ok (x, l ++ more)) left ∙ ap (λ (z : X). Ok (z, rest ++ more)) value;
        }
    by_tests false false e d line =
        let so : blank_then x (c ∷ bs) ≡ Err (length (c ∷ bs)) = ap (λ (t : Bool). chosen t (is_whitespace c) bs) e ∙ ap (λ (t : Bool). chosen false t bs) d in
        absurd cc

module _ (positive : Bool) (limit : ℕ) where
  end_yields : (n x : ℕ) (bs rest : List ℕ) → number_end positive n bs ≡ Ok (x, rest) → Yields (number_end positive n) bs x rest
  end_yields n x [] rest is = by_test (wants_digit positive n) refl
    where
      by_test : (t : Bool) → wants_digit positive n ≡ t → Yields (number_end positive n) [] x rest
      by_test true e =
          let so : number_end positive n [] ≡ Err 0 = ap (λ (t : Bool). if t then Err 0 else Ok (n, [])) e in
          absurd cc
      by_test false e =
          let so : number_end positive n [] ≡ Ok (n, []) = ap (λ (t : Bool). if t then Err 0 else Ok (n, [])) e in
          let left : rest ≡ [] = (same_pair (number_end positive n []) x n rest [] is so).1 in
          record { front = []; parts = sym left; goes_on = λ b tail more h. let none : [] ≡ b ∷ tail = sym left ∙ h in absurd cc }
  end_yields n x (c ∷ bs) rest is = by_test (wants_digit positive n) refl
    where
      by_test : (t : Bool) → wants_digit positive n ≡ t → Yields (number_end positive n) (c ∷ bs) x rest
      by_test true e =
          let so : number_end positive n (c ∷ bs) ≡ Err (length (c ∷ bs)) = ap (λ (t : Bool). if t then Err (length (c ∷ bs)) else blank_then n (c ∷ bs)) e in
          absurd cc
      by_test false e =
          let so : (l : List ℕ) → number_end positive n (c ∷ l) ≡ blank_then n (c ∷ l) = λ l. ap (λ (t : Bool). if t then Err (length (c ∷ l)) else blank_then n (c ∷ l)) e in
          let blank = blank_yields n x (c ∷ bs) rest (sym (so bs) ∙ is) in
          record { front = blank.front; parts = blank.parts; goes_on = λ b tail more h. so (bs ++ more) ∙ blank.goes_on b tail more h }

  digits_yield : (bs : List ℕ) (n x : ℕ) (rest : List ℕ) → image_digits_after positive limit n bs ≡ Ok (x, rest) → Yields (image_digits_after positive limit n) bs x rest
  digits_yield [] n x rest is =
      let end = end_yields n x [] rest is in
      record { front = end.front; parts = end.parts; goes_on = λ b tail more h. let none : [] ≡ end.front ++ (b ∷ tail) = end.parts ∙ ap (λ (l : List ℕ). end.front ++ l) h in absurd (omega (arith, length-append end.front (b ∷ tail), ap length none)) }
  digits_yield (c ∷ bs) n x rest is = by_test (image_takes_digit limit n c) refl (digits_yield bs (n * 10 + (c - 48)) x rest)
    where
      by_test : (t : Bool) → image_takes_digit limit n c ≡ t → (image_digits_after positive limit (n * 10 + (c - 48)) bs ≡ Ok (x, rest) → Yields (image_digits_after positive limit (n * 10 + (c - 48))) bs x rest) → Yields (image_digits_after positive limit n) (c ∷ bs) x rest
      by_test true e others =
          let so : (l : List ℕ) → image_digits_after positive limit n (c ∷ l) ≡ image_digits_after positive limit (n * 10 + (c - 48)) l = λ l. ap (λ (t : Bool). if t then image_digits_after positive limit (n * 10 + (c - 48)) l else number_end positive n (c ∷ l)) e in
          let rests = others (sym (so bs) ∙ is) in
          record { front = c ∷ rests.front; parts = ap (λ (l : List ℕ). c ∷ l) rests.parts; goes_on = λ b tail more h. so (bs ++ more) ∙ rests.goes_on b tail more h }
      by_test false e others =
          let so : (l : List ℕ) → image_digits_after positive limit n (c ∷ l) ≡ number_end positive n (c ∷ l) = λ l. ap (λ (t : Bool). if t then image_digits_after positive limit (n * 10 + (c - 48)) l else number_end positive n (c ∷ l)) e in
          let end = end_yields n x (c ∷ bs) rest (sym (so bs) ∙ is) in
          record { front = end.front; parts = end.parts; goes_on = λ b tail more h. so (bs ++ more) ∙ end.goes_on b tail more h }

  here_yields : (bs : List ℕ) (x : ℕ) (rest : List ℕ) → image_number_here positive limit bs ≡ Ok (x, rest) → Yields (image_number_here positive limit) bs x rest
  here_yields [] x rest is = absurd cc
  here_yields (c ∷ bs) x rest is = by_test (image_takes_digit limit 0 c) refl
    where
      by_test : (t : Bool) → image_takes_digit limit 0 c ≡ t → Yields (image_number_here positive limit) (c ∷ bs) x rest
      by_test true e =
          let so : (l : List ℕ) → image_number_here positive limit (c ∷ l) ≡ image_digits_after positive limit (c - 48) l = λ l. ap (λ (t : Bool). if t then image_digits_after positive limit (c - 48) l else Err (length (c ∷ l))) e in
          let rests = digits_yield bs (c - 48) x rest (sym (so bs) ∙ is) in
          record { front = c ∷ rests.front; parts = ap (λ (l : List ℕ). c ∷ l) rests.parts; goes_on = λ b tail more h. so (bs ++ more) ∙ rests.goes_on b tail more h }
      by_test false e =
          let so : image_number_here positive limit (c ∷ bs) ≡ Err (length (c ∷ bs)) = ap (λ (t : Bool). if t then image_digits_after positive limit (c - 48) bs else Err (length (c ∷ bs))) e in
          absurd cc

  -- the bytes after a gap, of which some are there
  gap_yields : (bs gap : List ℕ) (x : ℕ) (rest : List ℕ) → after_gap false bs ≡ gap → image_number_here positive limit gap ≡ Ok (x, rest) → Yields (λ l. image_number_here positive limit (after_gap false l)) bs x rest
  gap_yields bs [] x rest e is = absurd cc
  gap_yields bs (c ∷ gap) x rest e is =
      let passes = gap_passes false bs in
      let here = here_yields (c ∷ gap) x rest is in
      record {
        front = passes.front ++ here.front;
        parts = passes.parts ∙ ap (λ (l : List ℕ). passes.front ++ l) (e ∙ here.parts) ∙ sym (append_assoc passes.front here.front rest);
        goes_on = λ b tail more h. ap (image_number_here positive limit) (passes.goes_on c gap more e ∙ ap (λ (l : List ℕ). l ++ more) e) ∙ here.goes_on b tail more h;
      }

  number_yields : (bs : List ℕ) (x : ℕ) (rest : List ℕ) → next_number positive limit bs ≡ Ok (x, rest) → Yields (next_number positive limit) bs x rest
  unfolding next_number
  number_yields bs x rest is = gap_yields bs (after_gap false bs) x rest refl is

  pub flaw_yields : (flaw : ImageFlaw) (bs : List ℕ) (x : ℕ) (rest : List ℕ) → number_in flaw positive limit bs ≡ Ok (x, rest) → Yields (number_in flaw positive limit) bs x rest
  flaw_yields flaw bs x rest is = by_result (next_number positive limit bs) refl
    where
      by_result : (r : Result (ℕ × List ℕ) ℕ) → next_number positive limit bs ≡ r → Yields (number_in flaw positive limit) bs x rest
      by_result (Ok y) e =
          let read : or_flaw flaw (next_number positive limit bs) ≡ Ok y = ap (or_flaw flaw) e in
          let one : y ≡ (x, rest) = cc in
          let same : next_number positive limit bs ≡ Ok (x, rest) = e ∙ ap (λ (z : ℕ × List ℕ). Ok z) one in
          let so = number_yields bs x rest same in
          record { front = so.front; parts = so.parts; goes_on = λ b tail more h. ap (or_flaw flaw) (so.goes_on b tail more h) }
      by_result (Err n) e =
          let no : number_in flaw positive limit bs ≡ Err (stop_at flaw n) = ap (or_flaw flaw) e in
          absurd cc

  -- a number needs a byte
  some_byte : (flaw : ImageFlaw) (bs : List ℕ) (y : ℕ × List ℕ) → number_in flaw positive limit bs ≡ Ok y → (b : ℕ) × (tail : List ℕ) × (bs ≡ b ∷ tail)
  unfolding next_number
  some_byte flaw [] y is = absurd cc
  some_byte flaw (b ∷ tail) y is = (b, tail, refl)

-- ---- the header

module _ (kind : Kind) where
  maxval_yields : (bs : List ℕ) (x : ℕ) (rest : List ℕ) → maxval_in kind bs ≡ Ok (x, rest) → Yields (maxval_in kind) bs x rest
  maxval_yields bs x rest is = by_test (is_bitmap kind) refl
    where
      by_test : (t : Bool) → is_bitmap kind ≡ t → Yields (maxval_in kind) bs x rest
      by_test true e =
          let so : (l : List ℕ) → maxval_in kind l ≡ Ok (1, l) = λ l. ap (λ (t : Bool). if t then Ok (1, l) else number_in Maxval true 65535 l) e in
          let same = same_pair (maxval_in kind bs) 1 x bs rest (so bs) is in
          let value : 1 ≡ x = same.0 in
          let left : bs ≡ rest = same.1 in
          record { front = []; parts = left; goes_on = λ b tail more h. so (bs ++ more) ∙ ap (λ (l : List ℕ). Ok (1, l ++ more)) left ∙ ap (λ (z : ℕ). Ok (z, rest ++ more)) value }
      by_test false e =
          let so : (l : List ℕ) → maxval_in kind l ≡ number_in Maxval true 65535 l = λ l. ap (λ (t : Bool). if t then Ok (1, l) else number_in Maxval true 65535 l) e in
          let number = flaw_yields true 65535 Maxval bs x rest (sym (so bs) ∙ is) in
          record { front = number.front; parts = number.parts; goes_on = λ b tail more h. so (bs ++ more) ∙ number.goes_on b tail more h }

kind_yields : (named : Option Kind) (k : ℕ) (bs : List ℕ) (x : Kind) (rest : List ℕ) → after_kind named k bs ≡ Ok (x, rest) → Yields (after_kind named k) bs x rest
kind_yields None k bs x rest is = absurd cc
kind_yields (Some kind) k bs x rest is = by_result (after_blank bs) refl
  where
    by_result : (r : Result (List ℕ) ℕ) → after_blank bs ≡ r → Yields (after_kind (Some kind) k) bs x rest
    by_result (Ok left) e =
        let so : after_kind (Some kind) k bs ≡ Ok (kind, left) = ap (λ (r : Result (List ℕ) ℕ). or_flaw Format r >>= λ rest. Ok (kind, rest)) e in
        let same = same_pair (after_kind (Some kind) k bs) kind x left rest so is in
        let value : kind ≡ x = same.0 in
        let after : left ≡ rest = same.1 in
        let blank = blank_yields kind kind bs left (ap (λ (r : Result (List ℕ) ℕ). r >>= λ rest. Ok (kind, rest)) e) in
        record {
          front = blank.front;
          parts = blank.parts ∙ ap (λ (l : List ℕ). blank.front ++ l) after;
          goes_on = λ b tail more h. flawless (after_blank (bs ++ more)) (left ++ more) (blank.goes_on b tail more (after ∙ h)) ∙ ap (λ (l : List ℕ). Ok (kind, l ++ more)) after ∙ ap (λ (z : Kind). Ok (z, rest ++ more)) value;
        }
      where
        numbered : Result (List ℕ) ℕ → Result (Kind × List ℕ) ℕ
        numbered r = r >>= λ rest. Ok (kind, rest)

        stopped : Result (List ℕ) ℕ → Result (Kind × List ℕ) ImageStop
        stopped r = or_flaw Format r >>= λ rest. Ok (kind, rest)

        flawless : (r : Result (List ℕ) ℕ) (l : List ℕ) → numbered r ≡ Ok (kind, l) → stopped r ≡ Ok (kind, l)
        flawless (Ok m) l h = let one : (kind, m) ≡ (kind, l) = cc in ap (λ (z : Kind × List ℕ). Ok z) one
        flawless (Err n) l h = absurd cc
    by_result (Err n) e =
        let no : after_kind (Some kind) k bs ≡ Err (stop_at Format n) = ap (λ (r : Result (List ℕ) ℕ). or_flaw Format r >>= λ rest. Ok (kind, rest)) e in
        absurd cc

opening_yields : (bs : List ℕ) (x : Kind) (rest : List ℕ) → opening bs ≡ Ok (x, rest) → Yields opening bs x rest
opening_yields [] x rest is = absurd cc
opening_yields (p ∷ []) x rest is = by_test (p == 80) refl
  where
    by_test : (t : Bool) → (p == 80) ≡ t → Yields opening (p ∷ []) x rest
    by_test true e = let no : opening (p ∷ []) ≡ kind_in [] = ap (λ (t : Bool). if t then kind_in [] else Err (length (p ∷ []), Format)) e in absurd cc
    by_test false e = let no : opening (p ∷ []) ≡ Err (length (p ∷ []), Format) = ap (λ (t : Bool). if t then kind_in [] else Err (length (p ∷ []), Format)) e in absurd cc
opening_yields (p ∷ k ∷ bs) x rest is = by_test (p == 80) refl
  where
    by_test : (t : Bool) → (p == 80) ≡ t → Yields opening (p ∷ k ∷ bs) x rest
    by_test true e =
        let so : (l : List ℕ) → opening (p ∷ k ∷ l) ≡ after_kind (image_kind_named k) k l = λ l. ap (λ (t : Bool). if t then kind_in (k ∷ l) else Err (length (p ∷ k ∷ l), Format)) e in
        let named = kind_yields (image_kind_named k) k bs x rest (sym (so bs) ∙ is) in
        record { front = p ∷ k ∷ named.front; parts = ap (λ (l : List ℕ). p ∷ k ∷ l) named.parts; goes_on = λ b tail more h. so (bs ++ more) ∙ named.goes_on b tail more h }
    by_test false e =
        let no : opening (p ∷ k ∷ bs) ≡ Err (length (p ∷ k ∷ bs), Format) = ap (λ (t : Bool). if t then kind_in (k ∷ bs) else Err (length (p ∷ k ∷ bs), Format)) e in
        absurd cc

-- what is left begins with a byte where a number is read from it
module _ (kind : Kind) where
  abbrev header_of : ℕ → ℕ → ℕ → Header
  header_of w h m = record { kind = kind; width = w; height = h; maxval = m }

  abbrev with_maxval : ℕ → ℕ → List ℕ → Result (Header × List ℕ) ImageStop
  with_maxval w h bs = maxval_in kind bs >>= λ m. Ok (header_of w h m.0, m.1)

  abbrev with_height : ℕ → List ℕ → Result (Header × List ℕ) ImageStop
  with_height w bs = number_in Height true 1000000000 bs >>= λ h. with_maxval w h.0 h.1

  abbrev with_width : List ℕ → Result (Header × List ℕ) ImageStop
  with_width bs = number_in Width true 1000000000 bs >>= λ w. with_height w.0 w.1

  -- the maxval
  last_yields : (w h : ℕ) (bs : List ℕ) (x : Header) (rest : List ℕ) → with_maxval w h bs ≡ Ok (x, rest) → Yields (with_maxval w h) bs x rest
  last_yields w h bs x rest is = by_result (maxval_in kind bs) refl
    where
      by_result : (r : Result (ℕ × List ℕ) ImageStop) → maxval_in kind bs ≡ r → Yields (with_maxval w h) bs x rest
      by_result (Ok m) e =
          let so : with_maxval w h bs ≡ Ok (header_of w h m.0, m.1) = ap (λ (r : Result (ℕ × List ℕ) ImageStop). r >>= λ m. Ok (header_of w h m.0, m.1)) e in
          let same = same_pair (with_maxval w h bs) (header_of w h m.0) x m.1 rest so is in
          let max = maxval_yields kind bs m.0 m.1 e in
          record {
            front = max.front;
            parts = max.parts ∙ ap (λ (l : List ℕ). max.front ++ l) same.1;
            goes_on = λ b tail more left.
                ap (λ (r : Result (ℕ × List ℕ) ImageStop). r >>= λ m. Ok (header_of w h m.0, m.1)) (max.goes_on b tail more (same.1 ∙ left))
                ∙ ap (λ (z : Header). Ok (z, m.1 ++ more)) same.0 ∙ ap (λ (l : List ℕ). Ok (x, l ++ more)) same.1;
          }
      by_result (Err stop) e =
          let no : with_maxval w h bs ≡ Err stop = ap (λ (r : Result (ℕ × List ℕ) ImageStop). r >>= λ m. Ok (header_of w h m.0, m.1)) e in
          absurd cc

  -- a number, and then what is read of the bytes after it, of which some are there
  number_then : (flaw : ImageFlaw) (k : ℕ → List ℕ → Result (Header × List ℕ) ImageStop)
      → ((n : ℕ) (bs : List ℕ) (x : Header) (rest : List ℕ) → k n bs ≡ Ok (x, rest) → Yields (k n) bs x rest)
      → ((n : ℕ) (bs : List ℕ) (x : Header) (rest : List ℕ) (b : ℕ) (tail : List ℕ) → k n bs ≡ Ok (x, rest) → rest ≡ b ∷ tail → (c : ℕ) × (others : List ℕ) × (bs ≡ c ∷ others))
      → (bs : List ℕ) (x : Header) (rest : List ℕ) → (number_in flaw true 1000000000 bs >>= λ n. k n.0 n.1) ≡ Ok (x, rest) → Yields (λ l. number_in flaw true 1000000000 l >>= λ n. k n.0 n.1) bs x rest
  number_then flaw k reads some bs x rest is = by_result (number_in flaw true 1000000000 bs) refl
    where
      by_result : (r : Result (ℕ × List ℕ) ImageStop) → number_in flaw true 1000000000 bs ≡ r → Yields (λ l. number_in flaw true 1000000000 l >>= λ n. k n.0 n.1) bs x rest
      by_result (Ok n) e =
          let taken : k n.0 n.1 ≡ Ok (x, rest) = sym (ap (λ (r : Result (ℕ × List ℕ) ImageStop). r >>= λ n. k n.0 n.1) e) ∙ is in
          let one = flaw_yields true 1000000000 flaw bs n.0 n.1 e in
          let two = reads n.0 n.1 x rest taken in
          record {
            front = one.front ++ two.front;
            parts = one.parts ∙ ap (λ (l : List ℕ). one.front ++ l) two.parts ∙ sym (append_assoc one.front two.front rest);
            goes_on = λ b tail more left.
                (let first = some n.0 n.1 x rest b tail taken left in
                ap (λ (r : Result (ℕ × List ℕ) ImageStop). r >>= λ n. k n.0 n.1) (one.goes_on first.0 first.1 more first.2) ∙ two.goes_on b tail more left);
          }
      by_result (Err stop) e =
          let no : (number_in flaw true 1000000000 bs >>= λ n. k n.0 n.1) ≡ Err stop = ap (λ (r : Result (ℕ × List ℕ) ImageStop). r >>= λ n. k n.0 n.1) e in
          absurd cc

  height_yields : (w : ℕ) (bs : List ℕ) (x : Header) (rest : List ℕ) → with_height w bs ≡ Ok (x, rest) → Yields (with_height w) bs x rest
  height_yields w = number_then Height (with_maxval w) (last_yields w) (λ n bs x rest b tail is left. let max = last_yields w n bs x rest is in some_before bs max.front rest b tail max.parts left)

  width_yields : (bs : List ℕ) (x : Header) (rest : List ℕ) → with_width bs ≡ Ok (x, rest) → Yields with_width bs x rest
  width_yields = number_then Width with_height height_yields (λ n bs x rest b tail is left. let high = height_yields n bs x rest is in some_before bs high.front rest b tail high.parts left)

opened_yields : (bs : List ℕ) (x : Header) (rest : List ℕ) → (opening bs >>= λ o. with_width o.0 o.1) ≡ Ok (x, rest) → Yields (λ l. opening l >>= λ o. with_width o.0 o.1) bs x rest
opened_yields bs x rest is = by_result (opening bs) refl
  where
    by_result : (r : Result (Kind × List ℕ) ImageStop) → opening bs ≡ r → Yields (λ l. opening l >>= λ o. with_width o.0 o.1) bs x rest
    by_result (Ok o) e =
        let taken : with_width o.0 o.1 ≡ Ok (x, rest) = sym (ap (λ (r : Result (Kind × List ℕ) ImageStop). r >>= λ o. with_width o.0 o.1) e) ∙ is in
        let one = opening_yields bs o.0 o.1 e in
        let two = width_yields o.0 o.1 x rest taken in
        record {
          front = one.front ++ two.front;
          parts = one.parts ∙ ap (λ (l : List ℕ). one.front ++ l) two.parts ∙ sym (append_assoc one.front two.front rest);
          goes_on = λ b tail more left.
              (let first = some_before o.1 two.front rest b tail two.parts left in
              ap (λ (r : Result (Kind × List ℕ) ImageStop). r >>= λ o. with_width o.0 o.1) (one.goes_on first.0 first.1 more first.2) ∙ two.goes_on b tail more left);
        }
    by_result (Err stop) e =
        let no : (opening bs >>= λ o. with_width o.0 o.1) ≡ Err stop = ap (λ (r : Result (Kind × List ℕ) ImageStop). r >>= λ o. with_width o.0 o.1) e in
        absurd cc

pub header_yields : (bs : List ℕ) (x : Header) (rest : List ℕ) → image_header_in bs ≡ Ok (x, rest) → Yields image_header_in bs x rest
unfolding image_header_in
header_yields bs x rest is = opened_yields bs x rest is

-- what is left is what follows so many bytes
pub left_dropped : (bs front rest : List ℕ) (n : ℕ) → bs ≡ front ++ rest → n ≡ length bs - length rest → (n ≤ length bs) × (rest ≡ drop n bs)
left_dropped bs front rest n parts is =
    let size : n ≡ length front = omega (arith, is, ap length parts, length-append front rest) in
    (omega (arith, is), sym (ap (λ k. drop k bs) size ∙ ap (drop (length front)) parts ∙ drop-append_seam front rest))

pub is_front : (bs : List ℕ) (x : Header) (rest : List ℕ) (n : ℕ) → IsHeader x → image_header_in bs ≡ Ok (x, rest) → n ≡ length bs - length rest → StartsWithHeader bs (x, n)
is_front bs x rest n whole is size =
    let so = header_yields bs x rest is in
    let cut = left_dropped bs so.front rest n so.parts size in
    (whole, cut.0, is ∙ ap (λ (l : List ℕ). Ok (x, l)) cut.1)

-- what follows the bytes stays behind those that are left
pub front_settled : (bs : List ℕ) (x : Header × ℕ) (more : List ℕ) → StartsWithHeader bs x → HasMore bs → image_header_in (bs ++ more) ≡ Ok (x.0, drop x.1 bs ++ more)
front_settled bs x more is has = by_rest (drop x.1 bs) refl (has (x.0, drop x.1 bs) is.2)
  where
    by_rest : (rest : List ℕ) → drop x.1 bs ≡ rest → 0 < length (drop x.1 bs) → image_header_in (bs ++ more) ≡ Ok (x.0, drop x.1 bs ++ more)
    by_rest [] e some = absurd (omega (arith, some, ap length e))
    by_rest (b ∷ tail) e some = (header_yields bs x.0 (drop x.1 bs) is.2).goes_on b tail more e
