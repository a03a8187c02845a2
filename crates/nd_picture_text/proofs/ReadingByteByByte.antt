-- How reading goes on, byte after byte: a byte is refused whatever follows it, or ends the reading, or more is read after
-- it. So a bad byte stays bad whatever follows it, and the bytes before it begin an image.
use Rattle.std.proofs.Common.{◌≡◌, ◌∙◌, ℕ, zero, suc, ◌+◌, ◌-◌, ◌*◌, ◌≤◌, Bool, true, false, List, [], ◌∷◌, ◌++◌, length, length-append, Option, None, Some, Result, Ok, Err, refl, sym, ap, arith}
use Rattle.std.specs.Prelude.{nat_le, nat_lt, ◌==◌, not, if◌then◌else◌}
use Rattle.std.proofs.lemmas.Bool.Decides.{nat_tests}
use Rattle.nd_picture_text.specs.declared.image_formats.Kind.{Kind}
use Rattle.nd_picture_text.specs.declared.image_formats.Kind.TheVariants.{PlainGrey}
use Rattle.nd_picture_text.specs.declared.image_formats.Header.{Header}
use Rattle.nd_picture_text.specs.declared.errors.ImageFlaw.{ImageFlaw}
use Rattle.nd_picture_text.specs.declared.errors.ImageFlaw.TheVariants.{TooShort, Format, Width, Height, Maxval, Sample, AboveMaxval}
use Rattle.nd_picture_text.specs.ImageFormatsAndHeaders.{Pixmap, is_plain, is_bitmap, is_packed, sample_count}
use Rattle.nd_picture_text.specs.PackedBitmaps.{row_size, rows_pixels}
use Rattle.nd_picture_text.specs.ImageReadingLaws.{BadBytesStayBad, GoodBytesGoOn}
use Rattle.nd_picture_text.specs.NumbersInImageText.{◌>>=◌, ends_line, is_whitespace, is_hash, after_line, after_gap, after_blank, image_takes_digit, wants_digit, image_digits_after, number_end, image_number_here, next_number}
use Rattle.nd_picture_text.specs.ImageReading.{ImageStop, stop_at, or_flaw, image_kind_named, after_kind, kind_in, opening, number_in, maxval_in, image_header_in, bit_here, narrow_sample, low_half, wide_sample, sample_in, samples_after, samples_in, bytes_in, packed_in, raster_in, image_in}

abbrev pub Reader : Type 0 → Type 0
Reader Y = List ℕ → Result Y ImageStop

-- some text is read, and no more bytes are left at a stop than there are
pub record Begins {Y : Type 0} (f : Reader Y) : Type 0 where
  pub at_end : (stop : ImageStop) → f [] ≡ Err stop → stop.0 ≡ 0
  pub goes : (more : List ℕ) × (y : Y) × (f more ≡ Ok y)

-- what a reader makes of a byte, where S says what holds of the reader of what follows
pub data After {Y : Type 0} (S : Reader Y → Type 0) (f : Reader Y) (c : ℕ) : Type 0 where
  refuses : (flaw : ImageFlaw) → ((bs : List ℕ) → f (c ∷ bs) ≡ Err (length (c ∷ bs), flaw)) → After S f c
  ends : (y : Y) → ((bs : List ℕ) → f (c ∷ bs) ≡ Ok y) → After S f c
  goes_on : (g : Reader Y) → S g → ((bs : List ℕ) → f (c ∷ bs) ≡ g bs) → After S f c

-- so many bytes are read in this way
abbrev pub ReadsFor : {Y : Type 0} → ℕ → Reader Y → Type 0
ReadsFor zero f = Begins f
ReadsFor (suc n) f = Begins f × ((c : ℕ) → After (ReadsFor n) f c)

-- ---- what follows from it
left_of : {Y : Type 0} (r : Result Y ImageStop) (a b : ImageStop) → r ≡ Err a → r ≡ Err b → a.0 ≡ b.0
left_of r a b d e = let same : a ≡ b = cc in ap (λ (s : ImageStop). s.0) same

flaw_of : {Y : Type 0} (r : Result Y ImageStop) (a b : ImageStop) → r ≡ Err a → r ≡ Err b → a.1 ≡ b.1
flaw_of r a b d e = let same : a ≡ b = cc in ap (λ (s : ImageStop). s.1) same

module _ {Y : Type 0} where
  begun : (n : ℕ) (f : Reader Y) → ReadsFor n f → Begins f
  begun zero f reads = reads
  begun (suc n) f reads = reads.0

  pub within : (bs : List ℕ) (f : Reader Y) (stop : ImageStop) → ReadsFor (length bs) f → f bs ≡ Err stop → stop.0 ≤ length bs
  within [] f stop reads e = omega (arith, reads.at_end stop e)
  within (b ∷ bs) f stop reads e = by_byte (λ g s. within bs g stop s) (reads.1 b)
    where
      by_byte : ((g : Reader Y) → ReadsFor (length bs) g → g bs ≡ Err stop → stop.0 ≤ length bs) → After (ReadsFor (length bs)) f b → stop.0 ≤ length (b ∷ bs)
      by_byte more (refuses flaw h) = omega (arith, left_of (f (b ∷ bs)) stop (length (b ∷ bs), flaw) e (h bs))
      by_byte more (ends y h) = let no : f (b ∷ bs) ≡ Ok y = h bs in absurd cc
      by_byte more (goes_on g s h) = omega (arith, more g s (sym (h bs) ∙ e))

  pub stays_bad : (front : List ℕ) (f : Reader Y) (b : ℕ) (rest other : List ℕ) (flaw : ImageFlaw) → ReadsFor (length (front ++ b ∷ rest)) f → f (front ++ b ∷ rest) ≡ Err (length (b ∷ rest), flaw) → f (front ++ b ∷ other) ≡ Err (length (b ∷ other), flaw)
  stays_bad [] f b rest other flaw reads e = by_byte (reads.1 b)
    where
      by_byte : After (ReadsFor (length rest)) f b → f (b ∷ other) ≡ Err (length (b ∷ other), flaw)
      by_byte (refuses found h) = h other ∙ ap (λ w. Err (length (b ∷ other), w)) (flaw_of (f (b ∷ rest)) (length (b ∷ rest), found) (length (b ∷ rest), flaw) (h rest) e)
      by_byte (ends y h) = let no : f (b ∷ rest) ≡ Ok y = h rest in absurd cc
      by_byte (goes_on g s h) = absurd (omega (arith, within rest g (length (b ∷ rest), flaw) s (sym (h rest) ∙ e)))
  stays_bad (c ∷ front) f b rest other flaw reads e = by_byte (λ g s. stays_bad front g b rest other flaw s) (reads.1 c)
    where
      by_byte : ((g : Reader Y) → ReadsFor (length (front ++ b ∷ rest)) g → g (front ++ b ∷ rest) ≡ Err (length (b ∷ rest), flaw) → g (front ++ b ∷ other) ≡ Err (length (b ∷ other), flaw)) → After (ReadsFor (length (front ++ b ∷ rest))) f c → f (c ∷ (front ++ b ∷ other)) ≡ Err (length (b ∷ other), flaw)
      by_byte more (refuses found h) = absurd (omega (arith, length-append front (b ∷ rest), left_of (f (c ∷ (front ++ b ∷ rest))) (length (c ∷ (front ++ b ∷ rest)), found) (length (b ∷ rest), flaw) (h (front ++ b ∷ rest)) e))
      by_byte more (ends y h) = let no : f (c ∷ (front ++ b ∷ rest)) ≡ Ok y = h (front ++ b ∷ rest) in absurd cc
      by_byte more (goes_on g s h) = h (front ++ b ∷ other) ∙ more g s (sym (h (front ++ b ∷ rest)) ∙ e)

  begins_whole : (front : List ℕ) (f : Reader Y) (rest : List ℕ) (flaw : ImageFlaw) → ReadsFor (length (front ++ rest)) f → f (front ++ rest) ≡ Err (length rest, flaw) → (more : List ℕ) × (y : Y) × (f (front ++ more) ≡ Ok y)
  begins_whole [] f rest flaw reads e = (begun (length rest) f reads).goes
  begins_whole (c ∷ front) f rest flaw reads e = by_byte (λ g s. begins_whole front g rest flaw s) (reads.1 c)
    where
      by_byte : ((g : Reader Y) → ReadsFor (length (front ++ rest)) g → g (front ++ rest) ≡ Err (length rest, flaw) → (more : List ℕ) × (y : Y) × (g (front ++ more) ≡ Ok y)) → After (ReadsFor (length (front ++ rest))) f c → (more : List ℕ) × (y : Y) × (f (c ∷ (front ++ more)) ≡ Ok y)
      by_byte other (refuses found h) = absurd (omega (arith, length-append front rest, left_of (f (c ∷ (front ++ rest))) (length (c ∷ (front ++ rest)), found) (length rest, flaw) (h (front ++ rest)) e))
      by_byte other (ends y h) = let no : f (c ∷ (front ++ rest)) ≡ Ok y = h (front ++ rest) in absurd cc
      by_byte other (goes_on g s h) =
          let so = other g s (sym (h (front ++ rest)) ∙ e) in
          (so.0, so.1, h (front ++ so.0) ∙ so.2)

  -- ---- readers that read the same
  like : (S : Reader Y → Type 0) (f g : Reader Y) (c : ℕ) → ((bs : List ℕ) → f (c ∷ bs) ≡ g (c ∷ bs)) → After S g c → After S f c
  like S f g c e (refuses flaw h) = refuses flaw (λ bs. e bs ∙ h bs)
  like S f g c e (ends y h) = ends y (λ bs. e bs ∙ h bs)
  like S f g c e (goes_on r s h) = goes_on r s (λ bs. e bs ∙ h bs)

  begins_like : (f g : Reader Y) → ((bs : List ℕ) → f bs ≡ g bs) → Begins g → Begins f
  begins_like f g e is = record {
    at_end = λ stop h. is.at_end stop (sym (e []) ∙ h);
    goes = (is.goes.0, is.goes.1, e is.goes.0 ∙ is.goes.2);
  }

  pub reads_like : (n : ℕ) (f g : Reader Y) → ((bs : List ℕ) → f bs ≡ g bs) → ReadsFor n g → ReadsFor n f
  reads_like zero f g e is = begins_like f g e is
  reads_like (suc n) f g e is = (begins_like f g e is.0, λ c. like (ReadsFor n) f g c (λ bs. e (c ∷ bs)) (is.1 c))

  -- nothing is left at the end
  none_left : (f : Reader Y) (flaw : ImageFlaw) → f [] ≡ Err (0, flaw) → (stop : ImageStop) → f [] ≡ Err stop → stop.0 ≡ 0
  none_left f flaw e stop h = left_of (f []) stop (0, flaw) h e

  -- from what holds at the start and of each byte
  reads_by : (f : Reader Y) → Begins f → ((n : ℕ) (c : ℕ) → After (ReadsFor n) f c) → (n : ℕ) → ReadsFor n f
  reads_by f begins bytes zero = begins
  reads_by f begins bytes (suc n) = (begins, bytes n)

some_stop : (flaw : ImageFlaw) (n : ℕ) → stop_at flaw (suc n) ≡ (suc n, flaw)
some_stop flaw n =
    let no : (suc n == 0) ≡ false = grind (arith, nat_tests) in
    ap (λ (t : Bool). (suc n, if t then TooShort else flaw)) no

-- ---- blanks and comments
abbrev blank : {Y : Type 0} → Reader Y → ImageFlaw → List ℕ → Result Y ImageStop
blank k flaw bs = or_flaw flaw (after_blank bs) >>= k

module _ {Y : Type 0} (k : Reader Y) (K : (n : ℕ) → ReadsFor n k) where
  line_begins : Begins (λ bs. k (after_line bs))
  line_begins = record { at_end = (K 0).at_end; goes = (10 ∷ (K 0).goes.0, (K 0).goes.1, (K 0).goes.2) }

  line_reads : (n : ℕ) → ReadsFor n (λ bs. k (after_line bs))
  line_reads zero = line_begins
  line_reads (suc n) = (line_begins, λ c. by_test (line_reads n) c (ends_line c) refl)
    where
      by_test : ReadsFor n (λ bs. k (after_line bs)) → (c : ℕ) (t : Bool) → ends_line c ≡ t → After (ReadsFor n) (λ bs. k (after_line bs)) c
      by_test more c true e = goes_on k (K n) (λ bs. ap (λ (t : Bool). k (if t then bs else after_line bs)) e)
      by_test more c false e = goes_on (λ bs. k (after_line bs)) more (λ bs. ap (λ (t : Bool). k (if t then bs else after_line bs)) e)

  blank_byte : (flaw : ImageFlaw) (n c : ℕ) → After (ReadsFor n) (blank k flaw) c
  blank_byte flaw n c = by_tests (is_hash c) (is_whitespace c) refl refl
    where
      by_tests : (t u : Bool) → is_hash c ≡ t → is_whitespace c ≡ u → After (ReadsFor n) (blank k flaw) c
      by_tests true u e d = goes_on (λ bs. k (after_line bs)) (line_reads n) (λ bs. ap (λ (t : Bool). or_flaw flaw (if t then Ok (after_line bs) else (if is_whitespace c then Ok bs else Err (length (c ∷ bs)))) >>= k) e)
      by_tests false true e d = goes_on k (K n) (λ bs. ap (λ (t : Bool). or_flaw flaw (if t then Ok (after_line bs) else (if is_whitespace c then Ok bs else Err (length (c ∷ bs)))) >>= k) e ∙ ap (λ (t : Bool). or_flaw flaw (if t then Ok bs else Err (length (c ∷ bs))) >>= k) d)
      by_tests false false e d = refuses flaw (λ bs. ap (λ (t : Bool). or_flaw flaw (if t then Ok (after_line bs) else (if is_whitespace c then Ok bs else Err (length (c ∷ bs)))) >>= k) e ∙ ap (λ (t : Bool). or_flaw flaw (if t then Ok bs else Err (length (c ∷ bs))) >>= k) d ∙ ap (λ (s : ImageStop). Err s) (some_stop flaw (length bs)))

  blank_reads : (flaw : ImageFlaw) (n : ℕ) → ReadsFor n (blank k flaw)
  blank_reads flaw = reads_by (blank k flaw) (record { at_end = none_left (blank k flaw) TooShort refl; goes = (32 ∷ (K 0).goes.0, (K 0).goes.1, (K 0).goes.2) }) (blank_byte flaw)

-- what stands after blanks and comments, which begins with no blank
module _ {Y : Type 0} (f : Reader Y) (f_end : (stop : ImageStop) → f [] ≡ Err stop → stop.0 ≡ 0) (f_goes : (more : List ℕ) × (y : Y) × (f (49 ∷ more) ≡ Ok y)) (byte : (n c : ℕ) → After (ReadsFor n) f c) where
  abbrev gapped : Bool → List ℕ → Result Y ImageStop
  gapped inside bs = f (after_gap inside bs)

  gap_begins : (inside : Bool) → Begins (gapped inside)
  gap_begins true = record { at_end = f_end; goes = (10 ∷ 49 ∷ f_goes.0, f_goes.1, f_goes.2) }
  gap_begins false = record { at_end = f_end; goes = (49 ∷ f_goes.0, f_goes.1, f_goes.2) }

  gap_reads : (n : ℕ) (inside : Bool) → ReadsFor n (gapped inside)
  gap_reads zero inside = gap_begins inside
  gap_reads (suc n) true = (gap_begins true, λ c. goes_on (gapped (not (ends_line c))) (gap_reads n (not (ends_line c))) (λ bs. refl))
  gap_reads (suc n) false = (gap_begins false, λ c. by_tests (gap_reads n) c (is_hash c) (is_whitespace c) refl refl)
    where
      by_tests : ((inside : Bool) → ReadsFor n (gapped inside)) → (c : ℕ) (t u : Bool) → is_hash c ≡ t → is_whitespace c ≡ u → After (ReadsFor n) (gapped false) c
      by_tests more c true u e d = goes_on (gapped true) (more true) (λ bs. ap (λ (t : Bool). f (if t then after_gap true bs else (if is_whitespace c then after_gap false bs else c ∷ bs))) e)
      by_tests more c false true e d = goes_on (gapped false) (more false) (λ bs. ap (λ (t : Bool). f (if t then after_gap true bs else (if is_whitespace c then after_gap false bs else c ∷ bs))) e ∙ ap (λ (t : Bool). f (if t then after_gap false bs else c ∷ bs)) d)
      by_tests more c false false e d = like (ReadsFor n) (gapped false) f c (λ bs. ap (λ (t : Bool). f (if t then after_gap true bs else (if is_whitespace c then after_gap false bs else c ∷ bs))) e ∙ ap (λ (t : Bool). f (if t then after_gap false bs else c ∷ bs)) d) (byte n c)

-- ---- numbers
one_is_some : (positive : Bool) → wants_digit positive 1 ≡ false
one_is_some true = refl
one_is_some false = refl

wants_at_zero : (positive : Bool) (m : ℕ) → wants_digit positive m ≡ true → m ≡ 0
wants_at_zero true m e = grind (arith, nat_tests, e)
wants_at_zero false m e = grind (arith, nat_tests, e)

digit_fits : (limit m c : ℕ) → image_takes_digit limit m c ≡ true → m * 10 + (c - 48) ≤ limit
digit_fits limit m c e = grind (arith, nat_tests, e)

one_taken : (limit : ℕ) → 1 ≤ limit → image_takes_digit limit 0 49 ≡ true
one_taken limit one = grind (arith, nat_tests, one)

module _ {Y : Type 0} (flaw : ImageFlaw) (positive : Bool) (limit : ℕ) (k : ℕ → Reader Y) (one : 1 ≤ limit) (K : (x : ℕ) → x ≤ limit → wants_digit positive x ≡ false → (n : ℕ) → ReadsFor n (k x)) where
  abbrev hand_on : Result (ℕ × List ℕ) ℕ → Result Y ImageStop
  hand_on r = or_flaw flaw r >>= λ x. k x.0 x.1

  abbrev digits : ℕ → List ℕ → Result Y ImageStop
  digits m bs = hand_on (image_digits_after positive limit m bs)

  abbrev ending : ℕ → List ℕ → Result Y ImageStop
  ending m bs = hand_on (number_end positive m bs)

  then_rest : (m : ℕ) (r : Result (List ℕ) ℕ) → hand_on (r >>= λ rest. Ok (m, rest)) ≡ (or_flaw flaw r >>= k m)
  then_rest m (Ok rest) = refl
  then_rest m (Err left) = refl

  ending_more : (m c : ℕ) (bs : List ℕ) → wants_digit positive m ≡ false → ending m (c ∷ bs) ≡ blank (k m) flaw (c ∷ bs)
  ending_more m c bs e = ap (λ (t : Bool). hand_on (if t then Err (length (c ∷ bs)) else (after_blank (c ∷ bs) >>= λ rest. Ok (m, rest)))) e ∙ then_rest m (after_blank (c ∷ bs))

  ending_byte : (n m c : ℕ) → m ≤ limit → After (ReadsFor n) (ending m) c
  ending_byte n m c fits = by_test (wants_digit positive m) refl
    where
      by_test : (t : Bool) → wants_digit positive m ≡ t → After (ReadsFor n) (ending m) c
      by_test true e = refuses flaw (λ bs. ap (λ (t : Bool). hand_on (if t then Err (length (c ∷ bs)) else (after_blank (c ∷ bs) >>= λ rest. Ok (m, rest)))) e ∙ ap (λ (s : ImageStop). Err s) (some_stop flaw (length bs)))
      by_test false e = like (ReadsFor n) (ending m) (blank (k m) flaw) c (λ bs. ending_more m c bs e) (blank_byte (k m) (K m fits e) flaw n c)

  digits_end : (m : ℕ) → m ≤ limit → (stop : ImageStop) → digits m [] ≡ Err stop → stop.0 ≡ 0
  digits_end m fits stop h = by_test (wants_digit positive m) refl
    where
      by_test : (t : Bool) → wants_digit positive m ≡ t → stop.0 ≡ 0
      by_test true e = left_of (digits m []) stop (0, TooShort) h (ap (λ (t : Bool). hand_on (if t then Err 0 else Ok (m, []))) e)
      by_test false e = (K m fits e 0).at_end stop (sym (ap (λ (t : Bool). hand_on (if t then Err 0 else Ok (m, []))) e) ∙ h)

  digits_space : (m : ℕ) → m ≤ limit → wants_digit positive m ≡ false → (more : List ℕ) × (y : Y) × (digits m more ≡ Ok y)
  digits_space m fits e =
      let so = (K m fits e 0).goes in
      (32 ∷ so.0, so.1, ending_more m 32 so.0 e ∙ so.2)

  digits_goes : (m : ℕ) → m ≤ limit → (more : List ℕ) × (y : Y) × (digits m more ≡ Ok y)
  digits_goes m fits = by_test (wants_digit positive m) refl
    where
      by_test : (t : Bool) → wants_digit positive m ≡ t → (more : List ℕ) × (y : Y) × (digits m more ≡ Ok y)
      by_test true e =
          let so = digits_space 1 one (one_is_some positive) in
          (49 ∷ so.0, so.1, ap (λ i. digits i (49 ∷ so.0)) (wants_at_zero positive m e) ∙ ap (λ (t : Bool). hand_on (if t then image_digits_after positive limit 1 so.0 else number_end positive 0 (49 ∷ so.0))) (one_taken limit one) ∙ so.2)
      by_test false e = digits_space m fits e

  digits_reads : (n m : ℕ) → m ≤ limit → ReadsFor n (digits m)
  digits_reads zero m fits = record { at_end = digits_end m fits; goes = digits_goes m fits }
  digits_reads (suc n) m fits = (record { at_end = digits_end m fits; goes = digits_goes m fits }, λ c. by_test (digits_reads n) c (image_takes_digit limit m c) refl)
    where
      by_test : ((i : ℕ) → i ≤ limit → ReadsFor n (digits i)) → (c : ℕ) (t : Bool) → image_takes_digit limit m c ≡ t → After (ReadsFor n) (digits m) c
      by_test more c true e = goes_on (digits (m * 10 + (c - 48))) (more (m * 10 + (c - 48)) (digit_fits limit m c e)) (λ bs. ap (λ (t : Bool). hand_on (if t then image_digits_after positive limit (m * 10 + (c - 48)) bs else number_end positive m (c ∷ bs))) e)
      by_test more c false e = like (ReadsFor n) (digits m) (ending m) c (λ bs. ap (λ (t : Bool). hand_on (if t then image_digits_after positive limit (m * 10 + (c - 48)) bs else number_end positive m (c ∷ bs))) e) (ending_byte n m c fits)

  abbrev number : List ℕ → Result Y ImageStop
  number bs = hand_on (image_number_here positive limit bs)

  number_goes : (more : List ℕ) × (y : Y) × (number (49 ∷ more) ≡ Ok y)
  number_goes =
      let so = digits_goes 1 one in
      (so.0, so.1, ap (λ (t : Bool). hand_on (if t then image_digits_after positive limit 1 so.0 else Err (length (49 ∷ so.0)))) (one_taken limit one) ∙ so.2)

  number_byte : (n c : ℕ) → After (ReadsFor n) number c
  number_byte n c = by_test (image_takes_digit limit 0 c) refl
    where
      by_test : (t : Bool) → image_takes_digit limit 0 c ≡ t → After (ReadsFor n) number c
      by_test true e =
          let fits : c - 48 ≤ limit = omega (arith, digit_fits limit 0 c e) in
          goes_on (digits (c - 48)) (digits_reads n (c - 48) fits) (λ bs. ap (λ (t : Bool). hand_on (if t then image_digits_after positive limit (c - 48) bs else Err (length (c ∷ bs)))) e)
      by_test false e = refuses flaw (λ bs. ap (λ (t : Bool). hand_on (if t then image_digits_after positive limit (c - 48) bs else Err (length (c ∷ bs)))) e ∙ ap (λ (s : ImageStop). Err s) (some_stop flaw (length bs)))

  number_reads : (n : ℕ) → ReadsFor n (λ bs. number_in flaw positive limit bs >>= λ x. k x.0 x.1)
  unfolding next_number
  number_reads n = gap_reads number (none_left number TooShort refl) number_goes number_byte n false

-- ---- samples
module _ {Y : Type 0} (h : Header) (one : 1 ≤ h.maxval) (k : ℕ → Reader Y) (K : (x : ℕ) → x ≤ h.maxval → (n : ℕ) → ReadsFor n (k x)) where
  abbrev then_k : Result (ℕ × List ℕ) ImageStop → Result Y ImageStop
  then_k r = r >>= λ x. k x.0 x.1

  low_enough : (a : ℕ) → nat_le a h.maxval ≡ true → a ≤ h.maxval
  low_enough a e = grind (arith, nat_tests, e)

  zero_low : nat_le 0 h.maxval ≡ true
  zero_low = grind (arith, nat_tests)

  narrow_reads : (n : ℕ) → ReadsFor n (λ bs. then_k (narrow_sample h.maxval bs))
  narrow_reads = reads_by (λ bs. then_k (narrow_sample h.maxval bs)) (record { at_end = none_left (λ bs. then_k (narrow_sample h.maxval bs)) TooShort refl; goes = (0 ∷ so.0, so.1, ap (λ (t : Bool). then_k (if t then Ok (0, so.0) else Err (length (0 ∷ so.0), AboveMaxval))) zero_low ∙ so.2) }) (λ n c. by_test n c (nat_le c h.maxval) refl)
    where
      so : (more : List ℕ) × (y : Y) × (k 0 more ≡ Ok y)
      so = (K 0 (omega arith) 0).goes

      by_test : (n c : ℕ) (t : Bool) → nat_le c h.maxval ≡ t → After (ReadsFor n) (λ bs. then_k (narrow_sample h.maxval bs)) c
      by_test n c true e = goes_on (k c) (K c (low_enough c e) n) (λ bs. ap (λ (t : Bool). then_k (if t then Ok (c, bs) else Err (length (c ∷ bs), AboveMaxval))) e)
      by_test n c false e = refuses AboveMaxval (λ bs. ap (λ (t : Bool). then_k (if t then Ok (c, bs) else Err (length (c ∷ bs), AboveMaxval))) e)

  low_reads : (high : ℕ) → nat_le high h.maxval ≡ true → (n : ℕ) → ReadsFor n (λ bs. then_k (low_half h.maxval high bs))
  low_reads high fits = reads_by (λ bs. then_k (low_half h.maxval high bs)) (record { at_end = none_left (λ bs. then_k (low_half h.maxval high bs)) TooShort refl; goes = (0 ∷ so.0, so.1, ap (λ (t : Bool). then_k (if t then Ok (high + 0, so.0) else Err (length (0 ∷ so.0), AboveMaxval))) test ∙ so.2) }) (λ n c. by_test n c (nat_le (high + c) h.maxval) refl)
    where
      test : nat_le (high + 0) h.maxval ≡ true
      test = grind (arith, nat_tests, fits)

      so : (more : List ℕ) × (y : Y) × (k (high + 0) more ≡ Ok y)
      so = (K (high + 0) (low_enough (high + 0) test) 0).goes

      by_test : (n c : ℕ) (t : Bool) → nat_le (high + c) h.maxval ≡ t → After (ReadsFor n) (λ bs. then_k (low_half h.maxval high bs)) c
      by_test n c true e = goes_on (k (high + c)) (K (high + c) (low_enough (high + c) e) n) (λ bs. ap (λ (t : Bool). then_k (if t then Ok (high + c, bs) else Err (length (c ∷ bs), AboveMaxval))) e)
      by_test n c false e = refuses AboveMaxval (λ bs. ap (λ (t : Bool). then_k (if t then Ok (high + c, bs) else Err (length (c ∷ bs), AboveMaxval))) e)

  wide_reads : (n : ℕ) → ReadsFor n (λ bs. then_k (wide_sample h.maxval bs))
  wide_reads = reads_by (λ bs. then_k (wide_sample h.maxval bs)) (record { at_end = none_left (λ bs. then_k (wide_sample h.maxval bs)) TooShort refl; goes = (0 ∷ so.0, so.1, ap (λ (t : Bool). then_k (if t then low_half h.maxval 0 so.0 else Err (length (0 ∷ so.0), AboveMaxval))) zero_low ∙ so.2) }) (λ n c. by_test n c (nat_le (c * 256) h.maxval) refl)
    where
      so : (more : List ℕ) × (y : Y) × (then_k (low_half h.maxval 0 more) ≡ Ok y)
      so = (low_reads 0 zero_low 0).goes

      by_test : (n c : ℕ) (t : Bool) → nat_le (c * 256) h.maxval ≡ t → After (ReadsFor n) (λ bs. then_k (wide_sample h.maxval bs)) c
      by_test n c true e = goes_on (λ bs. then_k (low_half h.maxval (c * 256) bs)) (low_reads (c * 256) e n) (λ bs. ap (λ (t : Bool). then_k (if t then low_half h.maxval (c * 256) bs else Err (length (c ∷ bs), AboveMaxval))) e)
      by_test n c false e = refuses AboveMaxval (λ bs. ap (λ (t : Bool). then_k (if t then low_half h.maxval (c * 256) bs else Err (length (c ∷ bs), AboveMaxval))) e)

  abbrev bit : List ℕ → Result Y ImageStop
  bit bs = then_k (bit_here bs)

  bit_byte : (n c : ℕ) → After (ReadsFor n) bit c
  bit_byte n c = by_tests (c == 48) (c == 49) refl refl
    where
      by_tests : (t u : Bool) → (c == 48) ≡ t → (c == 49) ≡ u → After (ReadsFor n) bit c
      by_tests true u d e = goes_on (k 1) (K 1 one n) (λ bs. ap (λ (t : Bool). then_k (if t then Ok (1, bs) else (if c == 49 then Ok (0, bs) else Err (length (c ∷ bs), Sample)))) d)
      by_tests false true d e = goes_on (k 0) (K 0 (omega arith) n) (λ bs. ap (λ (t : Bool). then_k (if t then Ok (1, bs) else (if c == 49 then Ok (0, bs) else Err (length (c ∷ bs), Sample)))) d ∙ ap (λ (t : Bool). then_k (if t then Ok (0, bs) else Err (length (c ∷ bs), Sample))) e)
      by_tests false false d e = refuses Sample (λ bs. ap (λ (t : Bool). then_k (if t then Ok (1, bs) else (if c == 49 then Ok (0, bs) else Err (length (c ∷ bs), Sample)))) d ∙ ap (λ (t : Bool). then_k (if t then Ok (0, bs) else Err (length (c ∷ bs), Sample))) e)

  bit_reads : (n : ℕ) → ReadsFor n (λ bs. bit (after_gap false bs))
  bit_reads n = gap_reads bit (none_left bit TooShort refl) (K 0 (omega arith) 0).goes bit_byte n false

  sample_reads : (n : ℕ) → ReadsFor n (λ bs. then_k (sample_in h bs))
  unfolding sample_in
  sample_reads n = by_tests (is_plain h.kind) (is_bitmap h.kind) (nat_lt h.maxval 256)
    where
      by_tests : (t u v : Bool) → ReadsFor n (λ bs. then_k (if t then (if u then bit_here (after_gap false bs) else number_in Sample false h.maxval bs) else (if v then narrow_sample h.maxval bs else wide_sample h.maxval bs)))
      by_tests true true v = bit_reads n
      by_tests true false v = number_reads Sample false h.maxval k one (λ x fits e. K x fits) n
      by_tests false u true = narrow_reads n
      by_tests false u false = wide_reads n

module _ {Y : Type 0} (h : Header) (one : 1 ≤ h.maxval) where
  abbrev all_samples : (List ℕ → Y) → ℕ → List ℕ → Result Y ImageStop
  all_samples made count bs = samples_in h count bs >>= λ xs. Ok (made xs)

  one_before : (made : List ℕ → Y) (x : ℕ) (r : Result (List ℕ) ImageStop) → (samples_after (x ∷ []) r >>= (λ xs. Ok (made xs))) ≡ (r >>= (λ xs. Ok (made (x ∷ xs))))
  one_before made x (Ok xs) = refl
  one_before made x (Err stop) = refl

  one_then : (made : List ℕ → Y) (count : ℕ) (r : Result (ℕ × List ℕ) ImageStop) → ((r >>= λ x. samples_after (x.0 ∷ []) (samples_in h count x.1)) >>= (λ xs. Ok (made xs))) ≡ (r >>= (λ x. all_samples (λ xs. made (x.0 ∷ xs)) count x.1))
  one_then made count (Ok x) = one_before made x.0 (samples_in h count x.1)
  one_then made count (Err stop) = refl

  done_reads : (y : Y) (n : ℕ) → ReadsFor {Y = Y} n (λ bs. Ok y)
  done_reads y = reads_by (λ bs. Ok y) (record { at_end = λ stop e. absurd cc; goes = ([], y, refl) }) (λ n c. ends y (λ bs. refl))

  pub samples_read : (count : ℕ) (made : List ℕ → Y) (n : ℕ) → ReadsFor n (all_samples made count)
  samples_read zero made n = done_reads (made []) n
  samples_read (suc count) made n =
      reads_like n (all_samples made (suc count)) (λ bs. sample_in h bs >>= λ x. all_samples (λ xs. made (x.0 ∷ xs)) count x.1) (λ bs. one_then made count (sample_in h bs))
      (sample_reads h one (λ x. all_samples (λ xs. made (x ∷ xs)) count) (λ x fits m. samples_read count (λ xs. made (x ∷ xs)) m) n)

  all_bytes_read : (count : ℕ) (made : List ℕ → Y) (n : ℕ) → ReadsFor n (λ bs. bytes_in count bs >>= λ xs. Ok (made xs))
  all_bytes_read zero made n = done_reads (made []) n
  all_bytes_read (suc count) made n = reads_by (λ bs. bytes_in (suc count) bs >>= λ xs. Ok (made xs)) (begins (all_bytes_read count (λ xs. made (0 ∷ xs)) 0)) (λ m c. goes_on (λ bs. bytes_in count bs >>= λ xs. Ok (made (c ∷ xs))) (all_bytes_read count (λ xs. made (c ∷ xs)) m) (λ bs. one_before made c (bytes_in count bs))) n
    where
      begins : Begins (λ bs. bytes_in count bs >>= λ xs. Ok (made (0 ∷ xs))) → Begins (λ bs. bytes_in (suc count) bs >>= λ xs. Ok (made xs))
      begins so = record { at_end = none_left (λ bs. bytes_in (suc count) bs >>= λ xs. Ok (made xs)) TooShort refl; goes = (0 ∷ so.goes.0, so.goes.1, one_before made 0 (bytes_in count so.goes.0) ∙ so.goes.2) }

  made_twice : (f : List ℕ → List ℕ) (made : List ℕ → Y) (r : Result (List ℕ) ImageStop) → ((r >>= λ xs. Ok (f xs)) >>= λ xs. Ok (made xs)) ≡ (r >>= λ xs. Ok (made (f xs)))
  made_twice f made (Ok xs) = refl
  made_twice f made (Err stop) = refl

  raster_reads : (made : List ℕ → Y) (n : ℕ) → ReadsFor n (λ bs. raster_in h bs >>= λ xs. Ok (made xs))
  unfolding raster_in
  raster_reads made n = by_test (is_packed h.kind)
    where
      by_test : (t : Bool) → ReadsFor n (λ bs. (if t then packed_in h.width h.height bs else samples_in h (sample_count h) bs) >>= λ xs. Ok (made xs))
      by_test true = reads_like n (λ bs. packed_in h.width h.height bs >>= λ xs. Ok (made xs)) (λ bs. bytes_in (h.height * row_size h.width) bs >>= λ xs. Ok (made (rows_pixels h.width h.height xs))) (λ bs. made_twice (rows_pixels h.width h.height) made (bytes_in (h.height * row_size h.width) bs)) (all_bytes_read (h.height * row_size h.width) (λ xs. made (rows_pixels h.width h.height xs)) n)
      by_test false = samples_read (sample_count h) made n

-- ---- the format
module _ {Y : Type 0} (k : Kind → Reader Y) (K : (kind : Kind) (n : ℕ) → ReadsFor n (k kind)) where
  abbrev then_kind : Result (Kind × List ℕ) ImageStop → Result Y ImageStop
  then_kind r = r >>= λ o. k o.0 o.1

  kind_then : (kind : Kind) (r : Result (List ℕ) ImageStop) → then_kind (r >>= λ rest. Ok (kind, rest)) ≡ (r >>= k kind)
  kind_then kind (Ok rest) = refl
  kind_then kind (Err stop) = refl

  kind_begins : Begins (λ bs. then_kind (kind_in bs))
  kind_begins =
      let so = (K PlainGrey 0).goes in
      record { at_end = none_left (λ bs. then_kind (kind_in bs)) TooShort refl; goes = (50 ∷ 32 ∷ so.0, so.1, so.2) }

  kind_reads : (n : ℕ) → ReadsFor n (λ bs. then_kind (kind_in bs))
  kind_reads = reads_by (λ bs. then_kind (kind_in bs)) kind_begins (λ n c. by_name n c (image_kind_named c) refl)
    where
      by_name : (n c : ℕ) (o : Option Kind) → image_kind_named c ≡ o → After (ReadsFor n) (λ bs. then_kind (kind_in bs)) c
      by_name n c None e = refuses Format (λ bs. ap (λ (o : Option Kind). then_kind (after_kind o c bs)) e)
      by_name n c (Some kind) e = goes_on (blank (k kind) Format) (blank_reads (k kind) (K kind) Format n) (λ bs. ap (λ (o : Option Kind). then_kind (after_kind o c bs)) e ∙ kind_then kind (or_flaw Format (after_blank bs)))

  opening_reads : (n : ℕ) → ReadsFor n (λ bs. then_kind (opening bs))
  opening_reads = reads_by (λ bs. then_kind (opening bs)) (record { at_end = none_left (λ bs. then_kind (opening bs)) TooShort refl; goes = (80 ∷ kind_begins.goes.0, kind_begins.goes.1, kind_begins.goes.2) }) (λ n c. by_test n c (c == 80) refl)
    where
      by_test : (n c : ℕ) (t : Bool) → (c == 80) ≡ t → After (ReadsFor n) (λ bs. then_kind (opening bs)) c
      by_test n c true e = goes_on (λ bs. then_kind (kind_in bs)) (kind_reads n) (λ bs. ap (λ (t : Bool). then_kind (if t then kind_in bs else Err (length (c ∷ bs), Format))) e)
      by_test n c false e = refuses Format (λ bs. ap (λ (t : Bool). then_kind (if t then kind_in bs else Err (length (c ∷ bs), Format))) e)

-- ---- the image
not_zero : (x : ℕ) → wants_digit true x ≡ false → 1 ≤ x
not_zero x e = grind (arith, nat_tests, e)

abbrev image_with : Header → List ℕ → Pixmap
image_with h xs = record { header = h; samples = xs }

abbrev then_samples : Result (Header × List ℕ) ImageStop → Result Pixmap ImageStop
then_samples r = r >>= λ x. raster_in x.0 x.1 >>= λ samples. Ok (image_with x.0 samples)

abbrev header_with : Kind → ℕ → ℕ → ℕ → Header
header_with kind width height maxval = record { kind = kind; width = width; height = height; maxval = maxval }

module _ (kind : Kind) where
  abbrev after_height : ℕ → ℕ → List ℕ → Result Pixmap ImageStop
  after_height w h bs = maxval_in kind bs >>= λ m. then_samples (Ok (header_with kind w h m.0, m.1))

  after_height_reads : (w h n : ℕ) → ReadsFor n (after_height w h)
  after_height_reads w h n = by_test (is_bitmap kind)
    where
      some_reads : (m : ℕ) → 1 ≤ m → (i : ℕ) → ReadsFor i (λ bs. then_samples (Ok (header_with kind w h m, bs)))
      some_reads m some = raster_reads (header_with kind w h m) some (image_with (header_with kind w h m))

      by_test : (t : Bool) → ReadsFor n (λ bs. (if t then Ok (1, bs) else number_in Maxval true 65535 bs) >>= λ m. then_samples (Ok (header_with kind w h m.0, m.1)))
      by_test true = some_reads 1 (omega arith) n
      by_test false = number_reads Maxval true 65535 (λ m bs. then_samples (Ok (header_with kind w h m, bs))) (omega arith) (λ m fits e. some_reads m (not_zero m e)) n

  abbrev after_width : ℕ → List ℕ → Result Pixmap ImageStop
  after_width w bs = number_in Height true 1000000000 bs >>= λ h. after_height w h.0 h.1

  abbrev after_opening : List ℕ → Result Pixmap ImageStop
  after_opening bs = number_in Width true 1000000000 bs >>= λ w. after_width w.0 w.1

  opening_then_reads : (n : ℕ) → ReadsFor n after_opening
  opening_then_reads = number_reads Width true 1000000000 after_width (omega arith) (λ w fits e. number_reads Height true 1000000000 (after_height w) (omega arith) (λ h fits e. after_height_reads w h))

  -- the header's numbers, read one after the other
  height_same : (w h : ℕ) (r : Result (ℕ × List ℕ) ImageStop) → then_samples (r >>= λ m. Ok (header_with kind w h m.0, m.1)) ≡ (r >>= λ m. then_samples (Ok (header_with kind w h m.0, m.1)))
  height_same w h (Ok m) = refl
  height_same w h (Err stop) = refl

  width_same : (w : ℕ) (r : Result (ℕ × List ℕ) ImageStop) → then_samples (r >>= λ h. maxval_in kind h.1 >>= λ m. Ok (header_with kind w h.0 m.0, m.1)) ≡ (r >>= λ h. after_height w h.0 h.1)
  width_same w (Ok h) = height_same w h.0 (maxval_in kind h.1)
  width_same w (Err stop) = refl

  opening_same : (r : Result (ℕ × List ℕ) ImageStop) → then_samples (r >>= λ w. number_in Height true 1000000000 w.1 >>= λ h. maxval_in kind h.1 >>= λ m. Ok (header_with kind w.0 h.0 m.0, m.1)) ≡ (r >>= λ w. after_width w.0 w.1)
  opening_same (Ok w) = width_same w.0 (number_in Height true 1000000000 w.1)
  opening_same (Err stop) = refl

image_same : (r : Result (Kind × List ℕ) ImageStop) → then_samples (r >>= λ o. number_in Width true 1000000000 o.1 >>= λ w. number_in Height true 1000000000 w.1 >>= λ h. maxval_in o.0 h.1 >>= λ m. Ok (header_with o.0 w.0 h.0 m.0, m.1)) ≡ (r >>= λ o. after_opening o.0 o.1)
image_same (Ok o) = opening_same o.0 (number_in Width true 1000000000 o.1)
image_same (Err stop) = refl

image_reads : (n : ℕ) → ReadsFor n image_in
unfolding image_in image_header_in
image_reads n = reads_like n image_in (λ bs. opening bs >>= λ o. after_opening o.0 o.1) (λ bs. image_same (opening bs)) (opening_reads after_opening opening_then_reads n)

pub bad_bytes_stay : BadBytesStayBad
bad_bytes_stay front rest other b flaw e = stays_bad front image_in b rest other flaw (image_reads (length (front ++ b ∷ rest))) e

pub good_bytes_go_on : GoodBytesGoOn
good_bytes_go_on front rest flaw e = begins_whole front image_in rest flaw (image_reads (length (front ++ rest))) e
