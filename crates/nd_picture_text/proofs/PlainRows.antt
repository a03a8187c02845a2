-- Rows of samples in digits: what is read of the bytes at hand is read whatever follows these, if one of them is left.
use Rattle.std.proofs.Common.{◌≡◌, ◌∙◌, ℕ, zero, suc, ◌+◌, ◌-◌, ◌*◌, ◌<◌, ◌≤◌, ◌⊎◌, inl, inr, Bool, true, false, List, [], ◌∷◌, ◌++◌, length, length-append, length-drop, length-take-le, take, drop, take-append-drop, Option, None, Some, IfSome, Result, Ok, Err, refl, sym, ap, subst, arith, append-nil, append_assoc, zero-mul, one-mul, add-mul, mul-le-mul_right}
use Rattle.std.specs.Prelude.{All, nat_lt, ◌==◌, if◌then◌else◌}
use Rattle.std.specs.Io.KnownBytes.{prepend_known, Consumes, IsAtEnd}
use Rattle.std.proofs.lemmas.Bool.Decides.{nat_tests}
use Rattle.std.proofs.lemmas.List.Elements.{All-append}
use Rattle.nd_picture_text.specs.declared.image_formats.Kind.{Kind}
use Rattle.nd_picture_text.specs.declared.image_formats.Kind.TheVariants.{PlainBitmap, PlainGrey, PlainColour, RawBitmap, RawGrey, RawColour}
use Rattle.nd_picture_text.specs.declared.image_formats.Header.{Header}
use Rattle.nd_picture_text.specs.declared.rows_from_stream.Rows.{Rows}
use Rattle.nd_picture_text.specs.declared.errors.ImageError.TheVariants.{BadByte}
use Rattle.nd_picture_text.specs.declared.errors.ImageFlaw.{ImageFlaw}
use Rattle.nd_picture_text.specs.declared.errors.ImageFlaw.TheVariants.{Sample}
use Rattle.nd_picture_text.specs.ImageFormatsAndHeaders.{pixmap_of, IsHeader, IsWholeImage, is_plain, is_bitmap, is_packed, sample_count}
use Rattle.nd_picture_text.specs.NumbersInImageText.{◌>>=◌, after_gap}
use Rattle.nd_picture_text.specs.ImageReading.{ImageStop, number_in, bit_here, plain_sample, narrow_sample, wide_sample, sample_in, samples_after, samples_in, samples_before, samples_and_rest}
use Rattle.nd_picture_text.specs.PlainRowReading.{IsSettled, PutsSamples, PutsSettled}
use Rattle.nd_picture_text.specs.RowwiseImageReading.{with_rows, row_samples, samples_of_rows, ReadsThen, TakesRows, AreNextRows, IsBadRow}
use Rattle.nd_picture_text.proofs.HeaderIgnoresFollowingBytes.{Yields, some_before, same_pair, gap_passes, flaw_yields, left_dropped}
use Rattle.nd_picture_text.proofs.NextRows.{given_taken}
use Rattle.nd_picture_text.proofs.RasterSamples.{after_none, samples_more, samples_stop, one_more, all_more}
use Rattle.nd_picture_text.proofs.RawRows.{more_samples, samples_by_row, samples_rows}
use Rattle.nd_picture_text.proofs.RawRowSamples.{after_both, after_stop}
use Rattle.nd_picture_text.proofs.ReadingByteByByte.{within, stays_bad, reads_like, ReadsFor, samples_read}

-- ---- a sample

-- a digit of a bitmap
bit_yields : (bs : List ℕ) (x : ℕ) (rest : List ℕ) → bit_here bs ≡ Ok (x, rest) → Yields bit_here bs x rest
bit_yields [] x rest is = absurd cc
bit_yields (c ∷ bs) x rest is = by_tests (c == 48) (c == 49) refl refl
  where
    value : (y : ℕ) → ((l : List ℕ) → bit_here (c ∷ l) ≡ Ok (y, l)) → Yields bit_here (c ∷ bs) x rest
    value y so =
        let same = same_pair (bit_here (c ∷ bs)) y x bs rest (so bs) is in
        record {
          front = c ∷ [];
          parts = ap (λ (l : List ℕ). c ∷ l) same.1;
          goes_on = λ b tail more left. so (bs ++ more) ∙ ap (λ (z : ℕ). Ok (z, bs ++ more)) same.0 ∙ ap (λ (l : List ℕ). Ok (x, l ++ more)) same.1;
        }

    by_tests : (t u : Bool) → (c == 48) ≡ t → (c == 49) ≡ u → Yields bit_here (c ∷ bs) x rest
    by_tests true u d e = value 1 (λ l. ap (λ (t : Bool). if t then Ok (1, l) else (if c == 49 then Ok (0, l) else Err (length (c ∷ l), Sample))) d)
    by_tests false true d e = value 0 (λ l. ap (λ (t : Bool). if t then Ok (1, l) else (if c == 49 then Ok (0, l) else Err (length (c ∷ l), Sample))) d ∙ ap (λ (t : Bool). if t then Ok (0, l) else Err (length (c ∷ l), Sample)) e)
    by_tests false false d e =
        let no : bit_here (c ∷ bs) ≡ Err (length (c ∷ bs), Sample) = ap (λ (t : Bool). if t then Ok (1, bs) else (if c == 49 then Ok (0, bs) else Err (length (c ∷ bs), Sample))) d ∙ ap (λ (t : Bool). if t then Ok (0, bs) else Err (length (c ∷ bs), Sample)) e in
        absurd cc

-- and what stands before it
gap_bit : (bs gap : List ℕ) (x : ℕ) (rest : List ℕ) → after_gap false bs ≡ gap → bit_here gap ≡ Ok (x, rest) → Yields (λ l. bit_here (after_gap false l)) bs x rest
gap_bit bs [] x rest e is = absurd cc
gap_bit bs (c ∷ gap) x rest e is =
    let passes = gap_passes false bs in
    let here = bit_yields (c ∷ gap) x rest is in
    record {
      front = passes.front ++ here.front;
      parts = passes.parts ∙ ap (λ (l : List ℕ). passes.front ++ l) (e ∙ here.parts) ∙ sym (append_assoc passes.front here.front rest);
      goes_on = λ b tail more left. ap bit_here (passes.goes_on c gap more e ∙ ap (λ (l : List ℕ). l ++ more) e) ∙ here.goes_on b tail more left;
    }

-- ---- many samples

-- samples that were read have a first one, and then the others
before_one : (x : ℕ) (r : Result (List ℕ × List ℕ) ImageStop) (xs rest : List ℕ) → samples_before (x ∷ []) r ≡ Ok (xs, rest) → (ys : List ℕ) × (r ≡ Ok (ys, rest)) × (xs ≡ x ∷ ys)
before_one x (Ok read) xs rest e =
    let same : (x ∷ read.0, read.1) ≡ (xs, rest) = cc in
    (read.0, ap (λ (l : List ℕ). Ok (read.0, l)) (ap (λ (z : List ℕ × List ℕ). z.1) same), sym (ap (λ (z : List ℕ × List ℕ). z.0) same))
before_one x (Err stop) xs rest e = absurd cc

before_more : (xs : List ℕ) (x : ℕ) (r : Result (List ℕ × List ℕ) ImageStop) → samples_before (xs ++ x ∷ []) r ≡ samples_before xs (samples_before (x ∷ []) r)
before_more xs x (Ok read) = ap (λ (l : List ℕ). Ok (l, read.1)) (append_assoc xs (x ∷ []) read.0)
before_more xs x (Err stop) = refl

pub before_none : (r : Result (List ℕ × List ℕ) ImageStop) → samples_before [] r ≡ r
before_none (Ok read) = refl
before_none (Err stop) = refl

module _ (h : Header) where
  abbrev then_read : ℕ → Result (ℕ × List ℕ) ImageStop → Result (List ℕ × List ℕ) ImageStop
  then_read n r = r >>= λ x. samples_before (x.0 ∷ []) (samples_and_rest h n x.1)

  abbrev then_samples : ℕ → Result (ℕ × List ℕ) ImageStop → Result (List ℕ) ImageStop
  then_samples n r = r >>= λ x. samples_after (x.0 ∷ []) (samples_in h n x.1)

  -- one sample more
  pub read_more : (missing : ℕ) (xs rest after : List ℕ) (sample : ℕ) (whole : Result (List ℕ × List ℕ) ImageStop) → 0 < missing → sample_in h rest ≡ Ok (sample, after) → samples_before xs (samples_and_rest h missing rest) ≡ whole
      → samples_before (xs ++ sample ∷ []) (samples_and_rest h (missing - 1) after) ≡ whole
  read_more zero xs rest after sample whole some next is = absurd (omega (arith, some))
  read_more (suc missing) xs rest after sample whole some next is =
      let less : suc missing - 1 ≡ missing = omega arith in
      before_more xs sample (samples_and_rest h (suc missing - 1) after) ∙ ap (λ n. samples_before xs (samples_before (sample ∷ []) (samples_and_rest h n after))) less ∙ ap (samples_before xs) (sym (ap (then_read missing) next)) ∙ is

  -- samples, and then others
  pub read_then : (a b c : ℕ) (bs xs rest ys left : List ℕ) → c ≡ a + b → samples_and_rest h a bs ≡ Ok (xs, rest) → samples_and_rest h b rest ≡ Ok (ys, left) → samples_and_rest h c bs ≡ Ok (xs ++ ys, left)
  read_then zero b c bs xs rest ys left sum is other =
      let same = same_pair (samples_and_rest h zero bs) [] xs bs rest refl is in
      let as_many : c ≡ b = omega (arith, sum) in
      ap (λ n. samples_and_rest h n bs) as_many ∙ ap (samples_and_rest h b) same.1 ∙ other ∙ ap (λ (l : List ℕ). Ok (l ++ ys, left)) same.0
  read_then (suc a) b zero bs xs rest ys left sum is other = absurd (omega (arith, sum))
  read_then (suc a) b (suc c) bs xs rest ys left sum is other = by_result (sample_in h bs) refl (read_then a b c)
    where
      by_result : (r : Result (ℕ × List ℕ) ImageStop) → sample_in h bs ≡ r
          → ((bs xs rest ys left : List ℕ) → c ≡ a + b → samples_and_rest h a bs ≡ Ok (xs, rest) → samples_and_rest h b rest ≡ Ok (ys, left) → samples_and_rest h c bs ≡ Ok (xs ++ ys, left))
          → samples_and_rest h (suc c) bs ≡ Ok (xs ++ ys, left)
      by_result (Ok x) e others =
          let so = before_one x.0 (samples_and_rest h a x.1) xs rest (sym (ap (then_read a) e) ∙ is) in
          let all = others x.1 so.0 rest ys left (omega (arith, sum)) so.1 other in
          ap (then_read c) e ∙ ap (samples_before (x.0 ∷ [])) all ∙ ap (λ (l : List ℕ). Ok (l ++ ys, left)) (sym so.2)
      by_result (Err stop) e others =
          let no : samples_and_rest h (suc a) bs ≡ Err stop = ap (then_read a) e in
          absurd cc

  pub samples_then_rest : (a b c : ℕ) (bs xs rest : List ℕ) → c ≡ a + b → samples_and_rest h a bs ≡ Ok (xs, rest) → samples_in h c bs ≡ samples_after xs (samples_in h b rest)
  samples_then_rest zero b c bs xs rest sum is =
      let same = same_pair (samples_and_rest h zero bs) [] xs bs rest refl is in
      let as_many : c ≡ b = omega (arith, sum) in
      ap (λ n. samples_in h n bs) as_many ∙ ap (samples_in h b) same.1 ∙ sym (after_none (samples_in h b rest)) ∙ ap (λ (l : List ℕ). samples_after l (samples_in h b rest)) same.0
  samples_then_rest (suc a) b zero bs xs rest sum is = absurd (omega (arith, sum))
  samples_then_rest (suc a) b (suc c) bs xs rest sum is = by_result (sample_in h bs) refl (samples_then_rest a b c)
    where
      by_result : (r : Result (ℕ × List ℕ) ImageStop) → sample_in h bs ≡ r → ((bs xs rest : List ℕ) → c ≡ a + b → samples_and_rest h a bs ≡ Ok (xs, rest) → samples_in h c bs ≡ samples_after xs (samples_in h b rest))
          → samples_in h (suc c) bs ≡ samples_after xs (samples_in h b rest)
      by_result (Ok x) e others =
          let so = before_one x.0 (samples_and_rest h a x.1) xs rest (sym (ap (then_read a) e) ∙ is) in
          let all = others x.1 so.0 rest (omega (arith, sum)) so.1 in
          ap (then_samples c) e ∙ ap (samples_after (x.0 ∷ [])) all ∙ after_both x.0 so.0 (samples_in h b rest) ∙ ap (λ (l : List ℕ). samples_after l (samples_in h b rest)) (sym so.2)
      by_result (Err stop) e others =
          let no : samples_and_rest h (suc a) bs ≡ Err stop = ap (then_read a) e in
          absurd cc

  -- a stop among some samples is one among more
  pub stop_of_more : (n m : ℕ) (bs : List ℕ) (stop : ImageStop) → n ≤ m → samples_in h n bs ≡ Err stop → samples_in h m bs ≡ Err stop
  stop_of_more zero m bs stop few is = absurd cc
  stop_of_more (suc n) zero bs stop few is = absurd (omega (arith, few))
  stop_of_more (suc n) (suc m) bs stop few is = by_result (sample_in h bs) refl (stop_of_more n m)
    where
      by_result : (r : Result (ℕ × List ℕ) ImageStop) → sample_in h bs ≡ r → ((bs : List ℕ) (stop : ImageStop) → n ≤ m → samples_in h n bs ≡ Err stop → samples_in h m bs ≡ Err stop) → samples_in h (suc m) bs ≡ Err stop
      by_result (Ok x) e others =
          let so = others x.1 stop (omega (arith, few)) (after_stop x.0 (samples_in h n x.1) stop (sym (ap (then_samples n) e) ∙ is)) in
          ap (then_samples m) e ∙ ap (samples_after (x.0 ∷ [])) so
      by_result (Err s) e others = ap (then_samples m) e ∙ sym (ap (then_samples n) e) ∙ is

  -- and stays one whatever follows the bytes, if one of them is left
  module _ (one : 1 ≤ h.maxval) where
    same_result : (r : Result (List ℕ) ImageStop) → r ≡ (r >>= λ xs. Ok xs)
    same_result (Ok xs) = refl
    same_result (Err stop) = refl

    reads : (n k : ℕ) → ReadsFor k (samples_in h n)
    reads n k = reads_like k (samples_in h n) (λ bs. samples_in h n bs >>= λ xs. Ok xs) (λ bs. same_result (samples_in h n bs)) (samples_read h one n (λ xs. xs) k)

    pub left_within : (n : ℕ) (bs : List ℕ) (left : ℕ) (flaw : ImageFlaw) → samples_in h n bs ≡ Err (left, flaw) → left ≤ length bs
    left_within n bs left flaw is = within bs (samples_in h n) (left, flaw) (reads n (length bs)) is

    pub stop_stays : (n : ℕ) (bs tail : List ℕ) (left : ℕ) (flaw : ImageFlaw) → samples_in h n bs ≡ Err (left, flaw) → (tail ≡ []) ⊎ (0 < left) → samples_in h n (bs ++ tail) ≡ Err (left + length tail, flaw)
    stop_stays n bs tail left flaw is (inl none) =
        let long : left ≡ left + length tail = omega (arith, ap length none) in
        ap (samples_in h n) (ap (λ (l : List ℕ). bs ++ l) none ∙ append-nil bs) ∙ is ∙ ap (λ k. Err (k, flaw)) long
    stop_stays n bs tail left flaw is (inr some) = by_rest (drop (length bs - left) bs) refl
      where
        front : List ℕ
        front = take (length bs - left) bs

        by_rest : (l : List ℕ) → drop (length bs - left) bs ≡ l → samples_in h n (bs ++ tail) ≡ Err (left + length tail, flaw)
        by_rest [] d = absurd (omega (arith, some, left_within n bs left flaw is, length-drop (length bs - left) bs, ap length d))
        by_rest (b ∷ rest) d =
            let size : length (b ∷ rest) ≡ left = omega (arith, left_within n bs left flaw is, length-drop (length bs - left) bs, ap length d) in
            let parts : bs ≡ front ++ (b ∷ rest) = sym (take-append-drop (length bs - left) bs) ∙ ap (λ (l : List ℕ). front ++ l) d in
            let stops : samples_in h n (front ++ (b ∷ rest)) ≡ Err (length (b ∷ rest), flaw) = sym (ap (samples_in h n) parts) ∙ is ∙ ap (λ k. Err (k, flaw)) (sym size) in
            let stays = stays_bad front (samples_in h n) b rest (rest ++ tail) flaw (reads n (length (front ++ (b ∷ rest)))) stops in
            let long : length (b ∷ (rest ++ tail)) ≡ left + length tail = omega (arith, length-append rest tail, size) in
            ap (samples_in h n) (ap (λ (l : List ℕ). l ++ tail) parts ∙ append_assoc front (b ∷ rest) tail) ∙ stays ∙ ap (λ k. Err (k, flaw)) long

plain_unpacked : (k : Kind) → is_plain k ≡ true → is_packed k ≡ false
plain_unpacked PlainBitmap e = refl
plain_unpacked PlainGrey e = refl
plain_unpacked PlainColour e = refl
plain_unpacked RawBitmap e = absurd cc
plain_unpacked RawGrey e = absurd cc
plain_unpacked RawColour e = absurd cc

module _ (h : Header) (plain : is_plain h.kind ≡ true) where
  pub in_digits : (bs : List ℕ) → sample_in h bs ≡ plain_sample h bs
  unfolding sample_in
  in_digits bs = ap (λ (t : Bool). if t then plain_sample h bs else (if nat_lt h.maxval 256 then narrow_sample h.maxval bs else wide_sample h.maxval bs)) plain

  sample_yields : (bs : List ℕ) (x : ℕ) (rest : List ℕ) → sample_in h bs ≡ Ok (x, rest) → Yields (sample_in h) bs x rest
  sample_yields bs x rest is = by_kind (is_bitmap h.kind) refl
    where
      by_kind : (t : Bool) → is_bitmap h.kind ≡ t → Yields (sample_in h) bs x rest
      by_kind true e =
          let so : (l : List ℕ) → sample_in h l ≡ bit_here (after_gap false l) = λ l. in_digits l ∙ ap (λ (t : Bool). if t then bit_here (after_gap false l) else number_in Sample false h.maxval l) e in
          let bit = gap_bit bs (after_gap false bs) x rest refl (sym (so bs) ∙ is) in
          record { front = bit.front; parts = bit.parts; goes_on = λ b tail more left. so (bs ++ more) ∙ bit.goes_on b tail more left }
      by_kind false e =
          let so : (l : List ℕ) → sample_in h l ≡ number_in Sample false h.maxval l = λ l. in_digits l ∙ ap (λ (t : Bool). if t then bit_here (after_gap false l) else number_in Sample false h.maxval l) e in
          let number = flaw_yields false h.maxval Sample bs x rest (sym (so bs) ∙ is) in
          record { front = number.front; parts = number.parts; goes_on = λ b tail more left. so (bs ++ more) ∙ number.goes_on b tail more left }

  samples_yield : (n : ℕ) (bs xs rest : List ℕ) → samples_and_rest h n bs ≡ Ok (xs, rest) → Yields (samples_and_rest h n) bs xs rest
  samples_yield zero bs xs rest is =
      let same = same_pair (samples_and_rest h zero bs) [] xs bs rest refl is in
      record { front = []; parts = same.1; goes_on = λ b tail more left. ap (λ (l : List ℕ). Ok ([], l ++ more)) same.1 ∙ ap (λ (l : List ℕ). Ok (l, rest ++ more)) same.0 }
  samples_yield (suc n) bs xs rest is = by_result (sample_in h bs) refl (samples_yield n)
    where
      by_result : (r : Result (ℕ × List ℕ) ImageStop) → sample_in h bs ≡ r → ((bs xs rest : List ℕ) → samples_and_rest h n bs ≡ Ok (xs, rest) → Yields (samples_and_rest h n) bs xs rest) → Yields (samples_and_rest h (suc n)) bs xs rest
      by_result (Ok x) e others =
          let so = before_one x.0 (samples_and_rest h n x.1) xs rest (sym (ap (then_read h n) e) ∙ is) in
          let one = sample_yields bs x.0 x.1 e in
          let two = others x.1 so.0 rest so.1 in
          record {
            front = one.front ++ two.front;
            parts = one.parts ∙ ap (λ (l : List ℕ). one.front ++ l) two.parts ∙ sym (append_assoc one.front two.front rest);
            goes_on = λ b tail more left.
                (let first = some_before x.1 two.front rest b tail two.parts left in
                ap (then_read h n) (one.goes_on first.0 first.1 more first.2) ∙ ap (samples_before (x.0 ∷ [])) (two.goes_on b tail more left) ∙ ap (λ (l : List ℕ). Ok (l, rest ++ more)) (sym so.2));
          }
      by_result (Err stop) e others =
          let no : samples_and_rest h (suc n) bs ≡ Err stop = ap (then_read h n) e in
          absurd cc

  -- ---- rows

  in_rows : (n : ℕ) (bs : List ℕ) → samples_of_rows h n bs ≡ samples_in h (row_samples h n) bs
  in_rows n bs = samples_rows h n bs (plain_unpacked h.kind plain)

  module _ (row : ℕ) (sized : row ≡ row_samples h 1) where
    as_many : (count : ℕ) → count * row ≡ row_samples h count
    as_many count = ap (λ n. count * n) sized ∙ sym (samples_by_row h count)

    -- with more bytes after those at hand
    read_on : (n : ℕ) (read xs rest tail : List ℕ) → samples_and_rest h n read ≡ Ok (xs, rest) → (tail ≡ []) ⊎ (0 < length rest) → samples_and_rest h n (read ++ tail) ≡ Ok (xs, rest ++ tail)
    read_on n read xs rest tail is (inl none) =
        ap (samples_and_rest h n) (ap (λ (l : List ℕ). read ++ l) none ∙ append-nil read) ∙ is ∙ ap (λ (l : List ℕ). Ok (xs, l)) (sym (append-nil rest) ∙ ap (λ (l : List ℕ). rest ++ l) (sym none))
    read_on n read xs [] tail is (inr some) = absurd (omega (arith, some))
    read_on n read xs (b ∷ rest) tail is (inr some) = (samples_yield n read xs (b ∷ rest) is).goes_on b rest tail refl

    rows_on : (count : ℕ) (read xs rest tail : List ℕ) → samples_and_rest h (count * row) read ≡ Ok (xs, rest) → (tail ≡ []) ⊎ (0 < length rest) → ReadsThen h count (read ++ tail) xs (rest ++ tail)
    rows_on count read xs rest tail is settled = λ more.
        (let sum : row_samples h (count + more) ≡ count * row + row_samples h more = more_samples h count more ∙ ap (λ n. n + row_samples h more) (sym (as_many count)) in
        in_rows (count + more) (read ++ tail) ∙ samples_then_rest h (count * row) (row_samples h more) (row_samples h (count + more)) (read ++ tail) xs (rest ++ tail) sum (read_on (count * row) read xs rest tail is settled)
        ∙ ap (samples_after xs) (sym (in_rows more (rest ++ tail))))

    -- where the input ended, or a byte is left, nothing that follows changes what was read
    settled_by : (ended : Bool) (left size len : ℕ) (ys : List ℕ) → IsSettled ended left → (ended ≡ true → len < size) → (size ≤ len) ⊎ (ys ≡ []) → (ys ≡ []) ⊎ (0 < left)
    settled_by ended left size len ys (inr some) short filled = inr some
    settled_by ended left size len ys (inl end) short (inr none) = inl none
    settled_by ended left size len ys (inl end) short (inl enough) = absurd (omega (arith, short end, enough))

    module _ (old mid : Option (List ℕ)) (bytes piece read : List ℕ) (takes : Consumes old mid piece) (is : read ≡ bytes ++ piece) (size : ℕ) (filled : (size ≤ length read) ⊎ IsAtEnd mid) (ended : Bool) (short : ended ≡ true → length read < size) where
      -- the rows that were read
      module _ (count missing left : ℕ) (xs rest : List ℕ) (some : 0 < count) (fewer : count ≤ missing) (many : length xs ≡ count * row) (low : All (λ s. s ≤ h.maxval) xs) (long : left ≡ length rest)
          (found : samples_and_rest h (count * row) read ≡ Ok (xs, rest)) (settled : IsSettled ended left) where
        abbrev front : ℕ
        front = length read - left

        cut : (front ≤ length read) × (rest ≡ drop front read)
        cut =
            let yields = samples_yield (count * row) read xs rest found in
            left_dropped read yields.front rest front yields.parts (ap (λ n. length read - n) long)

        pub front_within : left ≤ length read
        front_within =
            let yields = samples_yield (count * row) read xs rest found in
            omega (arith, long, ap length yields.parts, length-append yields.front rest)

        then_by : (old mid : Option (List ℕ)) → Consumes old mid piece → (size ≤ length read) ⊎ IsAtEnd mid → IfSome (prepend_known bytes old) (λ all. IfSome (prepend_known rest mid) (λ given. ReadsThen h count all xs given))
        then_by None mid takes filled = tt
        then_by (Some given) None takes filled = absurd takes
        then_by (Some given) (Some ys) takes filled =
            let all : bytes ++ given ≡ read ++ ys = ap (λ (l : List ℕ). bytes ++ l) takes ∙ sym (append_assoc bytes piece ys) ∙ ap (λ (l : List ℕ). l ++ ys) (sym is) in
            let so = settled_by ended left size (length read) ys settled short filled in
            subst (λ (l : List ℕ). ReadsThen h count l xs (rest ++ ys)) (sym all) (rows_on count read xs rest ys found (subst (λ n. (ys ≡ []) ⊎ (0 < n)) long so))

        taken_rows : TakesRows h count front xs (prepend_known bytes old) (prepend_known rest mid)
        taken_rows = (
          take front read,
          length-take-le front read cut.0,
          subst (λ (l : List ℕ). Consumes (prepend_known bytes old) (prepend_known l mid) (take front read)) (sym cut.1) (given_taken old mid bytes piece read front takes is),
          then_by old mid takes filled,
        )

        pub plain_next : (rows : Rows) (new : List ℕ) → new ≡ drop front read → rows.size ≡ front → rows.image.header ≡ with_rows count h → rows.image.samples.items ≡ xs → AreNextRows h missing (prepend_known bytes old) (prepend_known new mid) rows
        plain_next rows new dropped in_front headed listed =
            let high : count ≡ rows.image.header.height = sym (ap (λ (x : Header). x.height) headed) in
            let left_same : rest ≡ new = cut.1 ∙ sym dropped in
            let all = subst (λ (l : List ℕ). TakesRows h count front xs (prepend_known bytes old) (prepend_known l mid)) left_same taken_rows in
            let counted = subst (λ n. TakesRows h n front xs (prepend_known bytes old) (prepend_known new mid)) high all in
            let measured = subst (λ n. TakesRows h rows.image.header.height n xs (prepend_known bytes old) (prepend_known new mid)) (sym in_front) counted in (
              subst (λ (l : List ℕ). TakesRows h rows.image.header.height rows.size l (prepend_known bytes old) (prepend_known new mid)) (sym listed) measured,
              headed ∙ ap (λ n. with_rows n h) high,
              subst (λ n. n ≤ missing) high fewer,
            )

        pub plain_whole : IsHeader h → missing ≤ h.height → (rows : Rows) → rows.image.header ≡ with_rows count h → rows.image.samples.items ≡ xs → IsWholeImage (pixmap_of rows.image)
        plain_whole whole few rows headed listed =
            let header : IsHeader (with_rows count h) = record { wide = whole.wide; high = (some, omega (arith, whole.high, fewer, few)); light = whole.light; bits = whole.bits } in
            record {
              header = subst IsHeader (sym headed) header;
              all_samples = ap length listed ∙ many ∙ as_many count ∙ sym (ap sample_count headed);
              none_above = subst (λ (l : List ℕ). All (λ s. s ≤ rows.image.header.maxval) l) (sym listed) (subst (λ v. All (λ s. s ≤ v) xs) (sym (ap (λ (x : Header). x.maxval) headed)) low);
            }

      -- the byte that is no part of a row
      pub plain_bad : (one : 1 ≤ h.maxval) (missing byte left : ℕ) (flaw : ImageFlaw) → 0 < missing → samples_in h row read ≡ Err (left, flaw) → IsSettled ended left → byte ≡ length read - left → IfSome (prepend_known bytes old) (λ bs. IsBadRow h missing byte flaw bs)
      plain_bad one missing byte left flaw some stops settled at = by_known old mid takes filled
        where
          by_known : (old mid : Option (List ℕ)) → Consumes old mid piece → (size ≤ length read) ⊎ IsAtEnd mid → IfSome (prepend_known bytes old) (λ bs. IsBadRow h missing byte flaw bs)
          by_known None mid takes filled = tt
          by_known (Some given) None takes filled = absurd takes
          by_known (Some given) (Some ys) takes filled =
              let all : bytes ++ given ≡ read ++ ys = ap (λ (l : List ℕ). bytes ++ l) takes ∙ sym (append_assoc bytes piece ys) ∙ ap (λ (l : List ℕ). l ++ ys) (sym is) in
              let so = settled_by ended left size (length read) ys settled short filled in
              let stays = stop_stays h one row read ys left flaw stops so in
              let least : 1 * row ≤ missing * row = mul-le-mul_right row some in
              let fewer : row ≤ row_samples h missing = omega (arith, least, as_many missing) in
              let more = stop_of_more h row (row_samples h missing) (read ++ ys) (left + length ys, flaw) fewer stays in
              let within_read = left_within h one row read left flaw stops in
              let long : length (bytes ++ given) ≡ length read + length ys = ap length all ∙ length-append read ys in
              let back : left + length ys ≡ length (bytes ++ given) - byte = omega (arith, long, at, within_read) in
              (omega (arith, long, at), ap (samples_of_rows h missing) all ∙ in_rows missing (read ++ ys) ∙ more ∙ ap (λ n. Err (n, flaw)) back)

-- fewer bytes than were asked for are too few
pub ended_short : (len size total : ℕ) → len ≡ total → nat_lt len size ≡ true → total < size
ended_short len size total is e = grind (arith, nat_tests, is, e)

-- ---- a row that is read sample by sample, and rows that are read one after another

-- Says that `now` is `old` and the first samples of a row, and that `rest` is what is left of the bytes for those that are missing.
abbrev pub RowSoFar : Header → ℕ → List ℕ → List ℕ → List ℕ → ℕ → List ℕ → Type 0
RowSoFar h count bytes old now missing rest =
    (xs : List ℕ) × (now ≡ old ++ xs) × (length xs + missing ≡ count) × All (λ s. s ≤ h.maxval) xs
    × (samples_before xs (samples_and_rest h missing rest) ≡ samples_and_rest h count bytes) × (samples_after xs (samples_in h missing rest) ≡ samples_in h count bytes)

-- Says that `samples` are those of so many rows, that `rest` is what is left of the bytes, and that this stays so whatever follows the bytes.
abbrev pub RowsSoFar : Header → ℕ → List ℕ → Bool → ℕ → List ℕ → List ℕ → Type 0
RowsSoFar h row bytes ended count samples rest =
    (length samples ≡ count * row) × All (λ s. s ≤ h.maxval) samples × (samples_and_rest h (count * row) bytes ≡ Ok (samples, rest)) × (0 < count → IsSettled ended (length rest))

module _ (h : Header) where
  no_sample : All (λ s. s ≤ h.maxval) []
  no_sample k d less = absurd (omega (arith, less))

  pub row_none : (count : ℕ) (bytes old : List ℕ) → RowSoFar h count bytes old old count bytes
  row_none count bytes old = ([], sym (append-nil old), omega arith, no_sample, before_none (samples_and_rest h count bytes), after_none (samples_in h count bytes))

  pub row_more : (plain : is_plain h.kind ≡ true) (count missing sample : ℕ) (bytes old now new rest after : List ℕ) → 0 < missing → Ok (sample, after) ≡ plain_sample h rest → sample ≤ h.maxval → new ≡ now ++ sample ∷ [] → RowSoFar h count bytes old now missing rest
      → RowSoFar h count bytes old new (missing - 1) after
  row_more plain count missing sample bytes old now new rest after some read low kept so =
      let next : sample_in h rest ≡ Ok (sample, after) = in_digits h plain rest ∙ sym read in (
        so.0 ++ sample ∷ [],
        kept ∙ ap (λ (l : List ℕ). l ++ sample ∷ []) so.1 ∙ append_assoc old so.0 (sample ∷ []),
        one_more so.0 sample missing count some so.2,
        all_more h.maxval so.0 sample low so.3,
        read_more h missing so.0 rest after sample (samples_and_rest h count bytes) some next so.4,
        samples_more h missing so.0 rest after sample (samples_in h count bytes) some next so.5,
      )

  pub row_whole : (count missing : ℕ) (bytes old now rest : List ℕ) → missing ≡ 0 → RowSoFar h count bytes old now missing rest → PutsSamples h count bytes old now (Ok rest)
  row_whole count missing bytes old now rest none so =
      let read : samples_and_rest h count bytes ≡ Ok (so.0 ++ [], rest) = sym so.4 ∙ ap (λ n. samples_before so.0 (samples_and_rest h n rest)) none in
      (so.0, so.1, omega (arith, so.2, none), so.3, read ∙ ap (λ (l : List ℕ). Ok (l, rest)) (append-nil so.0))

  pub row_stop : (plain : is_plain h.kind ≡ true) (count missing left : ℕ) (flaw : ImageFlaw) (bytes old now rest : List ℕ) → 0 < missing → Err (left, flaw) ≡ plain_sample h rest → RowSoFar h count bytes old now missing rest → PutsSamples h count bytes old now (Err (BadByte left flaw))
  row_stop plain count missing left flaw bytes old now rest some stops so =
      ((so.0, so.1), sym so.5 ∙ ap (samples_after so.0) (samples_stop h missing rest (left, flaw) some (in_digits h plain rest ∙ sym stops)))

  module _ (row : ℕ) (bytes : List ℕ) (ended : Bool) where
    pub rows_none : RowsSoFar h row bytes ended 0 [] bytes
    rows_none =
        let none : 0 * row ≡ 0 = zero-mul row in
        (sym none, no_sample, ap (λ n. samples_and_rest h n bytes) none, λ some. absurd (omega (arith, some)))

    pub rows_more : (count : ℕ) (old new rest after : List ℕ) → RowsSoFar h row bytes ended count old rest → PutsSettled h row rest ended old new (Ok after) → RowsSoFar h row bytes ended (count + 1) new after
    rows_more count old new rest after so put =
        let next = put.0 in
        let sum : (count + 1) * row ≡ count * row + row = add-mul count 1 row ∙ ap (λ n. count * row + n) (one-mul row) in (
          ap length next.1 ∙ length-append old next.0 ∙ (λ i. so.0 i + next.2 i) ∙ sym sum,
          subst (λ (l : List ℕ). All (λ s. s ≤ h.maxval) l) (sym next.1) (All-append (λ s. s ≤ h.maxval) old next.0 so.1 next.3),
          read_then h (count * row) row ((count + 1) * row) bytes old rest next.0 after sum so.2 next.4 ∙ ap (λ (l : List ℕ). Ok (l, after)) (sym next.1),
          λ some. put.1,
        )

    pub rows_at_start : (count : ℕ) (samples rest : List ℕ) → count ≡ 0 → RowsSoFar h row bytes ended count samples rest → rest ≡ bytes
    rows_at_start count samples rest none so =
        let all : count * row ≡ 0 = ap (λ n. n * row) none ∙ zero-mul row in
        let read : samples_and_rest h 0 bytes ≡ Ok (samples, rest) = ap (λ n. samples_and_rest h n bytes) (sym all) ∙ so.2 in
        sym (same_pair (samples_and_rest h 0 bytes) [] samples bytes rest refl read).1

    pub rows_at_front : (count missing left : ℕ) (samples rest : List ℕ) → 0 < count → count ≤ missing → left ≡ length rest → RowsSoFar h row bytes ended count samples rest
        → (0 < count) × (count ≤ missing) × (length samples ≡ count * row) × All (λ s. s ≤ h.maxval) samples × (rest : List ℕ) × (left ≡ length rest) × (samples_and_rest h (count * row) bytes ≡ Ok (samples, rest)) × IsSettled ended left
    rows_at_front count missing left samples rest some few long so = (some, few, so.0, so.1, rest, long, so.2, subst (IsSettled ended) (sym long) (so.3 some))
