-- Samples of a raw image that are read a part at a time.
use Rattle.std.proofs.Common.{◌≡◌, ◌∙◌, ℕ, zero, suc, ◌+◌, ◌-◌, ◌*◌, ◌<◌, ◌≤◌, ◌⊎◌, inl, inr, Bool, true, false, List, [], ◌∷◌, ◌++◌, length, length-append, Result, Ok, Err, refl, sym, ap, subst, arith, append-nil}
use Rattle.std.specs.Prelude.{nat_le, nat_lt, if◌then◌else◌}
use Rattle.nd_picture_text.specs.declared.image_formats.Header.{Header}
use Rattle.nd_picture_text.specs.declared.errors.ImageFlaw.{ImageFlaw}
use Rattle.nd_picture_text.specs.declared.errors.ImageFlaw.TheVariants.{TooShort, AboveMaxval}
use Rattle.nd_picture_text.specs.ImageFormatsAndHeaders.{is_plain}
use Rattle.nd_picture_text.specs.NumbersInImageText.{◌>>=◌}
use Rattle.nd_picture_text.specs.ImageReading.{ImageStop, plain_sample, narrow_sample, low_half, wide_sample, sample_in, samples_after, samples_in, raw_size}
use Rattle.nd_picture_text.proofs.RasterSamples.{after_none, sample_takes, size_more}

-- a reader of one sample of so many bytes: what follows its bytes is left, and counts where it stops
record IsLocal (size : ℕ) (f : List ℕ → Result (ℕ × List ℕ) ImageStop) (bs : List ℕ) : Type 0 where
  goes_on : (more : List ℕ) (x : ℕ) (rest : List ℕ) → f bs ≡ Ok (x, rest) → f (bs ++ more) ≡ Ok (x, rest ++ more)
  stops : (more : List ℕ) (left : ℕ) (flaw : ImageFlaw) → f bs ≡ Err (left, flaw) → size ≤ length bs → f (bs ++ more) ≡ Err (left + length more, flaw)
  within : (left : ℕ) (flaw : ImageFlaw) → f bs ≡ Err (left, flaw) → left ≤ length bs

same_pair : (r : Result (ℕ × List ℕ) ImageStop) (x y : ℕ) (l m : List ℕ) → r ≡ Ok (x, l) → r ≡ Ok (y, m) → (x ≡ y) × (l ≡ m)
same_pair r x y l m d e =
    let same : (x, l) ≡ (y, m) = cc in
    (ap (λ (z : ℕ × List ℕ). z.0) same, ap (λ (z : ℕ × List ℕ). z.1) same)

same_stop : {Y : Type 0} (r : Result Y ImageStop) (m n : ℕ) (v w : ImageFlaw) → r ≡ Err (m, v) → r ≡ Err (n, w) → (m ≡ n) × (v ≡ w)
same_stop {Y} r m n v w d e =
    let same : (m, v) ≡ (n, w) = cc in
    (ap (λ (z : ImageStop). z.0) same, ap (λ (z : ImageStop). z.1) same)

-- a byte that is one
value_local : (size : ℕ) (f : List ℕ → Result (ℕ × List ℕ) ImageStop) (c y : ℕ) (bs : List ℕ) → ((l : List ℕ) → f (c ∷ l) ≡ Ok (y, l)) → IsLocal size f (c ∷ bs)
value_local size f c y bs is = record {
  goes_on = λ more x rest e.
      (let same = same_pair (f (c ∷ bs)) y x bs rest (is bs) e in
      is (bs ++ more) ∙ ap (λ (z : ℕ). Ok (z, bs ++ more)) same.0 ∙ ap (λ (l : List ℕ). Ok (x, l ++ more)) same.1);
  stops = λ more left flaw e enough. let no : f (c ∷ bs) ≡ Ok (y, bs) = is bs in absurd cc;
  within = λ left flaw e. let no : f (c ∷ bs) ≡ Ok (y, bs) = is bs in absurd cc;
}

-- a byte that is above the maxval
above_local : (size : ℕ) (f : List ℕ → Result (ℕ × List ℕ) ImageStop) (c : ℕ) (bs : List ℕ) → ((l : List ℕ) → f (c ∷ l) ≡ Err (length (c ∷ l), AboveMaxval)) → IsLocal size f (c ∷ bs)
above_local size f c bs is = record {
  goes_on = λ more x rest e. let no : f (c ∷ bs) ≡ Err (length (c ∷ bs), AboveMaxval) = is bs in absurd cc;
  stops = λ more left flaw e enough.
      (let same = same_stop (f (c ∷ bs)) (length (c ∷ bs)) left AboveMaxval flaw (is bs) e in
      let long : length (c ∷ (bs ++ more)) ≡ left + length more = omega (arith, length-append bs more, same.0) in
      is (bs ++ more) ∙ ap (λ n. Err (n, AboveMaxval)) long ∙ ap (λ w. Err (left + length more, w)) same.1);
  within = λ left flaw e. let same = same_stop (f (c ∷ bs)) (length (c ∷ bs)) left AboveMaxval flaw (is bs) e in omega (arith, same.0);
}

-- no byte, of one or two
none_local : (size : ℕ) (f : List ℕ → Result (ℕ × List ℕ) ImageStop) → 0 < size → f [] ≡ Err (0, TooShort) → IsLocal size f []
none_local size f some is = record {
  goes_on = λ more x rest e. absurd cc;
  stops = λ more left flaw e enough. absurd (omega (arith, enough, some));
  within = λ left flaw e. let same = same_stop (f []) 0 left TooShort flaw is e in omega (arith, same.0);
}

-- a byte before others
before_local : (size : ℕ) (f g : List ℕ → Result (ℕ × List ℕ) ImageStop) (c : ℕ) (bs : List ℕ) → ((l : List ℕ) → f (c ∷ l) ≡ g l) → IsLocal size g bs → IsLocal (suc size) f (c ∷ bs)
before_local size f g c bs is other = record {
  goes_on = λ more x rest e. is (bs ++ more) ∙ other.goes_on more x rest (sym (is bs) ∙ e);
  stops = λ more left flaw e enough. is (bs ++ more) ∙ other.stops more left flaw (sym (is bs) ∙ e) (omega (arith, enough));
  within = λ left flaw e. let less = other.within left flaw (sym (is bs) ∙ e) in omega (arith, less);
}

narrow_local : (maxval : ℕ) (bs : List ℕ) → IsLocal 1 (narrow_sample maxval) bs
narrow_local maxval [] = none_local 1 (narrow_sample maxval) (omega arith) refl
narrow_local maxval (c ∷ bs) = by_test (nat_le c maxval) refl
  where
    by_test : (t : Bool) → nat_le c maxval ≡ t → IsLocal 1 (narrow_sample maxval) (c ∷ bs)
    by_test true e = value_local 1 (narrow_sample maxval) c c bs (λ l. ap (λ (t : Bool). if t then Ok (c, l) else Err (length (c ∷ l), AboveMaxval)) e)
    by_test false e = above_local 1 (narrow_sample maxval) c bs (λ l. ap (λ (t : Bool). if t then Ok (c, l) else Err (length (c ∷ l), AboveMaxval)) e)

low_local : (maxval high : ℕ) (bs : List ℕ) → IsLocal 1 (low_half maxval high) bs
low_local maxval high [] = none_local 1 (low_half maxval high) (omega arith) refl
low_local maxval high (c ∷ bs) = by_test (nat_le (high + c) maxval) refl
  where
    by_test : (t : Bool) → nat_le (high + c) maxval ≡ t → IsLocal 1 (low_half maxval high) (c ∷ bs)
    by_test true e = value_local 1 (low_half maxval high) c (high + c) bs (λ l. ap (λ (t : Bool). if t then Ok (high + c, l) else Err (length (c ∷ l), AboveMaxval)) e)
    by_test false e = above_local 1 (low_half maxval high) c bs (λ l. ap (λ (t : Bool). if t then Ok (high + c, l) else Err (length (c ∷ l), AboveMaxval)) e)

wide_local : (maxval : ℕ) (bs : List ℕ) → IsLocal 2 (wide_sample maxval) bs
wide_local maxval [] = none_local 2 (wide_sample maxval) (omega arith) refl
wide_local maxval (c ∷ bs) = by_test (nat_le (c * 256) maxval) refl
  where
    by_test : (t : Bool) → nat_le (c * 256) maxval ≡ t → IsLocal 2 (wide_sample maxval) (c ∷ bs)
    by_test true e = before_local 1 (wide_sample maxval) (low_half maxval (c * 256)) c bs (λ l. ap (λ (t : Bool). if t then low_half maxval (c * 256) l else Err (length (c ∷ l), AboveMaxval)) e) (low_local maxval (c * 256) bs)
    by_test false e = above_local 2 (wide_sample maxval) c bs (λ l. ap (λ (t : Bool). if t then low_half maxval (c * 256) l else Err (length (c ∷ l), AboveMaxval)) e)

sample_local : (h : Header) (bs : List ℕ) → is_plain h.kind ≡ false → IsLocal (raw_size h.maxval 1) (sample_in h) bs
unfolding sample_in
sample_local h bs raw =
    subst (λ (t : Bool). IsLocal (raw_size h.maxval 1) (λ l. if t then plain_sample h l else (if nat_lt h.maxval 256 then narrow_sample h.maxval l else wide_sample h.maxval l)) bs) (sym raw)
    (by_test (nat_lt h.maxval 256))
  where
    by_test : (t : Bool) → IsLocal (if t then 1 else 2) (λ l. if t then narrow_sample h.maxval l else wide_sample h.maxval l) bs
    by_test true = narrow_local h.maxval bs
    by_test false = wide_local h.maxval bs

-- ---- many samples

size_zero : (maxval : ℕ) → raw_size maxval 0 ≡ 0
size_zero maxval = by_test (nat_lt maxval 256)
  where
    by_test : (t : Bool) → (if t then 0 else 0 * 2) ≡ 0
    by_test true = refl
    by_test false = refl

-- a list of samples that were read has a first one, and then the others
pub after_one : (x : ℕ) (r : Result (List ℕ) ImageStop) (xs : List ℕ) → samples_after (x ∷ []) r ≡ Ok xs → (ys : List ℕ) × (r ≡ Ok ys) × (xs ≡ x ∷ ys)
after_one x (Ok ys) xs e = let same : x ∷ ys ≡ xs = cc in (ys, refl, sym same)
after_one x (Err stop) xs e = absurd cc

pub after_stop : (x : ℕ) (r : Result (List ℕ) ImageStop) (stop : ImageStop) → samples_after (x ∷ []) r ≡ Err stop → r ≡ Err stop
after_stop x (Ok ys) stop e = absurd cc
after_stop x (Err s) stop e = e

pub after_both : (x : ℕ) (ys : List ℕ) (r : Result (List ℕ) ImageStop) → samples_after (x ∷ []) (samples_after ys r) ≡ samples_after (x ∷ ys) r
after_both x ys (Ok zs) = refl
after_both x ys (Err stop) = refl

module _ (h : Header) (raw : is_plain h.kind ≡ false) where
  abbrev then_others : ℕ → Result (ℕ × List ℕ) ImageStop → Result (List ℕ) ImageStop
  then_others n r = r >>= λ x. samples_after (x.0 ∷ []) (samples_in h n x.1)

  -- samples that take all of some bytes, and then those of the bytes after these
  pub samples_then : (a b c : ℕ) (front rest xs : List ℕ) → c ≡ a + b → length front ≡ raw_size h.maxval a → samples_in h a front ≡ Ok xs → samples_in h c (front ++ rest) ≡ samples_after xs (samples_in h b rest)
  samples_then zero b c [] rest xs is size read =
      let none : [] ≡ xs = cc in
      let same : c ≡ b = omega (arith, is) in
      ap (λ n. samples_in h n rest) same ∙ sym (after_none (samples_in h b rest)) ∙ ap (λ (l : List ℕ). samples_after l (samples_in h b rest)) none
  samples_then zero b c (f ∷ front) rest xs is size read = absurd (omega (arith, size, size_zero h.maxval))
  samples_then (suc a) b zero front rest xs is size read = absurd (omega (arith, is))
  samples_then (suc a) b (suc c) front rest xs is size read = by_result (sample_in h front) refl (samples_then a b c)
    where
      by_result : (r : Result (ℕ × List ℕ) ImageStop) → sample_in h front ≡ r
          → ((front rest xs : List ℕ) → c ≡ a + b → length front ≡ raw_size h.maxval a → samples_in h a front ≡ Ok xs → samples_in h c (front ++ rest) ≡ samples_after xs (samples_in h b rest))
          → samples_in h (suc c) (front ++ rest) ≡ samples_after xs (samples_in h b rest)
      by_result (Ok x) e others =
          let first : samples_after (x.0 ∷ []) (samples_in h a x.1) ≡ Ok xs = sym (ap (then_others a) e) ∙ read in
          let left = after_one x.0 (samples_in h a x.1) xs first in
          let fewer : suc a - 1 ≡ a = omega arith in
          let takes = sample_takes h front x.1 x.0 raw e in
          let sizes = size_more h.maxval (suc a) (omega arith) ∙ ap (λ n. raw_size h.maxval 1 + raw_size h.maxval n) fewer in
          let rests = others x.1 rest left.0 (omega (arith, is)) (omega (arith, takes, sizes, size)) left.1 in
          ap (then_others c) ((sample_local h front raw).goes_on rest x.0 x.1 e) ∙ ap (samples_after (x.0 ∷ [])) rests ∙ after_both x.0 left.0 (samples_in h b rest)
          ∙ ap (λ (l : List ℕ). samples_after l (samples_in h b rest)) (sym left.2)
      by_result (Err stop) e others =
          let no : samples_in h (suc a) front ≡ Err stop = ap (then_others a) e in
          absurd cc

  -- a stop in the bytes of so many samples, or at the end, is one of more samples
  pub samples_bad : (a c : ℕ) (front more : List ℕ) (left : ℕ) (flaw : ImageFlaw) → a ≤ c → (raw_size h.maxval a ≤ length front) ⊎ (more ≡ []) → samples_in h a front ≡ Err (left, flaw) → samples_in h c (front ++ more) ≡ Err (left + length more, flaw)
  samples_bad zero c front more left flaw fewer enough stops = absurd cc
  samples_bad (suc a) zero front more left flaw fewer enough stops = absurd (omega (arith, fewer))
  samples_bad (suc a) (suc c) front more left flaw fewer enough stops = by_result (sample_in h front) refl (samples_bad a c) enough
    where
      first_bad : (n : ℕ) (w : ImageFlaw) → sample_in h front ≡ Err (n, w) → (raw_size h.maxval (suc a) ≤ length front) ⊎ (more ≡ []) → sample_in h (front ++ more) ≡ Err (n + length more, w)
      first_bad n w e (inl all) =
          let sizes = size_more h.maxval (suc a) (omega arith) in
          (sample_local h front raw).stops more n w e (omega (arith, all, sizes))
      first_bad n w e (inr none) =
          let long : n ≡ n + length more = omega (arith, ap length none) in
          ap (sample_in h) (ap (λ (l : List ℕ). front ++ l) none ∙ append-nil front) ∙ e ∙ ap (λ k. Err (k, w)) long

      enough_left : (rest : List ℕ) → raw_size h.maxval 1 + length rest ≡ length front → (raw_size h.maxval (suc a) ≤ length front) ⊎ (more ≡ []) → (raw_size h.maxval a ≤ length rest) ⊎ (more ≡ [])
      enough_left rest takes (inl all) =
          let less : suc a - 1 ≡ a = omega arith in
          let sizes = size_more h.maxval (suc a) (omega arith) ∙ ap (λ n. raw_size h.maxval 1 + raw_size h.maxval n) less in
          inl (omega (arith, all, sizes, takes))
      enough_left rest takes (inr none) = inr none

      by_result : (r : Result (ℕ × List ℕ) ImageStop) → sample_in h front ≡ r
          → ((front more : List ℕ) (left : ℕ) (flaw : ImageFlaw) → a ≤ c → (raw_size h.maxval a ≤ length front) ⊎ (more ≡ []) → samples_in h a front ≡ Err (left, flaw) → samples_in h c (front ++ more) ≡ Err (left + length more, flaw))
          → (raw_size h.maxval (suc a) ≤ length front) ⊎ (more ≡ []) → samples_in h (suc c) (front ++ more) ≡ Err (left + length more, flaw)
      by_result (Ok x) e others enough =
          let first : samples_after (x.0 ∷ []) (samples_in h a x.1) ≡ Err (left, flaw) = sym (ap (then_others a) e) ∙ stops in
          let takes = sample_takes h front x.1 x.0 raw e in
          let rests = others x.1 more left flaw (omega (arith, fewer)) (enough_left x.1 takes enough) (after_stop x.0 (samples_in h a x.1) (left, flaw) first) in
          ap (then_others c) ((sample_local h front raw).goes_on more x.0 x.1 e) ∙ ap (samples_after (x.0 ∷ [])) rests
      by_result (Err stop) e others enough =
          let same : stop ≡ (left, flaw) = let one : samples_in h (suc a) front ≡ Err stop = ap (then_others a) e in cc in
          let first = first_bad left flaw (e ∙ ap (λ (s : ImageStop). Err s) same) enough in
          ap (then_others c) first

  -- no more bytes are left at a stop than there are
  pub samples_within : (a : ℕ) (front : List ℕ) (left : ℕ) (flaw : ImageFlaw) → samples_in h a front ≡ Err (left, flaw) → left ≤ length front
  samples_within zero front left flaw stops = absurd cc
  samples_within (suc a) front left flaw stops = by_result (sample_in h front) refl (samples_within a)
    where
      by_result : (r : Result (ℕ × List ℕ) ImageStop) → sample_in h front ≡ r → ((front : List ℕ) (left : ℕ) (flaw : ImageFlaw) → samples_in h a front ≡ Err (left, flaw) → left ≤ length front) → left ≤ length front
      by_result (Ok x) e others =
          let first : samples_after (x.0 ∷ []) (samples_in h a x.1) ≡ Err (left, flaw) = sym (ap (then_others a) e) ∙ stops in
          let takes = sample_takes h front x.1 x.0 raw e in
          let low = others x.1 left flaw (after_stop x.0 (samples_in h a x.1) (left, flaw) first) in
          omega (arith, takes, low)
      by_result (Err stop) e others =
          let same : stop ≡ (left, flaw) = let one : samples_in h (suc a) front ≡ Err stop = ap (then_others a) e in cc in
          (sample_local h front raw).within left flaw (e ∙ ap (λ (s : ImageStop). Err s) same)
