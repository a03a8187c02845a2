-- Samples after those read so far, and how many an image has.
use Rattle.std.proofs.Common.{◌≡◌, ℕ, zero, suc, ◌+◌, ◌*◌, ◌<◌, ◌≤◌, List, [], ◌∷◌, ◌++◌, ◌-◌, Result, Ok, Err, refl, sym, ap, ◌∙◌, append_assoc, length, length-append, arith, set, take, drop, subst, Option, Bool, true, false}
use Rattle.std.specs.List.{flat_map}
use Rattle.std.proofs.lemmas.List.{length-set, take_all, take_more_set}
use Rattle.std.proofs.lemmas.List.Concat.{flat_map-append}
use Rattle.std.proofs.lemmas.Bool.Decides.{nat_tests}
use Rattle.std.proofs.Math.Seq.{take-add}
use Rattle.nd_text.specs.declared.watched_streams.Watched.{Watched}
use Rattle.nd_text.specs.BufferedPrinting.{Puts}
use Rattle.nd_text.proofs.PrintingInTurn.{puts_then}
use Rattle.std.specs.Fmt.{decimal}
use Rattle.std.specs.Prelude.{All, codes, nat_le, nat_lt, if◌then◌else◌}
use Rattle.std.proofs.lemmas.List.Elements.{All-append}
use Rattle.nd_picture_text.specs.declared.image_formats.Header.{Header}
use Rattle.nd_picture_text.specs.ImageFormatsAndHeaders.{is_plain, is_bitmap}
use Rattle.nd_picture_text.specs.declared.errors.ImageFlaw.TheVariants.{AboveMaxval}
use Rattle.nd_picture_text.specs.ImageWriting.{maxval_text, bit_line, both_bytes, low_byte, number_line, sample_text}
use Rattle.nd_picture_text.specs.NumbersInImageText.{◌>>=◌}
use Rattle.nd_picture_text.specs.ImageReading.{ImageStop, plain_sample, narrow_sample, low_half, wide_sample, sample_in, samples_after, samples_in, raw_size}

pub after_none : (r : Result (List ℕ) ImageStop) → samples_after [] r ≡ r
after_none (Ok xs) = refl
after_none (Err n) = refl

pub after_more : (xs : List ℕ) (x : ℕ) (r : Result (List ℕ) ImageStop) → samples_after (xs ++ x ∷ []) r ≡ samples_after xs (samples_after (x ∷ []) r)
after_more xs x (Ok ys) = ap (λ (l : List ℕ). Ok l) (append_assoc xs (x ∷ []) ys)
after_more xs x (Err n) = refl

-- the pixels of sides that are read
pub few_samples : (height width : ℕ) → height ≤ 1000000000 → width ≤ 1000000000 → height * width ≤ 1000000000000000000
few_samples height width h w = grind arith

-- one sample more
pub samples_more : (h : Header) (missing : ℕ) (xs rest after : List ℕ) (sample : ℕ) (whole : Result (List ℕ) ImageStop) → 0 < missing → sample_in h rest ≡ Ok (sample, after) → samples_after xs (samples_in h missing rest) ≡ whole
    → samples_after (xs ++ sample ∷ []) (samples_in h (missing - 1) after) ≡ whole
samples_more h zero xs rest after sample whole some next is = absurd (omega (arith, some))
samples_more h (suc missing) xs rest after sample whole some next is =
    let less : suc missing - 1 ≡ missing = omega arith in
    let step : samples_in h (suc missing) rest ≡ samples_after (sample ∷ []) (samples_in h missing after) = ap (λ (r : Result (ℕ × List ℕ) ImageStop). r >>= λ x. samples_after (x.0 ∷ []) (samples_in h missing x.1)) next in
    after_more xs sample (samples_in h (suc missing - 1) after) ∙ ap (λ n. samples_after xs (samples_after (sample ∷ []) (samples_in h n after))) less ∙ ap (samples_after xs) (sym step) ∙ is

-- no sample more
pub samples_stop : (h : Header) (missing : ℕ) (rest : List ℕ) (stop : ImageStop) → 0 < missing → sample_in h rest ≡ Err stop → samples_in h missing rest ≡ Err stop
samples_stop h zero rest stop some next = absurd (omega (arith, some))
samples_stop h (suc missing) rest stop some next = ap (λ (r : Result (ℕ × List ℕ) ImageStop). r >>= λ x. samples_after (x.0 ∷ []) (samples_in h missing x.1)) next

-- one sample more, and then none
pub samples_pass : (h : Header) (missing : ℕ) (rest after : List ℕ) (sample : ℕ) (stop : ImageStop) → 0 < missing → sample_in h rest ≡ Ok (sample, after) → samples_in h (missing - 1) after ≡ Err stop → samples_in h missing rest ≡ Err stop
samples_pass h zero rest after sample stop some next stops = absurd (omega (arith, some))
samples_pass h (suc missing) rest after sample stop some next stops =
    let less : suc missing - 1 ≡ missing = omega arith in
    ap (λ (r : Result (ℕ × List ℕ) ImageStop). r >>= λ x. samples_after (x.0 ∷ []) (samples_in h missing x.1)) next ∙ ap (samples_after (sample ∷ [])) (sym (ap (λ n. samples_in h n after) less) ∙ stops)

-- the bytes that a sample takes
abbrev pub Takes : ℕ → ℕ → Result (ℕ × List ℕ) ImageStop → Type 0
Takes size long (Ok x) = size + length x.1 ≡ long
Takes size long (Err stop) = Unit {0}

narrow_takes : (maxval : ℕ) (bs : List ℕ) → Takes 1 (length bs) (narrow_sample maxval bs)
narrow_takes maxval [] = tt
narrow_takes maxval (b ∷ bs) = by_test (nat_le b maxval)
  where
    by_test : (t : Bool) → Takes 1 (length (b ∷ bs)) (if t then Ok (b, bs) else Err (length (b ∷ bs), AboveMaxval))
    by_test true = omega arith
    by_test false = tt

low_takes : (maxval high : ℕ) (bs : List ℕ) → Takes 2 (suc (length bs)) (low_half maxval high bs)
low_takes maxval high [] = tt
low_takes maxval high (b ∷ bs) = by_test (nat_le (high + b) maxval)
  where
    by_test : (t : Bool) → Takes 2 (suc (length (b ∷ bs))) (if t then Ok (high + b, bs) else Err (length (b ∷ bs), AboveMaxval))
    by_test true = omega arith
    by_test false = tt

wide_takes : (maxval : ℕ) (bs : List ℕ) → Takes 2 (length bs) (wide_sample maxval bs)
wide_takes maxval [] = tt
wide_takes maxval (a ∷ bs) = by_test (nat_le (a * 256) maxval)
  where
    by_test : (t : Bool) → Takes 2 (length (a ∷ bs)) (if t then low_half maxval (a * 256) bs else Err (length (a ∷ bs), AboveMaxval))
    by_test true = low_takes maxval (a * 256) bs
    by_test false = tt

sample_size : (h : Header) (bs : List ℕ) → is_plain h.kind ≡ false → Takes (raw_size h.maxval 1) (length bs) (sample_in h bs)
unfolding sample_in
sample_size h bs raw = subst (λ (t : Bool). Takes (raw_size h.maxval 1) (length bs) (if t then plain_sample h bs else (if nat_lt h.maxval 256 then narrow_sample h.maxval bs else wide_sample h.maxval bs))) (sym raw) (by_test (nat_lt h.maxval 256))
  where
    by_test : (t : Bool) → Takes (if t then 1 else 2) (length bs) (if t then narrow_sample h.maxval bs else wide_sample h.maxval bs)
    by_test true = narrow_takes h.maxval bs
    by_test false = wide_takes h.maxval bs

pub sample_takes : (h : Header) (rest after : List ℕ) (sample : ℕ) → is_plain h.kind ≡ false → sample_in h rest ≡ Ok (sample, after) → raw_size h.maxval 1 + length after ≡ length rest
sample_takes h rest after sample raw e = subst (Takes (raw_size h.maxval 1) (length rest)) e (sample_size h rest raw)

pub size_more : (maxval missing : ℕ) → 0 < missing → raw_size maxval missing ≡ raw_size maxval 1 + raw_size maxval (missing - 1)
size_more maxval missing some = by_test (nat_lt maxval 256)
  where
    by_test : (t : Bool) → (if t then missing else missing * 2) ≡ (if t then 1 else 2) + (if t then missing - 1 else (missing - 1) * 2)
    by_test true = omega (arith, some)
    by_test false = omega (arith, some)

pub one_more : (xs : List ℕ) (x missing count : ℕ) → 0 < missing → length xs + missing ≡ count → length (xs ++ x ∷ []) + (missing - 1) ≡ count
one_more xs x missing count some is = omega (arith, length-append xs (x ∷ []))

only_one : (limit x : ℕ) → x ≤ limit → All (λ s. s ≤ limit) (x ∷ [])
only_one limit x within zero d h = within
only_one limit x within (suc k) d h = absurd (omega (arith, h))

pub all_more : (limit : ℕ) (xs : List ℕ) (x : ℕ) → x ≤ limit → All (λ s. s ≤ limit) xs → All (λ s. s ≤ limit) (xs ++ x ∷ [])
all_more limit xs x within all = All-append (λ s. s ≤ limit) xs (x ∷ []) all (only_one limit x within)

-- one piece more is put
pub piece_put : {W : Type 0} {contents : W → Option (List ℕ)} {old mid new : Watched W} {held one left : List ℕ} (f : ℕ → List ℕ) (xs : List ℕ) (from count : ℕ) (piece : List ℕ)
    → Puts contents old held mid one (flat_map f (take from xs)) → piece ≡ flat_map f (take count (drop from xs)) → Puts contents mid one new left piece → Puts contents old held new left (flat_map f (take (from + count) xs))
piece_put {W} {contents} {old} {mid} {new} {held} {one} {left} f xs from count piece p is q =
    let whole : flat_map f (take (from + count) xs) ≡ flat_map f (take from xs) ++ piece = ap (flat_map f) (take-add from count xs) ∙ flat_map-append f (take from xs) (take count (drop from xs)) ∙ ap (λ l. flat_map f (take from xs) ++ l) (sym is) in
    subst (Puts contents old held new left) (sym whole) (puts_then p q)

-- two bytes more of a piece
pub pair_set : (xs : List ℕ) (i a b : ℕ) → i * 2 + 1 < length xs → take ((i + 1) * 2) (set (set xs (i * 2) a) (i * 2 + 1) b) ≡ take (i * 2) xs ++ a ∷ b ∷ []
pair_set xs i a b h =
    let next : (i + 1) * 2 ≡ i * 2 + 1 + 1 = omega arith in
    let first : i * 2 < length xs = omega (arith, h) in
    let second : i * 2 + 1 < length (set xs (i * 2) a) = omega (arith, h, length-set xs (i * 2) a) in
    ap (λ k. take k (set (set xs (i * 2) a) (i * 2 + 1) b)) next
    ∙ take_more_set (set xs (i * 2) a) (i * 2 + 1) b second
    ∙ ap (λ t. t ++ b ∷ []) (take_more_set xs (i * 2) a first)
    ∙ append_assoc (take (i * 2) xs) (a ∷ []) (b ∷ [])

-- all pieces are put
pub all_put : {W : Type 0} {contents : W → Option (List ℕ)} {old new : Watched W} {held left : List ℕ} (f : ℕ → List ℕ) (xs : List ℕ) (done : ℕ) → length xs ≤ done → Puts contents old held new left (flat_map f (take done xs)) → Puts contents old held new left (flat_map f xs)
all_put {W} {contents} {old} {new} {held} {left} f xs done all puts = subst (λ zs. Puts contents old held new left (flat_map f zs)) (take_all done xs all) puts

-- the line of the maxval
pub grey_maxval : (h : Header) → is_bitmap h.kind ≡ false → maxval_text h ≡ decimal h.maxval ++ codes "\n"
grey_maxval h e = rw e refl

-- the texts of samples, by their header
module _ (h : Header) (xs : List ℕ) where
  abbrev texts_if : Bool → Bool → Bool → List ℕ
  texts_if t u v = flat_map (λ s. if t then (if u then bit_line s else number_line s) else (if v then low_byte s else both_bytes s)) xs

  pub bit_texts : is_plain h.kind ≡ true → is_bitmap h.kind ≡ true → flat_map (sample_text h) xs ≡ flat_map bit_line xs
  bit_texts plain bits = ap (λ (t : Bool). texts_if t (is_bitmap h.kind) (nat_lt h.maxval 256)) plain ∙ ap (λ (t : Bool). texts_if true t (nat_lt h.maxval 256)) bits

  pub plain_texts : is_plain h.kind ≡ true → is_bitmap h.kind ≡ false → flat_map (sample_text h) xs ≡ flat_map number_line xs
  plain_texts plain grey = ap (λ (t : Bool). texts_if t (is_bitmap h.kind) (nat_lt h.maxval 256)) plain ∙ ap (λ (t : Bool). texts_if true t (nat_lt h.maxval 256)) grey

  pub narrow_texts : is_plain h.kind ≡ false → h.maxval < 256 → flat_map (sample_text h) xs ≡ flat_map low_byte xs
  narrow_texts raw below =
      let test : nat_lt h.maxval 256 ≡ true = grind (arith, nat_tests, below) in
      ap (λ (t : Bool). texts_if t (is_bitmap h.kind) (nat_lt h.maxval 256)) raw ∙ ap (λ (t : Bool). texts_if false (is_bitmap h.kind) t) test

  pub wide_texts : is_plain h.kind ≡ false → 256 ≤ h.maxval → flat_map (sample_text h) xs ≡ flat_map both_bytes xs
  wide_texts raw above =
      let test : nat_lt h.maxval 256 ≡ false = grind (arith, nat_tests, above) in
      ap (λ (t : Bool). texts_if t (is_bitmap h.kind) (nat_lt h.maxval 256)) raw ∙ ap (λ (t : Bool). texts_if false (is_bitmap h.kind) t) test
