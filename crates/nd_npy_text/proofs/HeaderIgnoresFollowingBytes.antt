-- Bytes that aren't cut off inside their head, and what follows them.
use Rattle.std.proofs.Common.{◌≡◌, ◌∙◌, ◌≤◌, ◌+◌, ℕ, Bool, true, false, List, [], ◌∷◌, ◌++◌, length, refl, ap, arith}
use Rattle.std.specs.Prelude.{Option, None, Some, Result, Ok, Err, ◌==◌, nat_le, nat_lt, ◌||◌}
use Rattle.std.proofs.lemmas.List.{length-append, take-append-le}
use Rattle.std.proofs.lemmas.Bool.{le-leb, leb-true, ltb-false}
use Rattle.nd_npy_text.specs.declared.errors.HeaderFlaw.{HeaderFlaw}
use Rattle.nd_npy_text.specs.declared.errors.HeaderFlaw.TheVariants as flaws
use Rattle.nd_npy_text.specs.declared.errors.HeaderError.{HeaderError}
use Rattle.nd_npy_text.specs.declared.header.Version.{Version}
use Rattle.nd_npy_text.specs.HeaderDescription.{is_wide, text_start}
use Rattle.nd_npy_text.specs.HeaderTokens.{◌>>=◌, after_text}
use Rattle.nd_npy_text.specs.HeaderReading.{magic, or_no_magic, or_unknown, version_numbered, version_in, size_in, first_bytes, opening_in, npy_header_in, is_too_short, is_cut_off, text_in}

-- the value, changed
abbrev changed : {X : Type 0} → (X → X) → Result X HeaderError → Result X HeaderError
changed f (Ok x) = Ok (f x)
changed f (Err error) = Err error

-- a step that isn't too short, and the steps after it
first_not_short : {X Y : Type 0} (r : Result X HeaderError) (k : X → Result Y HeaderError) → is_too_short (r >>= k) ≡ false → is_too_short r ≡ false
first_not_short (Ok x) k is = refl
first_not_short (Err error) k is = is

then_same : {X Y : Type 0} (r : Result X HeaderError) (f : X → X) (k : X → Result Y HeaderError) → ((x : X) → is_too_short (k x) ≡ false → k (f x) ≡ k x) → is_too_short (r >>= k) ≡ false → (changed f r >>= k) ≡ (r >>= k)
then_same (Ok x) f k same is = same x is
then_same (Err error) f k same is = refl

module _ (more : List ℕ) where
  abbrev longer : List ℕ → List ℕ
  longer rest = rest ++ more

  abbrev longer_behind : {X : Type 0} → X × List ℕ → X × List ℕ
  longer_behind x = (x.0, x.1 ++ more)

  -- the magic bytes
  magic_longer : (flaw : HeaderFlaw) (cs bs : List ℕ) → length cs ≤ length bs → or_no_magic (after_text flaw cs (bs ++ more)) ≡ changed longer (or_no_magic (after_text flaw cs bs))
  magic_longer flaw [] bs enough = refl
  magic_longer flaw (c ∷ cs) [] enough = absurd (omega (arith, enough))
  magic_longer flaw (c ∷ cs) (b ∷ bs) enough = by_test (magic_longer flaw cs bs (omega (arith, enough))) (b == c) refl
    where
      by_test : or_no_magic (after_text flaw cs (bs ++ more)) ≡ changed longer (or_no_magic (after_text flaw cs bs)) → (t : Bool) → (b == c) ≡ t → or_no_magic (after_text flaw (c ∷ cs) ((b ∷ bs) ++ more)) ≡ changed longer (or_no_magic (after_text flaw (c ∷ cs) (b ∷ bs)))
      by_test others true is = rw is others
      by_test others false is = rw is refl

  -- the version
  known_longer : (major minor : ℕ) (v : Option Version) (rest : List ℕ) → or_unknown major minor v (rest ++ more) ≡ changed longer_behind (or_unknown major minor v rest)
  known_longer major minor None rest = refl
  known_longer major minor (Some version) rest = refl

  version_longer : (bs : List ℕ) → is_too_short (version_in bs) ≡ false → version_in (bs ++ more) ≡ changed longer_behind (version_in bs)
  version_longer [] is = absurd cc
  version_longer (major ∷ []) is = absurd cc
  version_longer (major ∷ minor ∷ rest) is = known_longer major minor (version_numbered major minor) rest

  -- the length of the dict
  size_longer : (wide : Bool) (bs : List ℕ) → is_too_short (size_in wide bs) ≡ false → size_in wide (bs ++ more) ≡ changed longer_behind (size_in wide bs)
  size_longer false [] is = absurd cc
  size_longer false (a ∷ []) is = absurd cc
  size_longer false (a ∷ b ∷ bs) is = refl
  size_longer true [] is = absurd cc
  size_longer true (a ∷ []) is = absurd cc
  size_longer true (a ∷ b ∷ []) is = absurd cc
  size_longer true (a ∷ b ∷ c ∷ []) is = absurd cc
  size_longer true (a ∷ b ∷ c ∷ d ∷ bs) is = refl

  -- the dict
  first_longer : (size : ℕ) (bs : List ℕ) → is_too_short (first_bytes size bs) ≡ false → first_bytes size (bs ++ more) ≡ first_bytes size bs
  first_longer size bs is = by_test (nat_le size (length bs)) refl
    where
      by_test : (t : Bool) → nat_le size (length bs) ≡ t → first_bytes size (bs ++ more) ≡ first_bytes size bs
      by_test true fits =
          let within : size ≤ length bs = leb-true _ _ fits in
          let still : nat_le size (length (bs ++ more)) ≡ true = le-leb _ _ (omega (arith, within, length-append bs more)) in
          rw (fits, still) (ap Ok (take-append-le size bs more within))
      by_test false fits = absurd (let no : true ≡ false = rw fits at is in cc)

  -- ---- one after another
  abbrev text_of : Version → ℕ × List ℕ → Result (ℕ × List ℕ) HeaderError
  text_of version s = first_bytes s.0 s.1 >>= λ text. Ok (text_start version + s.0, text)

  abbrev sized_of : Version × List ℕ → Result (ℕ × List ℕ) HeaderError
  sized_of v = size_in (is_wide v.0) v.1 >>= text_of v.0

  abbrev version_of : List ℕ → Result (ℕ × List ℕ) HeaderError
  version_of a = version_in a >>= sized_of

  text_same : (version : Version) (s : ℕ × List ℕ) → is_too_short (text_of version s) ≡ false → text_of version (longer_behind s) ≡ text_of version s
  text_same version s is = ap (λ r. r >>= λ text. Ok (text_start version + s.0, text)) (first_longer s.0 s.1 (first_not_short (first_bytes s.0 s.1) (λ text. Ok (text_start version + s.0, text)) is))

  sized_same : (v : Version × List ℕ) → is_too_short (sized_of v) ≡ false → sized_of (longer_behind v) ≡ sized_of v
  sized_same v is =
      let size = size_in (is_wide v.0) v.1 in
      ap (λ r. r >>= text_of v.0) (size_longer (is_wide v.0) v.1 (first_not_short size (text_of v.0) is)) ∙ then_same size longer_behind (text_of v.0) (text_same v.0) is

  version_same : (a : List ℕ) → is_too_short (version_of a) ≡ false → version_of (longer a) ≡ version_of a
  version_same a is =
      ap (λ r. r >>= sized_of) (version_longer a (first_not_short (version_in a) sized_of is)) ∙ then_same (version_in a) longer_behind sized_of sized_same is

  opening_same : (bytes : List ℕ) → 6 ≤ length bytes → is_too_short (opening_in bytes) ≡ false → opening_in (bytes ++ more) ≡ opening_in bytes
  unfolding opening_in text_in
  opening_same bytes enough is =
      let start = or_no_magic (after_text flaws.Beginning magic bytes) in
      ap (λ r. r >>= version_of) (magic_longer flaws.Beginning magic bytes enough) ∙ then_same start longer version_of version_same is

both_false : (a b : Bool) → (a || b) ≡ false → (a ≡ false) × (b ≡ false)
both_false true b is = absurd cc
both_false false b is = (refl, is)

pub heads_stay : (bytes more : List ℕ) → is_cut_off bytes ≡ false → npy_header_in (bytes ++ more) ≡ npy_header_in bytes
unfolding npy_header_in
heads_stay bytes more is =
    let tests = both_false (nat_lt (length bytes) 6) (is_too_short (opening_in bytes)) is in
    let enough : 6 ≤ length bytes = ltb-false _ _ tests.0 in
    rw (opening_same more bytes enough tests.1) refl
