-- The elements begin at a byte of the file, or at its end, wherever an opening is read.
use Rattle.std.proofs.Common.{◌≡◌, ◌≤◌, ◌+◌, ◌*◌, ℕ, Bool, true, false, cond, List, [], ◌∷◌, length, take, refl, ap, arith}
use Rattle.std.specs.Prelude.{Result, Ok, Err, Option, None, Some, nat_le, ◌==◌}
use Rattle.std.proofs.lemmas.Bool.{leb-true}
use Rattle.nd_npy_text.specs.declared.errors.HeaderError.{HeaderError}
use Rattle.nd_npy_text.specs.declared.errors.HeaderError.TheVariants.{TooShort}
use Rattle.nd_npy_text.specs.declared.errors.HeaderFlaw.{HeaderFlaw}
use Rattle.nd_npy_text.specs.declared.errors.HeaderFlaw.TheVariants.{Beginning}
use Rattle.nd_npy_text.specs.declared.header.Version.{Version}
use Rattle.nd_npy_text.specs.HeaderDescription.{is_wide, size_width, text_start}
use Rattle.nd_npy_text.specs.HeaderTokens.{◌>>=◌, after_text}
use Rattle.nd_npy_text.specs.HeaderReading.{first_bytes, magic, opening_in, or_no_magic, or_unknown, size_in, version_in, version_numbered, text_in}

-- what is read, if anything, ends at byte `n` or before it
abbrev Ends : ℕ → Result (ℕ × List ℕ) HeaderError → Type 0
Ends n r = (x : ℕ × List ℕ) → r ≡ Ok x → x.0 ≤ n

bind_ends : {A : Type 0} (n : ℕ) (r : Result A HeaderError) (f : A → Result (ℕ × List ℕ) HeaderError) → ((a : A) → r ≡ Ok a → Ends n (f a)) → Ends n (r >>= f)
bind_ends n (Ok a) f all = all a refl
bind_ends n (Err e) f all = λ x is. absurd cc

-- how much shorter each part leaves the bytes
magic_shorter : (flaw : HeaderFlaw) (cs bs rest : List ℕ) → or_no_magic (after_text flaw cs bs) ≡ Ok rest → length rest + length cs ≡ length bs
magic_shorter flaw [] bs rest is =
    let same : bs ≡ rest = cc in
    rw same (omega arith)
magic_shorter flaw (c ∷ cs) [] rest is = absurd cc
magic_shorter flaw (c ∷ cs) (b ∷ bs) rest is = by_test (λ others. magic_shorter flaw cs bs rest others) (b == c) is
  where
    by_test : (or_no_magic (after_text flaw cs bs) ≡ Ok rest → length rest + length cs ≡ length bs) → (t : Bool) → or_no_magic (cond t (after_text flaw cs bs) (Err (length (b ∷ bs), flaw))) ≡ Ok rest → length rest + length (c ∷ cs) ≡ length (b ∷ bs)
    by_test all true others = omega (arith, all others)
    by_test all false others = absurd cc

known_rest : (major minor : ℕ) (found : Option Version) (rest : List ℕ) (v : Version × List ℕ) → or_unknown major minor found rest ≡ Ok v → v.1 ≡ rest
known_rest major minor None rest v is = absurd cc
known_rest major minor (Some version) rest v is =
    let same : v ≡ (version, rest) = cc in
    ap (λ x. x.1) same

version_shorter : (bs : List ℕ) (v : Version × List ℕ) → version_in bs ≡ Ok v → length v.1 + 2 ≡ length bs
version_shorter [] v is = absurd cc
version_shorter (major ∷ []) v is = absurd cc
version_shorter (major ∷ minor ∷ rest) v is = omega (arith, ap length (known_rest major minor (version_numbered major minor) rest v is))

size_shorter : (wide : Bool) (bs : List ℕ) (s : ℕ × List ℕ) → size_in wide bs ≡ Ok s → length s.1 + size_width wide ≡ length bs
size_shorter false [] s is = absurd cc
size_shorter false (a ∷ []) s is = absurd cc
size_shorter false (a ∷ b ∷ bs) s is =
    let same : s ≡ (a + b * 256, bs) = cc in
    omega (arith, ap (λ x. length x.1) same)
size_shorter true [] s is = absurd cc
size_shorter true (a ∷ []) s is = absurd cc
size_shorter true (a ∷ b ∷ []) s is = absurd cc
size_shorter true (a ∷ b ∷ c ∷ []) s is = absurd cc
size_shorter true (a ∷ b ∷ c ∷ d ∷ bs) s is =
    let same : s ≡ (a + b * 256 + c * 65536 + d * 16777216, bs) = cc in
    omega (arith, ap (λ x. length x.1) same)

text_within : (size : ℕ) (bs text : List ℕ) → first_bytes size bs ≡ Ok text → size ≤ length bs
text_within size bs text is = by_test (nat_le size (length bs)) refl is
  where
    by_test : (t : Bool) → nat_le size (length bs) ≡ t → cond t (Ok (take size bs)) (Err TooShort) ≡ Ok text → size ≤ length bs
    by_test true fits read = leb-true _ _ fits
    by_test false fits read = absurd cc

pub opening_inside : (bytes : List ℕ) → Ends (length bytes) (opening_in bytes)
unfolding opening_in text_in
opening_inside bytes =
    let n = length bytes in
    bind_ends n (or_no_magic (after_text Beginning magic bytes)) _ (λ a first.
    bind_ends n (version_in a) _ (λ v second.
    bind_ends n (size_in (is_wide v.0) v.1) _ (λ s third.
    bind_ends n (first_bytes s.0 s.1) _ (λ text fourth x is.
    let same : x ≡ (text_start v.0 + s.0, text) = cc in
    omega (arith, ap (λ y. y.0) same, magic_shorter Beginning magic bytes a first, version_shorter a v second, size_shorter (is_wide v.0) v.1 s third, text_within s.0 s.1 text fourth)))))
