-- Where memory can run out: after a head that means something.
use Rattle.std.proofs.Common.{◌≡◌, ◌∙◌, ◌<◌, ℕ, Bool, true, false, cond, List, [], ◌∷◌, ap, arith}
use Rattle.std.specs.Prelude.{Result, Ok, Err, Option, None, Some, IsTrue, nat_le, length, take}
use Rattle.nd_npy_text.specs.declared.errors.HeaderError.{HeaderError}
use Rattle.nd_npy_text.specs.declared.errors.HeaderError.TheVariants.{Memory, TooShort, TooLarge}
use Rattle.nd_npy_text.specs.declared.errors.HeaderFlaw.TheVariants.{Beginning}
use Rattle.nd_npy_text.specs.declared.header.Version.{Version}
use Rattle.nd_npy_text.specs.ItemTypes.{kind_size}
use Rattle.nd_npy_text.specs.HeaderDescription.{Description, fits_memory, is_wide}
use Rattle.nd_npy_text.specs.HeaderTokens.{HeaderStop, ◌>>=◌, after_text}
use Rattle.nd_npy_text.specs.HeaderReading.{with_byte_counted, dict_in, first_bytes, npy_header_in, magic, opening_in, or_no_magic, or_unknown, size_in, unless_too_large, version_in, version_numbered, text_in, HasLengths}

-- it isn't told by what this gives
abbrev NotTold : {A : Type 0} → Result A HeaderError → Type 0
NotTold r = r ≡ Err Memory → ⊥

-- an error that is told is the lack of memory
pub told_memory : {A : Type 0} (e : HeaderError) → ◌≡◌ {A = Result A HeaderError} (Err e) (Err Memory) → e ≡ Memory
told_memory e is = cc

bind_not : {A B : Type 0} (r : Result A HeaderError) (f : A → Result B HeaderError) → NotTold r → ((a : A) → NotTold (f a)) → NotTold (r >>= f)
bind_not (Ok a) f first then is = then a is
bind_not (Err e) f first then is = first (ap Err (told_memory e is))

magic_not : (r : Result (List ℕ) HeaderStop) → NotTold (or_no_magic r)
magic_not (Ok rest) is = absurd cc
magic_not (Err stop) is = absurd cc

known_not : (major minor : ℕ) (version : Option Version) (rest : List ℕ) → NotTold (or_unknown major minor version rest)
known_not major minor None rest is = absurd cc
known_not major minor (Some version) rest is = absurd cc

version_not : (bytes : List ℕ) → NotTold (version_in bytes)
version_not [] is = absurd cc
version_not (major ∷ []) is = absurd cc
version_not (major ∷ minor ∷ rest) is = known_not major minor (version_numbered major minor) rest is

size_not : (wide : Bool) (bytes : List ℕ) → NotTold (size_in wide bytes)
size_not false [] is = absurd cc
size_not false (a ∷ []) is = absurd cc
size_not false (a ∷ b ∷ bs) is = absurd cc
size_not true [] is = absurd cc
size_not true (a ∷ []) is = absurd cc
size_not true (a ∷ b ∷ []) is = absurd cc
size_not true (a ∷ b ∷ c ∷ []) is = absurd cc
size_not true (a ∷ b ∷ c ∷ d ∷ bs) is = absurd cc

front_not : (size : ℕ) (bytes : List ℕ) → NotTold (first_bytes size bytes)
front_not size bytes is = by_test (nat_le size (length bytes)) is
  where
    by_test : (t : Bool) → cond t (Ok (take size bytes)) (Err TooShort) ≡ Err Memory → ⊥
    by_test true is = absurd cc
    by_test false is = absurd cc

pub opening_not : (bytes : List ℕ) → opening_in bytes ≡ Err Memory → ⊥
unfolding opening_in text_in
opening_not bytes =
    bind_not (or_no_magic (after_text Beginning magic bytes)) _ (magic_not (after_text Beginning magic bytes))
    (λ a. bind_not (version_in a) _ (version_not a)
    (λ v. bind_not (size_in (is_wide v.0) v.1) _ (size_not (is_wide v.0) v.1)
    (λ s. bind_not (first_bytes s.0 s.1) _ (front_not s.0 s.1)
    (λ text is. absurd cc))))

-- a head has bytes
pub head_bytes : (bytes : List ℕ) (x : Description × ℕ) → npy_header_in bytes ≡ Ok x → 0 < length bytes
unfolding npy_header_in opening_in
head_bytes [] x is = absurd cc
head_bytes (b ∷ bytes) x is = omega arith

pub lengths_bytes : (bytes : List ℕ) → HasLengths bytes → 0 < length bytes
lengths_bytes bytes has = head_bytes bytes (has.0, has.1) has.2

-- a dict whose elements fit in memory is a head
pub head_is : (bytes text : List ℕ) (end : ℕ) (d : Description) → opening_in bytes ≡ Ok (end, text) → dict_in text ≡ Ok d → IsTrue (fits_memory (kind_size d.item_type.kind) d.array_shape) → npy_header_in bytes ≡ Ok (d, end)
unfolding npy_header_in
head_is bytes text end d opening dict fits =
    let whole : unless_too_large d ≡ Ok d = ap (λ t. cond t (Ok d) (Err TooLarge)) fits in
    ap (λ r. r >>= λ o. with_byte_counted o.0 (dict_in o.1) >>= λ d. unless_too_large d >>= λ whole. Ok (whole, o.0)) opening
    ∙ ap (λ r. with_byte_counted end r >>= λ d. unless_too_large d >>= λ whole. Ok (whole, end)) dict
    ∙ ap (λ r. r >>= λ whole. Ok (whole, end)) whole
