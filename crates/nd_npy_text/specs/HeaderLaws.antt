-- Laws of heads.
use Rattle.std.specs.Prelude.{◌≡◌, ◌+◌, ◌/◌, ◌%◌, ℕ, Bool, true, false, IsTrue, is_some, List, [], ◌∷◌, ◌++◌, length, Ok}
use Rattle.nd_npy_text.specs.declared.header.Version.{Version}
use Rattle.nd_npy_text.specs.declared.header.Version.TheVariants.{One, Two, Three}
use Rattle.nd_npy_text.specs.HeaderDescription.{Description, IsWholeHeader, is_wide, text_start}
use Rattle.nd_npy_text.specs.HeaderReading.{Parts, entries_in, npy_header_in, magic, is_cut_off}
use Rattle.nd_npy_text.specs.HeaderWriting.{npy_header_text, padded, roomy_text}

-- A head that is written for a whole description (`IsWholeHeader`) is read as that description, whatever follows the
-- head, and the elements begin where the head ends.
abbrev pub HeadersReadBack : Type 0
HeadersReadBack = (d : Description) (rest : List ℕ) → IsWholeHeader d → npy_header_in (npy_header_text d ++ rest) ≡ Ok (d, length (npy_header_text d))

abbrev pub version_number : Version → ℕ
version_number One = 1
version_number Two = 2
version_number Three = 3

-- Returns the length of a dict in four bytes if the flag is `true`, and in two otherwise, the least significant byte
-- first.
abbrev pub size_text : Bool → ℕ → List ℕ
size_text false n = n % 256 ∷ n / 256 ∷ []
size_text true n = n % 256 ∷ n / 256 % 256 ∷ n / 256 / 256 % 256 ∷ n / 256 / 256 / 256 ∷ []

-- Returns a head of a version: the magic bytes, the version, the length of the dict, and the dict.
abbrev pub in_version : Version → List ℕ → List ℕ
in_version version text = magic ++ (version_number version ∷ 0 ∷ (size_text (is_wide version) (length text) ++ text))

-- The dict that is written for a whole description (`IsWholeHeader`) is read as that description in a head of each
-- version, whatever follows the head, and the elements begin where the head ends.
abbrev pub VersionsAgree : Type 0
VersionsAgree = (version : Version) (d : Description) (rest : List ℕ) → IsWholeHeader d → npy_header_in (in_version version (padded (roomy_text d)) ++ rest) ≡ Ok (d, text_start version + length (padded (roomy_text d)))

-- The length of a written head is a multiple of 64 bytes, so the elements begin at such a multiple.
abbrev pub HeadersAreAligned : Type 0
HeadersAreAligned = (d : Description) → length (npy_header_text d) % 64 ≡ 0

-- Where three entries of a dict are read, each of the three keys has a value.
abbrev pub EntriesAreWhole : Type 0
EntriesAreWhole = (bytes rest : List ℕ) (p : Parts) → entries_in bytes ≡ Ok (p, rest) → IsTrue (is_some p.item_type) × IsTrue (is_some p.fortran_order) × IsTrue (is_some p.shape_found)

-- Where the bytes aren't cut off inside the head (`is_cut_off`), what follows them changes nothing of what the head says.
abbrev pub HeadsNeedNoMore : Type 0
HeadsNeedNoMore = (bytes more : List ℕ) → is_cut_off bytes ≡ false → npy_header_in (bytes ++ more) ≡ npy_header_in bytes
