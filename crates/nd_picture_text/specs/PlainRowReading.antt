-- Rows of an image whose samples are written in digits, read from the front of the bytes that are at hand.
use Rattle.std.specs.Prelude.{◌≡◌, ◌⊎◌, ◌<◌, ◌≤◌, ℕ, ◌*◌, Bool, true, All, List, ◌++◌, length, Result, Ok, Err}
use Rattle.nd_picture_text.specs.declared.image_formats.Header.{Header}
use Rattle.nd_picture_text.specs.declared.errors.ImageError.{ImageError}
use Rattle.nd_picture_text.specs.declared.errors.ImageError.TheVariants.{BadByte, Memory}
use Rattle.nd_picture_text.specs.declared.plain_rows_from_stream.WholeRows.{WholeRows}
use Rattle.nd_picture_text.specs.ImageReading.{samples_in, samples_and_rest}

-- Says that bytes that follow those at hand change nothing before `left` of them: none follows, since the input has ended,
-- or one at least is left.
abbrev pub IsSettled : Bool → ℕ → Type 0
IsSettled ended left = (ended ≡ true) ⊎ (0 < left)

-- Says that so many samples, each at most the maxval, were read from the bytes and put after those of `old`, and what
-- follows them; or where reading stopped. Of lacking memory it says nothing.
abbrev pub PutsSamples : Header → ℕ → List ℕ → List ℕ → List ℕ → Result (List ℕ) ImageError → Type 0
PutsSamples h count bytes old new (Ok rest) =
    (xs : List ℕ) × (new ≡ old ++ xs) × (length xs ≡ count) × All (λ s. s ≤ h.maxval) xs × (samples_and_rest h count bytes ≡ Ok (xs, rest))
PutsSamples h count bytes old new (Err (BadByte left flaw)) = ((xs : List ℕ) × (new ≡ old ++ xs)) × (samples_in h count bytes ≡ Err (left, flaw))
PutsSamples h count bytes old new (Err Memory) = Unit {0}

-- Says that so many samples were read from the bytes and put after those of `old`, and what follows them, and that this stays
-- so whatever follows the bytes; or where reading stopped, and that nothing was put. Of lacking memory it says nothing.
abbrev pub PutsSettled : Header → ℕ → List ℕ → Bool → List ℕ → List ℕ → Result (List ℕ) ImageError → Type 0
PutsSettled h count bytes ended old new (Ok rest) = PutsSamples h count bytes old new (Ok rest) × IsSettled ended (length rest)
PutsSettled h count bytes ended old new (Err (BadByte left flaw)) = (new ≡ old) × (IsSettled ended left → samples_in h count bytes ≡ Err (left, flaw))
PutsSettled h count bytes ended old new (Err Memory) = Unit {0}

-- Says that these rows of so many samples each, one at least and at most `missing`, stand at the front of the bytes, and
-- stay so whatever follows these.
abbrev pub AreAtFront : Header → ℕ → ℕ → List ℕ → Bool → WholeRows → Type 0
AreAtFront h row missing bytes ended found =
    (0 < found.count) × (found.count ≤ missing) × (length found.samples.items ≡ found.count * row) × All (λ s. s ≤ h.maxval) found.samples.items
    × (rest : List ℕ) × (found.left ≡ length rest) × (samples_and_rest h (found.count * row) bytes ≡ Ok (found.samples.items, rest)) × IsSettled ended found.left

-- Says that the error tells where the first row of so many samples can't be read, unless bytes that follow can change it.
-- Of lacking memory it says nothing.
abbrev pub TellsFirstRow : Header → ℕ → List ℕ → Bool → ImageError → Type 0
TellsFirstRow h row bytes ended (BadByte left flaw) = IsSettled ended left → samples_in h row bytes ≡ Err (left, flaw)
TellsFirstRow h row bytes ended Memory = Unit {0}
