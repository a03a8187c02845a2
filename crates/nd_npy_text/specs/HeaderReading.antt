-- What the bytes of a file mean as a head, or the first cause why they mean none.
use Rattle.std.specs.Prelude.{◌≡◌, ℕ, zero, suc, ◌+◌, ◌-◌, ◌*◌, Bool, true, false, not, ◌&&◌, ◌||◌, ◌==◌, nat_le, nat_lt, is_some, ◌<◌, List, [], ◌∷◌, ◌++◌, length, take, Option, None, Some, Result, Ok, Err, codes, if◌then◌else◌}
use Rattle.nd_npy_text.specs.declared.item_type.ItemType.{ItemType}
use Rattle.nd_npy_text.specs.declared.header.Version.{Version}
use Rattle.nd_npy_text.specs.declared.header.Version.TheVariants.{One, Two, Three}
use Rattle.nd_npy_text.specs.declared.errors.HeaderError.{HeaderError}
use Rattle.nd_npy_text.specs.declared.errors.HeaderError.TheVariants.{NoMagic, UnknownVersion, TooShort, BadByte, TooLarge, Memory}
use Rattle.nd_npy_text.specs.declared.errors.HeaderFlaw.TheVariants as flaws
use Rattle.nd_npy_text.specs.declared.dict.Key.{Key}
use Rattle.nd_npy_text.specs.declared.dict.Key.TheVariants.{Descr, FortranOrder, Shape}
use Rattle.nd_npy_text.specs.ItemTypes.{kind_size}
use Rattle.nd_npy_text.specs.HeaderDescription.{Description, described, fits_memory, is_wide, text_start}
use Rattle.nd_npy_text.specs.HeaderTokens.{HeaderStop, ◌>>=◌, after_spaces, after_text, after_mark, quote_in, npy_number_here, truth_here}
use Rattle.nd_npy_text.specs.ItemTypeReading.{item_type_here}

-- ---- the shape

-- Says whether the bytes begin with ).
abbrev pub begins_end : List ℕ → Bool
begins_end [] = false
begins_end (b ∷ bs) = b == 41

-- Says whether ), the end of the shape, stands at the front, where spaces may stand before it.
abbrev pub closes : List ℕ → Bool
closes bytes = begins_end (after_spaces bytes)

-- Returns what follows the comma after a length. After a length that isn't the first, the ) of the shape may stand in
-- place of the comma; it is then still part of what follows.
abbrev pub after_length : Bool → List ℕ → Result (List ℕ) HeaderStop
after_length first [] = Err (0, flaws.AfterLength)
after_length first (b ∷ bs) = if b == 44 then Ok bs else (if b == 41 && not first then Ok (b ∷ bs) else Err (length (b ∷ bs), flaws.AfterLength))

-- Returns the length at the front, and what follows its comma; `first` says whether it is the first of the shape.
unfoldable pub length_in : Bool → List ℕ → Result (ℕ × List ℕ) HeaderStop
length_in first bytes = npy_number_here flaws.Length (after_spaces bytes) >>= λ x. after_length first (after_spaces x.1) >>= λ rest. Ok (x.0, rest)

-- Returns the lengths `xs` and after them those that were read next, unless reading these failed.
abbrev pub lengths_appended : List ℕ → Result (List ℕ × List ℕ) HeaderStop → Result (List ℕ × List ℕ) HeaderStop
lengths_appended xs (Ok x) = Ok (xs ++ x.0, x.1)
lengths_appended xs (Err stop) = Err stop

-- Returns no lengths, and what follows the end of the shape, unless reading this end failed.
abbrev pub no_length : Result (List ℕ) HeaderStop → Result (List ℕ × List ℕ) HeaderStop
no_length (Ok rest) = Ok ([], rest)
no_length (Err stop) = Err stop

-- Returns the error of a shape that doesn't end after 32 lengths: `TooManyAxes` if another length stands at the front,
-- or else the error of reading a length.
unfoldable pub one_too_many : List ℕ → Result (List ℕ × List ℕ) HeaderStop
one_too_many bytes = npy_number_here flaws.Length (after_spaces bytes) >>= λ x. Err (length (after_spaces bytes), flaws.TooManyAxes)

-- Returns the lengths up to the end of the shape, at most as many as the number says, and what follows this end;
-- `first` says whether the next length is the first of the shape.
unfoldable pub lengths_in : Bool → ℕ → List ℕ → Result (List ℕ × List ℕ) HeaderStop
lengths_in first zero bytes = if closes bytes then no_length (after_mark flaws.AfterLength 41 bytes) else one_too_many bytes
lengths_in first (suc allowed) bytes = if closes bytes then no_length (after_mark flaws.AfterLength 41 bytes) else (length_in first bytes >>= λ x. lengths_appended (x.0 ∷ []) (lengths_in false allowed x.1))

-- Returns the shape in parentheses at the front, and what follows it.
unfoldable pub shape_here : List ℕ → Result (List ℕ × List ℕ) HeaderStop
shape_here bytes = after_mark flaws.Shape 40 bytes >>= λ a. lengths_in true 32 a

-- ---- the dict

-- Returns the key, and what follows the colon after it, where `name` and then the byte `quote` stand at the front.
unfoldable pub key_end : Key → List ℕ → ℕ → List ℕ → Result (Key × List ℕ) HeaderStop
key_end key name quote bytes = after_text flaws.Key name bytes >>= λ a. after_text flaws.Key (quote ∷ []) a >>= λ b. after_mark flaws.Key 58 b >>= λ rest. Ok (key, rest)

-- Returns the key whose name stands at the front, with the byte `quote` after it, and what follows the colon after that.
-- The first letter decides which name is expected.
abbrev pub key_until : ℕ → List ℕ → Result (Key × List ℕ) HeaderStop
key_until quote [] = Err (0, flaws.Key)
key_until quote (b ∷ bs) = if b == 100 then key_end Descr (codes "descr") quote (b ∷ bs) else (if b == 102 then key_end FortranOrder (codes "fortran_order") quote (b ∷ bs) else (if b == 115 then key_end Shape (codes "shape") quote (b ∷ bs) else Err (length (b ∷ bs), flaws.Key)))

-- Returns the key at the front, which stands between two ' or two ", and what follows the colon after it.
unfoldable pub key_in : List ℕ → Result (Key × List ℕ) HeaderStop
key_in bytes = quote_in (after_spaces bytes) >>= λ q. key_until q.0 q.1

-- The values of a dict that were read so far, by their keys; a key that wasn't read yet has `None`.
pub record Parts : Type 0 where
  pub item_type : Option ItemType
  pub fortran_order : Option Bool
  pub shape_found : Option (List ℕ)

abbrev pub no_parts : Parts
no_parts = record { item_type = None; fortran_order = None; shape_found = None }

abbrev pub with_item_type : ItemType → Parts → Parts
with_item_type item p = record { item_type = Some item; fortran_order = p.fortran_order; shape_found = p.shape_found }

abbrev pub with_order : Bool → Parts → Parts
with_order order p = record { item_type = p.item_type; fortran_order = Some order; shape_found = p.shape_found }

abbrev pub with_shape : List ℕ → Parts → Parts
with_shape shape p = record { item_type = p.item_type; fortran_order = p.fortran_order; shape_found = Some shape }

-- Returns `p` with the value at the front for this key, and what follows the value. It is an error if the key already
-- has a value: `KeyAgain` where the key begins, with `left` bytes left.
unfoldable pub value_in : Key → Parts → ℕ → List ℕ → Result (Parts × List ℕ) HeaderStop
value_in Descr p left bytes = if is_some p.item_type then Err (left, flaws.KeyAgain) else (item_type_here (after_spaces bytes) >>= λ t. Ok (with_item_type t.0 p, t.1))
value_in FortranOrder p left bytes = if is_some p.fortran_order then Err (left, flaws.KeyAgain) else (truth_here (after_spaces bytes) >>= λ o. Ok (with_order o.0 p, o.1))
value_in Shape p left bytes = if is_some p.shape_found then Err (left, flaws.KeyAgain) else (shape_here bytes >>= λ s. Ok (with_shape s.0 p, s.1))

-- Returns `p` with the entry at the front, which is a key and its value, and what follows the entry.
unfoldable pub entry_in : Parts → List ℕ → Result (Parts × List ℕ) HeaderStop
entry_in p bytes = key_in bytes >>= λ k. value_in k.0 p (length (after_spaces bytes)) k.1

-- Returns `p` with the entry after the comma at the front, and what follows the entry.
unfoldable pub next_entry : Parts → List ℕ → Result (Parts × List ℕ) HeaderStop
next_entry p bytes = after_mark flaws.Comma 44 bytes >>= λ rest. entry_in p rest

-- Returns the values of the three entries at the front, in any order and with commas between them, and what follows
-- them.
unfoldable pub entries_in : List ℕ → Result (Parts × List ℕ) HeaderStop
entries_in bytes = entry_in no_parts bytes >>= λ x. next_entry x.0 x.1 >>= λ y. next_entry y.0 y.1

-- Returns the description of an item type, an order and a shape. After three entries none is missing (`EntriesAreWhole`
-- of `Laws`), so the error for a missing one never shows.
abbrev pub description_of_parts : Option ItemType → Option Bool → Option (List ℕ) → Result Description HeaderStop
description_of_parts None order shape = Err (0, flaws.Key)
description_of_parts (Some item) None shape = Err (0, flaws.Key)
description_of_parts (Some item) (Some order) None = Err (0, flaws.Key)
description_of_parts (Some item) (Some order) (Some shape) = Ok (described item order shape)

-- Returns the description of what was found in a dict.
abbrev pub description_of_found : Parts → Result Description HeaderStop
description_of_found found = description_of_parts found.item_type found.fortran_order found.shape_found

-- Returns what follows the comma at the front, or all of the bytes if there is none.
abbrev pub without_comma : List ℕ → List ℕ
without_comma [] = []
without_comma (b ∷ bs) = if b == 44 then bs else b ∷ bs

-- Returns no bytes if exactly one line feed is left, or else an error.
abbrev pub line_end : List ℕ → Result (List ℕ) HeaderStop
line_end [] = Err (0, flaws.Padding)
line_end (b ∷ []) = if b == 10 then Ok [] else Err (1, flaws.Padding)
line_end (b ∷ c ∷ cs) = Err (length (b ∷ c ∷ cs), flaws.Padding)

-- Returns no bytes if only the end of the dict is left: a comma or none, }, spaces and one line feed.
unfoldable pub dict_end : List ℕ → Result (List ℕ) HeaderStop
dict_end bytes = after_mark flaws.Ending 125 (without_comma (after_spaces bytes)) >>= λ rest. line_end (after_spaces rest)

-- Returns what a dict says; its text is all of the bytes.
unfoldable pub dict_in : List ℕ → Result Description HeaderStop
dict_in bytes = after_mark flaws.Beginning 123 bytes >>= λ a. entries_in a >>= λ x. dict_end x.1 >>= λ rest. description_of_parts x.0.item_type x.0.fortran_order x.0.shape_found

-- ---- what stands in front of the dict

abbrev pub magic : List ℕ
magic = 147 ∷ codes "NUMPY"

-- Returns what follows the magic bytes, or the error `NoMagic`.
abbrev pub or_no_magic : Result (List ℕ) HeaderStop → Result (List ℕ) HeaderError
or_no_magic (Ok rest) = Ok rest
or_no_magic (Err stop) = Err NoMagic

-- Returns the version with these two numbers, if it is known.
abbrev pub version_numbered : ℕ → ℕ → Option Version
version_numbered major minor = if minor == 0 then (if major == 1 then Some One else (if major == 2 then Some Two else (if major == 3 then Some Three else None))) else None

-- Returns the version and `rest`, or the error that the version with these numbers isn't known.
abbrev pub or_unknown : ℕ → ℕ → Option Version → List ℕ → Result (Version × List ℕ) HeaderError
or_unknown major minor None rest = Err (UnknownVersion major minor)
or_unknown major minor (Some version) rest = Ok (version, rest)

-- Returns the version at the front, and what follows it.
abbrev pub version_in : List ℕ → Result (Version × List ℕ) HeaderError
version_in [] = Err TooShort
version_in (major ∷ []) = Err TooShort
version_in (major ∷ minor ∷ rest) = or_unknown major minor (version_numbered major minor) rest

-- Returns the length of the dict at the front, in four bytes if the flag is `true` and in two otherwise, the least
-- significant first, and what follows it.
abbrev pub size_in : Bool → List ℕ → Result (ℕ × List ℕ) HeaderError
size_in false (a ∷ b ∷ bs) = Ok (a + b * 256, bs)
size_in true (a ∷ b ∷ c ∷ d ∷ bs) = Ok (a + b * 256 + c * 65536 + d * 16777216, bs)
size_in wide bytes = Err TooShort

-- Returns the first `size` bytes, or the error that the head is cut off.
abbrev pub first_bytes : ℕ → List ℕ → Result (List ℕ) HeaderError
first_bytes size bytes = if nat_le size (length bytes) then Ok (take size bytes) else Err TooShort

-- Returns at which byte of the file the elements begin, and the text of the dict, which ends there; the bytes are those
-- that follow the version.
unfoldable pub text_in : Version → List ℕ → Result (ℕ × List ℕ) HeaderError
text_in version bytes = size_in (is_wide version) bytes >>= λ s. first_bytes s.0 s.1 >>= λ text. Ok (text_start version + s.0, text)

-- Returns at which byte of the file the elements begin, and the text of the dict, which ends there.
unfoldable pub opening_in : List ℕ → Result (ℕ × List ℕ) HeaderError
opening_in bytes = or_no_magic (after_text flaws.Beginning magic bytes) >>= λ a. version_in a >>= λ v. text_in v.0 v.1

-- Says whether the result is the error that the bytes end too early.
abbrev pub is_too_short : {X : Type 0} → Result X HeaderError → Bool
is_too_short (Ok x) = false
is_too_short (Err TooShort) = true
is_too_short (Err error) = false

-- Says whether the bytes end before they tell what their head says: inside the magic bytes, or `TooShort`.
abbrev pub is_cut_off : List ℕ → Bool
is_cut_off bytes = nat_lt (length bytes) 6 || is_too_short (opening_in bytes)

-- ---- the head

-- Returns the value, or the error `BadByte` with the byte of the file at which a dict can't be read, where `end` is the
-- byte at which the dict ends.
abbrev pub with_byte_counted : {Y : Type 0} → ℕ → Result Y HeaderStop → Result Y HeaderError
with_byte_counted end (Ok y) = Ok y
with_byte_counted end (Err stop) = Err (BadByte (end - stop.0) stop.1)

-- Returns the description, or the error `TooLarge` if its elements don't fit in memory.
abbrev pub unless_too_large : Description → Result Description HeaderError
unless_too_large d = if fits_memory (kind_size d.item_type.kind) d.array_shape then Ok d else Err TooLarge

-- Returns what the head at the front of a file says and at which byte the elements begin, or the first error.
unfoldable pub npy_header_in : List ℕ → Result (Description × ℕ) HeaderError
npy_header_in bytes = opening_in bytes >>= λ o. with_byte_counted o.0 (dict_in o.1) >>= λ d. unless_too_large d >>= λ whole. Ok (whole, o.0)

-- ---- what the reader gives

-- Says that a reader may fail with this error where the bytes mean `meant`: with `Memory` always, and with another
-- error only if `meant` is that error.
abbrev pub IsCause : {Y : Type 0} → HeaderError → Result Y HeaderError → Type 0
IsCause Memory meant = Unit {0}
IsCause (BadByte byte flaw) meant = meant ≡ Err (BadByte byte flaw)
IsCause NoMagic meant = meant ≡ Err NoMagic
IsCause (UnknownVersion major minor) meant = meant ≡ Err (UnknownVersion major minor)
IsCause TooShort meant = meant ≡ Err TooShort
IsCause TooLarge meant = meant ≡ Err TooLarge

-- Says that a reader's result is what the bytes mean: `meant` is `view` of the value that the reader returns, or the
-- reader may fail with its error (`IsCause`).
abbrev pub ReadsHeaderAs : {X Y : Type 0} → (X → Y) → Result X HeaderError → Result Y HeaderError → Type 0
ReadsHeaderAs view (Ok x) meant = meant ≡ Ok (view x)
ReadsHeaderAs view (Err error) meant = IsCause error meant

-- Says that the bytes mean a head with at least one axis, whose lengths need memory.
abbrev pub HasLengths : List ℕ → Type 0
HasLengths bytes = (d : Description) × (start : ℕ) × (npy_header_in bytes ≡ Ok (d, start)) × (0 < length d.array_shape)
