-- How the item type, the value of the key `descr`, is read.
use Rattle.std.specs.Prelude.{ℕ, Bool, ◌||◌, ◌==◌, List, [], ◌∷◌, length, Option, None, Some, Result, Ok, Err, if◌then◌else◌}
use Rattle.nd_npy_text.specs.declared.errors.HeaderFlaw.{HeaderFlaw}
use Rattle.nd_npy_text.specs.declared.errors.HeaderFlaw.TheVariants as flaws
use Rattle.nd_npy_text.specs.declared.item_type.ItemType.{ItemType}
use Rattle.nd_npy_text.specs.ItemTypes.{item_type_named}
use Rattle.nd_npy_text.specs.HeaderTokens.{HeaderStop, ◌>>=◌, after_text, is_quote, npy_number_here}

-- Says whether a byte is the letter of a kind that is supported: b, i, u, f or c.
unfoldable pub is_kind_letter : ℕ → Bool
is_kind_letter b = b == 98 || (b == 105 || (b == 117 || (b == 102 || b == 99)))

-- Returns the flaw of an item type with a letter that isn't supported: O, S, a, U, M, m and V have flaws that name the
-- items, and any other letter has `OtherItems`.
unfoldable pub letter_flaw : ℕ → HeaderFlaw
letter_flaw b = if b == 79 then flaws.Object else (if b == 83 then flaws.ByteString else (if b == 97 then flaws.ByteString else (if b == 85 then flaws.Text else (if b == 77 then flaws.Date else (if b == 109 then flaws.Duration else (if b == 86 then flaws.Raw else flaws.OtherItems))))))

-- Returns the item type and `rest`, or the flaw `OtherItems` where `left` bytes are left if there is no item type.
abbrev pub or_other_items : ℕ → Option ItemType → List ℕ → Result (ItemType × List ℕ) HeaderStop
or_other_items left None rest = Err (left, flaws.OtherItems)
or_other_items left (Some item) rest = Ok (item, rest)

-- Returns the item type whose byte order, letter and size stand at the front (as in <f8), and what follows them.
abbrev pub item_word_in : List ℕ → Result (ItemType × List ℕ) HeaderStop
item_word_in [] = Err (0, flaws.OtherItems)
item_word_in (mark ∷ []) = Err (1, flaws.OtherItems)
item_word_in (mark ∷ letter ∷ bytes) = if is_kind_letter letter then (npy_number_here flaws.OtherItems bytes >>= λ n. or_other_items (length (mark ∷ letter ∷ bytes)) (item_type_named mark letter n.0) n.1) else Err (length (mark ∷ letter ∷ bytes), letter_flaw letter)

-- Says whether a byte is [ or (, with which the list of a record's fields begins.
abbrev pub is_bracket : ℕ → Bool
is_bracket b = b == 91 || b == 40

-- Returns the item type at the front, and what follows the byte `quote` after it.
unfoldable pub quoted_item_in : ℕ → List ℕ → Result (ItemType × List ℕ) HeaderStop
quoted_item_in quote bytes = item_word_in bytes >>= λ t. after_text flaws.ItemType (quote ∷ []) t.1 >>= λ rest. Ok (t.0, rest)

-- Returns the item type at the front, which stands between two ' or two ", and what follows the second quote.
unfoldable pub item_type_here : List ℕ → Result (ItemType × List ℕ) HeaderStop
item_type_here [] = Err (0, flaws.ItemType)
item_type_here (b ∷ bs) = if is_bracket b then Err (length (b ∷ bs), flaws.Record) else (if is_quote b then quoted_item_in b bs else Err (length (b ∷ bs), flaws.ItemType))
