-- The texts that errors write.
use Rattle.std.specs.Prelude.{ℕ, List, ◌++◌, codes}
use Rattle.std.specs.Fmt.{decimal}
use Rattle.nd_npy_text.specs.declared.errors.HeaderFlaw.{HeaderFlaw}
use Rattle.nd_npy_text.specs.declared.errors.HeaderFlaw.TheVariants as flaws
use Rattle.nd_npy_text.specs.declared.errors.HeaderError.{HeaderError}
use Rattle.nd_npy_text.specs.declared.errors.HeaderError.TheVariants.{NoMagic, UnknownVersion, TooShort, BadByte, TooLarge, Memory}

-- Returns the text that a flaw of a head's dict writes.
abbrev pub header_flaw_text : HeaderFlaw → List ℕ
header_flaw_text flaws.Beginning = codes "the head begins with {"
header_flaw_text flaws.Key = codes "a key is 'descr', 'fortran_order' or 'shape', with a colon after it"
header_flaw_text flaws.KeyAgain = codes "a key stands once"
header_flaw_text flaws.ItemType = codes "the item type is a text in quotes"
header_flaw_text flaws.Object = codes "items that are Python objects aren't supported"
header_flaw_text flaws.ByteString = codes "items that are byte strings aren't supported"
header_flaw_text flaws.Text = codes "items that are text aren't supported"
header_flaw_text flaws.Date = codes "items that are dates aren't supported"
header_flaw_text flaws.Duration = codes "items that are durations aren't supported"
header_flaw_text flaws.Raw = codes "items that are raw bytes aren't supported"
header_flaw_text flaws.Record = codes "items that are records aren't supported"
header_flaw_text flaws.OtherItems = codes "items of this type aren't supported"
header_flaw_text flaws.Comma = codes "a comma follows a value"
header_flaw_text flaws.Truth = codes "the order is True or False"
header_flaw_text flaws.Shape = codes "the shape begins with ("
header_flaw_text flaws.Length = codes "a length is a number from 0 to 9223372036854775807"
header_flaw_text flaws.AfterLength = codes "a comma follows a length, or ) the last of several"
header_flaw_text flaws.TooManyAxes = codes "there are more than 32 axes"
header_flaw_text flaws.Ending = codes "the head ends with }"
header_flaw_text flaws.Padding = codes "spaces and a line feed end the head"

-- Returns the text that an error of reading a head writes.
abbrev pub header_error_text : HeaderError → List ℕ
header_error_text NoMagic = codes "this is no .npy file"
header_error_text (UnknownVersion major minor) = codes "the version " ++ (decimal major ++ (codes "." ++ (decimal minor ++ codes " isn't known")))
header_error_text TooShort = codes "the head ends too early"
header_error_text (BadByte byte flaw) = codes "byte " ++ (decimal byte ++ (codes ": " ++ header_flaw_text flaw))
header_error_text TooLarge = codes "the shape is too large"
header_error_text Memory = codes "out of memory"
