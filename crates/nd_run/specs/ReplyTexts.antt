-- How replies are written: words with one space between them, and a line feed at the end of each line.
use Rattle.std.specs.Prelude.{ℕ, ℤ, Bool, true, false, List, ◌++◌, Option, Some, None, codes}
use Rattle.std.specs.List.{flat_map}
use Rattle.std.specs.Fmt.{decimal, signed_decimal}
use Rattle.nd_array_core.specs.ConcatenationAndSplit.{row_major_elements}
use Rattle.nd_array_core.specs.ArrayMeaning.{Meaning}
use Rattle.nd_text.specs.NumberTexts.{list_text, values_text}
use Rattle.nd_run.specs.CallReplies.{Said, SaidDone, SaidRefused, SaidShape, SaidElements, SaidElement, SaidTruth, SaidNumber}

-- Returns the text of the lengths as a list, and of the elements.
abbrev pub shape_and_elements_text : List ℕ → List ℤ → List ℕ
shape_and_elements_text lengths elements = list_text lengths ++ values_text elements

-- Returns the text of the elements of an array in row-major order.
abbrev pub elements_text : Meaning ℤ → List ℕ
elements_text m = values_text (row_major_elements m)

-- Returns the text of the element, or of its absence.
abbrev pub found_element_text : Option ℤ → List ℕ
found_element_text None = codes "none"
found_element_text (Some v) = codes "some " ++ signed_decimal v

abbrev pub truth_text : Bool → List ℕ
truth_text true = codes "true"
truth_text false = codes "false"

-- Returns the text of a reply without its line feed.
abbrev pub reply_words : Said ℤ → List ℕ
reply_words SaidDone = codes "done"
reply_words (SaidRefused cause) = codes "refused " ++ decimal cause
reply_words (SaidShape lengths) = codes "shape " ++ list_text lengths
reply_words (SaidElements lengths elements) = codes "array " ++ shape_and_elements_text lengths elements
reply_words (SaidElement element) = found_element_text element
reply_words (SaidTruth truth) = truth_text truth
reply_words (SaidNumber number) = codes "number " ++ decimal number

abbrev pub reply_text : Said ℤ → List ℕ
reply_text reply = reply_words reply ++ codes "\n"

abbrev pub replies_text : List (Said ℤ) → List ℕ
replies_text replies = flat_map reply_text replies
