-- Reading the words of a line from left to right. A reader returns what it read and the words that are left.
use Rattle.std.specs.Prelude.{◌≡◌, ◌<◌, ℕ, zero, suc, ◌^◌, ◌&&◌, ◌||◌, Bool, true, false, nat_le, nat_lt, List, [], ◌∷◌, ℤ, Option, None, Some, Result, Ok, Err, codes, length, if◌then◌else◌, IsTrue}
use Rattle.std.specs.Str.{bytes_eq}
use Rattle.std.specs.Option.{option_map}
use Rattle.nd_shape_and_slice.specs.ShapesAndIndexOrders.{nonzero_product, size_of}
use Rattle.nd_shape_and_slice.specs.declared.slice.Slice.{Slice}
use Rattle.nd_shape_and_slice.specs.declared.slice_info.SliceInfoElem.{SliceInfoElem}
use Rattle.nd_shape_and_slice.specs.declared.slice_info.SliceInfoElem.TheVariants.{Slice as Cutting, Index as At, NewAxis}
use Rattle.nd_shape_and_slice.specs.declared.shape_builder.Order.{Order}
use Rattle.nd_shape_and_slice.specs.declared.shape_builder.Order.TheVariants.{RowMajor, ColumnMajor}
use Rattle.nd_text.specs.declared.script_keywords.Keyword.{Keyword}
use Rattle.nd_text.specs.declared.script_keywords.Keyword.TheVariants.{Start, Keep, Ask, Write, Split, Slash, Cut, Slice as SliceWord, Collapse, Index, Permute, Reverse, SwapAxes, Invert, Insert, Remove, Squeeze, Diag, Broadcast, Part, Coordinate, New, Shape, Elements, Get, First, Last, Equal, Count, Select, RemoveIndex, Reshape, Append, Push, Reserve, Concat, Stack, Row, Column, Fill, Assign, Set, Swap}
use Rattle.nd_read.specs.declared.reader.read_errors.LineFault.{LineFault}
use Rattle.nd_read.specs.declared.reader.read_errors.LineFault.TheVariants.{Bad, Memory}
use Rattle.nd_read.specs.ScriptCalls.{AskedStep, SlicedAxis, Sliced, Collapsed, Indexed, Permuted, Reversed, Exchanged, Inverted, Inserted, Removed, Squeezed, Diagonal, BroadcastTo, Asking, AskShape, AskElements, AskElement, AskFirst, AskLast, AskEqual, AskCount, AskReshaped, Acting, Filling, Assigning, Setting, Swapping, Asked, Keeping, About, Writing, SplitWriting, Selecting, Removing, Reshaping, Appending, Reserving, Concatenating, Stacking}
use Rattle.nd_array_core.specs.LayoutLaws.{with_axis_inserted}
use Rattle.nd_array_core.specs.ArrayMeaning.{Meaning}
use Rattle.nd_read.specs.LineGrammar.{array_of}
use Rattle.nd_text.specs.DecimalNumerals.{nat_of, int_of}
use Rattle.nd_text.specs.KeywordSpelling.{is_step, keyword_of}
-- The reader of one word, by what the word writes, is `first_as`.
pub use Rattle.nd_text.specs.LinesAndWords.{◌>>=◌, first_as}

-- Says how a reader of the code may fail: with `Bad` only if reading gives nothing, and with `Memory` only if memory
-- is taken.
abbrev pub Fails : {Y : Type 0} → Bool → LineFault → Option Y → Type 0
Fails takes Memory read = IsTrue takes
Fails takes Bad read = read ≡ None

-- Says that a reader of the code returned what reading gives, where `view` tells what its value means, or that it
-- failed as `Fails` allows.
abbrev pub Gives : {X Y : Type 0} → Bool → (X → Y) → Result X LineFault → Option Y → Type 0
Gives takes view (Ok x) read = read ≡ Some (view x)
Gives takes view (Err fault) read = Fails takes fault read

-- Says that a reader of the code returned what reading gives, where `view` tells what its value means, and left the
-- same words; or that it failed as `Fails` allows.
abbrev pub IsRead : {X Y : Type 0} → Bool → (X → Y) → Result X LineFault → List (List ℕ) → Option (Y × List (List ℕ)) → Type 0
IsRead takes view (Ok x) left read = read ≡ Some (view x, left)
IsRead takes view (Err fault) left read = Fails takes fault read

-- Says that the reader takes at least one word whenever it reads something.
abbrev pub TakesWords : {X : Type 0} → (List (List ℕ) → Option (X × List (List ℕ))) → Type 0
TakesWords {X} read = (words : List (List ℕ)) (x : X) (rest : List (List ℕ)) → read words ≡ Some (x, rest) → length rest < length words

-- ---- Ways to put readers together

abbrev pub word_at : List (List ℕ) → Option (List ℕ × List (List ℕ))
word_at [] = None
word_at (word ∷ words) = Some (word, words)

-- Reads one thing and then another.
unfoldable pub both_at : {X Y : Type 0} → (List (List ℕ) → Option (X × List (List ℕ))) → (List (List ℕ) → Option (Y × List (List ℕ))) → List (List ℕ) → Option ((X × Y) × List (List ℕ))
both_at read next words = do
  first ← read words
  second ← next first.1
  Some ((first.0, second.0), second.1)

-- Applies `make` to what was read.
unfoldable pub map_read : {X Y : Type 0} → (X → Y) → Option (X × List (List ℕ)) → Option (Y × List (List ℕ))
map_read make read = do
  parts ← read
  Some (make parts.0, parts.1)

-- Reads items one after another, at most `n` of them, as long as `begins` says that another one begins.
unfoldable pub many_while : {X : Type 0} → (List (List ℕ) → Bool) → (List (List ℕ) → Option (X × List (List ℕ))) → ℕ → List (List ℕ) → Option (List X × List (List ℕ))
many_while begins read zero words = Some ([], words)
many_while begins read (suc n) words = if begins words then map_read (λ x. x.0 ∷ x.1) (both_at read (many_while begins read n) words) else Some ([], words)

-- Reads `n` items one after another.
abbrev pub many_at : {X : Type 0} → (List (List ℕ) → Option (X × List (List ℕ))) → ℕ → List (List ℕ) → Option (List X × List (List ℕ))
many_at read n words = many_while (λ ws. true) read n words

-- Reads how many items there are, and then the items.
unfoldable pub counted_at : {X : Type 0} → (List (List ℕ) → Option (X × List (List ℕ))) → List (List ℕ) → Option (List X × List (List ℕ))
counted_at read words = do
  count ← first_as nat_of words
  many_at read count.0 count.1

abbrev pub keyword_at : List (List ℕ) → Option (Keyword × List (List ℕ))
keyword_at [] = None
keyword_at (word ∷ words) = Some (keyword_of word, words)

-- Reads a keyword, and then what `row` reads after it.
unfoldable pub named_at : {X : Type 0} → (Keyword → List (List ℕ) → Option (X × List (List ℕ))) → List (List ℕ) → Option (X × List (List ℕ))
named_at row words = do
  name ← keyword_at words
  row name.0 name.1

-- Reads nothing more after a slash, and fails after any other keyword.
abbrev pub slash_by : Keyword → List (List ℕ) → Option (Unit {0} × List (List ℕ))
slash_by Slash words = Some (tt, words)
slash_by _ words = None

abbrev pub slash_at : List (List ℕ) → Option (Unit {0} × List (List ℕ))
slash_at words = named_at slash_by words

-- Reads what `read` reads, and then a slash.
abbrev pub slashed_at : {X : Type 0} → (List (List ℕ) → Option (X × List (List ℕ))) → List (List ℕ) → Option (X × List (List ℕ))
slashed_at read words = map_read (λ x. x.0) (both_at read slash_at words)

-- ---- Numbers, lists and arrays

abbrev pub pair_at : List (List ℕ) → Option ((ℕ × ℕ) × List (List ℕ))
pair_at words = both_at (first_as nat_of) (first_as nat_of) words

abbrev pub list_at : List (List ℕ) → Option (List ℕ × List (List ℕ))
list_at words = counted_at (first_as nat_of) words

-- Reads nothing more after the keyword of an order, and fails after any other keyword.
abbrev pub order_by : Keyword → List (List ℕ) → Option (Order × List (List ℕ))
order_by Row words = Some (RowMajor, words)
order_by Column words = Some (ColumnMajor, words)
order_by _ words = None

abbrev pub order_at : List (List ℕ) → Option (Order × List (List ℕ))
order_at words = named_at order_by words

-- Reads an order and then a list of lengths.
abbrev pub ordered_list_at : List (List ℕ) → Option ((Order × List ℕ) × List (List ℕ))
ordered_list_at words = both_at order_at list_at words

-- Reads a list of at most 32 numbers.
unfoldable pub lengths_at : List (List ℕ) → Option (List ℕ × List (List ℕ))
lengths_at words = do
  count ← first_as nat_of words
  if nat_le count.0 32 then many_at (first_as nat_of) count.0 count.1 else None

-- Returns the size of an array of these lengths, if they have a checked one.
abbrev pub checked_size : List ℕ → Option ℕ
checked_size lengths = if nat_lt (nonzero_product lengths) (2 ^ 63) then Some (size_of lengths) else None

-- Reads the lengths of an array and then its elements.
unfoldable pub parts_at : List (List ℕ) → Option ((List ℕ × List ℤ) × List (List ℕ))
parts_at words = do
  lengths ← lengths_at words
  size ← checked_size lengths.0
  elements ← many_at (first_as int_of) size lengths.1
  Some ((lengths.0, elements.0), elements.1)

abbrev pub array_at : List (List ℕ) → Option (Meaning ℤ × List (List ℕ))
array_at words = map_read (λ parts. array_of parts.0 parts.1) (parts_at words)

abbrev pub many_arrays : ℕ → List (List ℕ) → Option (List (Meaning ℤ) × List (List ℕ))
many_arrays n words = many_at array_at n words

abbrev pub arrays_at : List (List ℕ) → Option (List (Meaning ℤ) × List (List ℕ))
arrays_at words = counted_at array_at words

-- ---- Slices

-- Returns the end of a slice that the word writes, where `_` writes that it is missing.
abbrev pub slice_end_of : List ℕ → Option (Option ℤ)
slice_end_of word = if bytes_eq word (codes "_") then Some None else option_map Some (int_of word)

abbrev pub slice_at : List (List ℕ) → Option (Slice × List (List ℕ))
slice_at words = map_read (λ x. record { start = x.0; end = x.1.0; step = x.1.1 }) (both_at (first_as int_of) (both_at (first_as slice_end_of) (first_as int_of)) words)

-- Reads the rest of an element of a list of slices after its keyword.
abbrev pub element_by : Keyword → List (List ℕ) → Option (SliceInfoElem × List (List ℕ))
element_by Part words = map_read (λ s. Cutting s.start s.end s.step) (slice_at words)
element_by Coordinate words = map_read At (first_as int_of words)
element_by New words = Some (NewAxis, words)
element_by _ words = None

abbrev pub slice_element_at : List (List ℕ) → Option (SliceInfoElem × List (List ℕ))
slice_element_at words = named_at element_by words

-- ---- Steps, questions, acts and calls: a row for each keyword

-- Reads the rest of a step after its keyword.
abbrev pub step_by : Keyword → List (List ℕ) → Option (AskedStep × List (List ℕ))
step_by Cut words = map_read (λ x. SlicedAxis x.0 x.1) (both_at (first_as nat_of) slice_at words)
step_by SliceWord words = map_read Sliced (counted_at slice_element_at words)
step_by Collapse words = map_read (λ x. Collapsed x.0 x.1) (pair_at words)
step_by Index words = map_read (λ x. Indexed x.0 x.1) (pair_at words)
step_by Permute words = map_read Permuted (list_at words)
step_by Reverse words = Some (Reversed, words)
step_by SwapAxes words = map_read (λ x. Exchanged x.0 x.1) (pair_at words)
step_by Invert words = map_read Inverted (first_as nat_of words)
step_by Insert words = map_read Inserted (first_as nat_of words)
step_by Remove words = map_read Removed (first_as nat_of words)
step_by Squeeze words = Some (Squeezed, words)
step_by Diag words = Some (Diagonal, words)
step_by Broadcast words = map_read BroadcastTo (list_at words)
step_by _ words = None

abbrev pub step_at : List (List ℕ) → Option (AskedStep × List (List ℕ))
step_at words = named_at step_by words

-- Returns whether a step begins with the first word.
abbrev pub begins_step : List (List ℕ) → Bool
begins_step [] = false
begins_step (word ∷ words) = is_step (keyword_of word)

-- Reads steps with their slashes, at most `n` of them, as long as another one begins.
abbrev pub path_at : ℕ → List (List ℕ) → Option (List AskedStep × List (List ℕ))
path_at n words = many_while begins_step (slashed_at step_at) n words

-- Reads the rest of a question after its keyword.
abbrev pub question_by : Keyword → List (List ℕ) → Option (Asking ℤ × List (List ℕ))
question_by Shape words = Some (AskShape, words)
question_by Elements words = Some (AskElements, words)
question_by Get words = map_read AskElement (list_at words)
question_by First words = Some (AskFirst, words)
question_by Last words = Some (AskLast, words)
question_by Equal words = map_read AskEqual (array_at words)
question_by Count words = map_read AskCount (first_as int_of words)
question_by Reshape words = map_read (λ x. AskReshaped x.1 x.0) (ordered_list_at words)
question_by _ words = None

abbrev pub question_at : List (List ℕ) → Option (Asking ℤ × List (List ℕ))
question_at words = named_at question_by words

-- Reads the rest of an act after its keyword.
abbrev pub act_by : Keyword → List (List ℕ) → Option (Acting ℤ × List (List ℕ))
act_by Fill words = map_read Filling (first_as int_of words)
act_by Assign words = map_read Assigning (array_at words)
act_by Set words = map_read (λ x. Setting x.0 x.1) (both_at list_at (first_as int_of) words)
act_by Swap words = map_read (λ x. Swapping x.0 x.1) (both_at list_at list_at words)
act_by _ words = None

abbrev pub act_at : List (List ℕ) → Option (Acting ℤ × List (List ℕ))
act_at words = named_at act_by words

-- Reads two acts with a slash between them.
abbrev pub acts_at : List (List ℕ) → Option ((Acting ℤ × Acting ℤ) × List (List ℕ))
acts_at words = both_at (slashed_at act_at) act_at words

-- Reads the rest of a call, with at most `n` steps, after its keyword.
abbrev pub call_by : ℕ → Keyword → List (List ℕ) → Option (Asked ℤ × List (List ℕ))
call_by n Keep words = map_read Keeping (step_at words)
call_by n Ask words = map_read (λ x. About x.0 x.1) (both_at (path_at n) question_at words)
call_by n Write words = map_read (λ x. Writing x.0 x.1) (both_at (path_at n) act_at words)
call_by n Split words = map_read (λ x. SplitWriting x.0.0 x.0.1 x.1.0 x.1.1) (both_at pair_at acts_at words)
call_by n Select words = map_read (λ x. Selecting x.0 x.1) (both_at (first_as nat_of) list_at words)
call_by n RemoveIndex words = map_read (λ x. Removing x.0 x.1) (pair_at words)
call_by n Reshape words = map_read (λ x. Reshaping x.1 x.0) (ordered_list_at words)
call_by n Append words = map_read (λ x. Appending x.0 x.1) (both_at (first_as nat_of) array_at words)
call_by n Push words = map_read (λ x. Appending x.0 (with_axis_inserted x.0 x.1)) (both_at (first_as nat_of) array_at words)
call_by n Reserve words = map_read (λ x. Reserving x.0 x.1) (pair_at words)
call_by n Concat words = map_read (λ x. Concatenating x.0 x.1) (both_at (first_as nat_of) arrays_at words)
call_by n Stack words = map_read (λ x. Stacking x.0 x.1) (both_at (first_as nat_of) arrays_at words)
call_by n _ words = None

abbrev pub call_at : ℕ → List (List ℕ) → Option (Asked ℤ × List (List ℕ))
call_at n words = named_at (call_by n) words

-- Returns what was read, if no word is left over.
abbrev pub read_to_end : {X : Type 0} → X × List (List ℕ) → Option X
read_to_end (x, []) = Some x
read_to_end (x, word ∷ words) = None

-- Returns the call that the words of a line are, with at most `n` steps, if they are one.
unfoldable pub call_of : ℕ → List (List ℕ) → Option (Asked ℤ)
call_of n words = do
  call ← call_at n words
  read_to_end call

-- Reads the array after the keyword `start`.
abbrev pub start_word_by : Keyword → List (List ℕ) → Option (Meaning ℤ × List (List ℕ))
start_word_by Start words = array_at words
start_word_by _ words = None

-- Returns the array that the words of a line start a script with, if they do.
unfoldable pub start_of : List (List ℕ) → Option (Meaning ℤ)
start_of words = do
  start ← named_at start_word_by words
  read_to_end start

-- ---- Whether memory may be lacking while words are read: whether some is taken for them

-- Returns whether something was read, and `holds` is true of it and of the words that are left.
abbrev pub read_then : {X : Type 0} → Option (X × List (List ℕ)) → (X → List (List ℕ) → Bool) → Bool
read_then None holds = false
read_then (Some read) holds = holds read.0 read.1

-- Returns whether memory is taken for `n` items: there is at least one, and there are as many words as items or more.
abbrev pub many_may_lack : ℕ → List (List ℕ) → Bool
many_may_lack n words = nat_lt 0 n && nat_le n (length words)

abbrev pub list_may_lack : List (List ℕ) → Bool
list_may_lack words = read_then (first_as nat_of words) many_may_lack

-- Returns whether memory is taken for an array of `n` axes: these are at most 32, and there are as many words as axes
-- or more, and at least one.
abbrev pub parts_may_lack : ℕ → List (List ℕ) → Bool
parts_may_lack n words = nat_le n 32 && (nat_lt 0 (length words) && nat_le n (length words))

abbrev pub array_may_lack : List (List ℕ) → Bool
array_may_lack words = read_then (first_as nat_of words) parts_may_lack

abbrev pub ordered_list_may_lack : List (List ℕ) → Bool
ordered_list_may_lack words = read_then (order_at words) (λ order rest. list_may_lack rest)

abbrev pub step_may_lack_by : Keyword → List (List ℕ) → Bool
step_may_lack_by SliceWord words = list_may_lack words
step_may_lack_by Permute words = list_may_lack words
step_may_lack_by Broadcast words = list_may_lack words
step_may_lack_by _ words = false

abbrev pub step_may_lack : List (List ℕ) → Bool
step_may_lack words = read_then (keyword_at words) step_may_lack_by

abbrev pub question_may_lack_by : Keyword → List (List ℕ) → Bool
question_may_lack_by Get words = list_may_lack words
question_may_lack_by Equal words = array_may_lack words
question_may_lack_by Reshape words = ordered_list_may_lack words
question_may_lack_by _ words = false

abbrev pub question_may_lack : List (List ℕ) → Bool
question_may_lack words = read_then (keyword_at words) question_may_lack_by

abbrev pub act_may_lack_by : Keyword → List (List ℕ) → Bool
act_may_lack_by Assign words = array_may_lack words
act_may_lack_by Set words = list_may_lack words
act_may_lack_by Swap words = list_may_lack words || read_then (list_at words) (λ index rest. list_may_lack rest)
act_may_lack_by _ words = false

abbrev pub act_may_lack : List (List ℕ) → Bool
act_may_lack words = read_then (keyword_at words) act_may_lack_by

abbrev pub acts_may_lack : List (List ℕ) → Bool
acts_may_lack words = act_may_lack words || read_then (slashed_at act_at words) (λ act rest. act_may_lack rest)

-- Returns whether memory is taken for the words after the keyword of a call. A path takes memory if it has a step.
abbrev pub call_may_lack_by : Keyword → List (List ℕ) → Bool
call_may_lack_by Keep words = step_may_lack words
call_may_lack_by Ask words = begins_step words || question_may_lack words
call_may_lack_by Write words = begins_step words || act_may_lack words
call_may_lack_by Split words = read_then (pair_at words) (λ place rest. acts_may_lack rest)
call_may_lack_by Select words = read_then (first_as nat_of words) (λ axis rest. list_may_lack rest)
call_may_lack_by Reshape words = ordered_list_may_lack words
call_may_lack_by Append words = read_then (first_as nat_of words) (λ axis rest. array_may_lack rest)
call_may_lack_by Push words = read_then (first_as nat_of words) (λ axis rest. array_may_lack rest)
call_may_lack_by Concat words = read_then (first_as nat_of words) (λ axis rest. list_may_lack rest)
call_may_lack_by Stack words = read_then (first_as nat_of words) (λ axis rest. list_may_lack rest)
call_may_lack_by _ words = false

-- Returns whether memory is taken for the words of a line, read as a call.
abbrev pub call_may_lack : List (List ℕ) → Bool
call_may_lack words = read_then (keyword_at words) call_may_lack_by

abbrev pub start_may_lack_by : Keyword → List (List ℕ) → Bool
start_may_lack_by Start words = array_may_lack words
start_may_lack_by _ words = false

-- Returns whether memory is taken for the words of a line, read as the array that a script starts with.
abbrev pub start_may_lack : List (List ℕ) → Bool
start_may_lack words = read_then (keyword_at words) start_may_lack_by
