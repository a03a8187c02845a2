-- Which words write what: the grammar of a line, apart from any way of reading it.
use Rattle.std.specs.Prelude.{◌≡◌, ℕ, ◌≤◌, List, [], ◌∷◌, ◌++◌, length, slice_get, ℤ, Option, None, Some, codes}
use Rattle.nd_shape_and_slice.specs.ShapesAndIndexOrders.{HasCheckedSize, size_of, row_rank}
use Rattle.nd_array_core.specs.LayoutLaws.{with_axis_inserted}
use Rattle.nd_array_core.specs.ArrayMeaning.{Meaning, inside}
use Rattle.nd_shape_and_slice.specs.declared.slice.Slice.{Slice}
use Rattle.nd_shape_and_slice.specs.declared.slice_info.SliceInfoElem.{SliceInfoElem}
use Rattle.nd_shape_and_slice.specs.declared.slice_info.SliceInfoElem.TheVariants.{Slice as Cutting, Index as At, NewAxis}
use Rattle.nd_shape_and_slice.specs.declared.shape_builder.Order.{Order}
use Rattle.nd_shape_and_slice.specs.declared.shape_builder.Order.TheVariants.{RowMajor, ColumnMajor}
use Rattle.nd_text.specs.declared.script_keywords.Keyword.{Keyword}
use Rattle.nd_text.specs.declared.script_keywords.Keyword.TheVariants.{Start, Keep, Ask, Write, Split, Slash, Cut, Slice as SliceWord, Collapse, Index, Permute, Reverse, SwapAxes, Invert, Insert, Remove, Squeeze, Diag, Broadcast, Part, Coordinate, New, Shape, Elements, Get, First, Last, Equal, Count, Select, RemoveIndex, Reshape, Append, Push, Reserve, Concat, Stack, Row, Column, Fill, Assign, Set, Swap}
use Rattle.nd_read.specs.ScriptCalls.{AskedStep, SlicedAxis, Sliced, Collapsed, Indexed, Permuted, Reversed, Exchanged, Inverted, Inserted, Removed, Squeezed, Diagonal, BroadcastTo, Asking, AskShape, AskElements, AskElement, AskFirst, AskLast, AskEqual, AskCount, AskReshaped, Acting, Filling, Assigning, Setting, Swapping, Asked, Keeping, About, Writing, SplitWriting, Selecting, Removing, Reshaping, Appending, Reserving, Concatenating, Stacking}
use Rattle.nd_text.specs.DecimalNumerals.{IsNat, IsInt}
use Rattle.nd_text.specs.KeywordSpelling.{spelling}

-- ---- Ways to put writings together

-- Says that there are as many writings as items, and that each writes the item at its position.
abbrev pub AreAll : {W X : Type 0} → (W → X → Type 0) → List W → List X → Type 0
AreAll Is [] [] = Unit {0}
AreAll Is [] (x ∷ xs) = ⊥
AreAll Is (w ∷ ws) [] = ⊥
AreAll Is (w ∷ ws) (x ∷ xs) = Is w x × AreAll Is ws xs

-- Says that the words are a single one, which writes `x`.
abbrev pub IsWord : {X : Type 0} → (List ℕ → X → Type 0) → List (List ℕ) → X → Type 0
IsWord Is words x = (word : List ℕ) × (words ≡ word ∷ []) × Is word x

-- Says that there is no word, and that `x` is `made`.
abbrev pub IsBare : {X : Type 0} → X → List (List ℕ) → X → Type 0
IsBare made words x = (words ≡ []) × (x ≡ made)

-- Says that the words write one thing and then another, which are the two parts of `x`.
abbrev pub IsBoth : {X Y : Type 0} → (List (List ℕ) → X → Type 0) → (List (List ℕ) → Y → Type 0) → List (List ℕ) → X × Y → Type 0
IsBoth Is Js words x = (front : List (List ℕ)) × (back : List (List ℕ)) × (words ≡ front ++ back) × Is front x.0 × Js back x.1

-- Says that `y` is what `make` makes of what the words write.
abbrev pub IsMade : {X Y : Type 0} → (X → Y) → (List (List ℕ) → X → Type 0) → List (List ℕ) → Y → Type 0
IsMade {X} make Is words y = (x : X) × (y ≡ make x) × Is words x

-- Says that the words write the items one after another.
abbrev pub AreInTurn : {X : Type 0} → (List (List ℕ) → X → Type 0) → List (List ℕ) → List X → Type 0
AreInTurn Is words [] = words ≡ []
AreInTurn Is words (x ∷ xs) = (front : List (List ℕ)) × (back : List (List ℕ)) × (words ≡ front ++ back) × Is front x × AreInTurn Is back xs

-- Says that the words write how many items there are, and then the items.
abbrev pub IsCounted : {X : Type 0} → (List (List ℕ) → X → Type 0) → List (List ℕ) → List X → Type 0
IsCounted Is words xs = IsBoth (IsWord IsNat) (AreInTurn Is) words (length xs, xs)

-- Says that the first word spells a keyword, and that the words after it write `x` as `After` says for this keyword.
abbrev pub HasKeyword : {X : Type 0} → (Keyword → List (List ℕ) → X → Type 0) → List (List ℕ) → X → Type 0
HasKeyword After words x = (name : Keyword) × (rest : List (List ℕ)) × (words ≡ spelling name ∷ rest) × After name rest x

-- Says that the keyword is the slash, and that no words follow it.
abbrev pub IsSlashAfter : Keyword → List (List ℕ) → Unit {0} → Type 0
IsSlashAfter Slash words it = IsBare tt words it
IsSlashAfter _ words it = ⊥

-- Says that the words write `x` and then a slash.
abbrev pub IsSlashed : {X : Type 0} → (List (List ℕ) → X → Type 0) → List (List ℕ) → X → Type 0
IsSlashed Is words x = IsMade (λ p. p.0) (IsBoth Is (HasKeyword IsSlashAfter)) words x

-- ---- Numbers, lists and arrays

abbrev pub IsPair : List (List ℕ) → ℕ × ℕ → Type 0
IsPair words pair = IsBoth (IsWord IsNat) (IsWord IsNat) words pair

abbrev pub IsList : List (List ℕ) → List ℕ → Type 0
IsList words numbers = IsCounted (IsWord IsNat) words numbers

-- Says that the keyword is that of the order, and that no words follow it.
abbrev pub IsOrderAfter : Keyword → List (List ℕ) → Order → Type 0
IsOrderAfter Row words order = IsBare RowMajor words order
IsOrderAfter Column words order = IsBare ColumnMajor words order
IsOrderAfter _ words order = ⊥

-- Says that the words write an order and then a list of lengths.
abbrev pub IsOrderedList : List (List ℕ) → Order × List ℕ → Type 0
IsOrderedList words shape = IsBoth (HasKeyword IsOrderAfter) IsList words shape

-- Returns the array of these lengths with these elements in row-major order.
abbrev pub array_of : {A : Type 0} → List ℕ → List A → Meaning A
array_of lengths elements = record { shape = lengths; at = λ i. inside lengths i (slice_get elements (row_rank lengths i)) }

-- Says that the words write the lengths, at most 32 and with a checked size, and then as many elements as that size.
abbrev pub AreParts : List (List ℕ) → List ℕ × List ℤ → Type 0
AreParts words parts =
    (front : List (List ℕ)) × (back : List (List ℕ)) × (words ≡ front ++ back)
    × IsList front parts.0 × (length parts.0 ≤ 32) × HasCheckedSize parts.0
    × AreInTurn (IsWord IsInt) back parts.1 × (length parts.1 ≡ size_of parts.0)

-- Says that the words write an array: its lengths, and then its elements in row-major order.
abbrev pub IsArray : List (List ℕ) → Meaning ℤ → Type 0
IsArray words array = IsMade (λ parts. array_of parts.0 parts.1) AreParts words array

-- ---- Slices

-- Says that the word writes the end of a slice, or the sign that it is missing.
abbrev pub IsEnd : List ℕ → Option ℤ → Type 0
IsEnd word None = word ≡ codes "_"
IsEnd word (Some end) = IsInt word end

-- Says that the words write the start, the end and the step of a slice.
abbrev pub IsSlice : List (List ℕ) → Slice → Type 0
IsSlice words slice = IsMade (λ x. record { start = x.0; end = x.1.0; step = x.1.1 }) (IsBoth (IsWord IsInt) (IsBoth (IsWord IsEnd) (IsWord IsInt))) words slice

-- Says that the words after the keyword write the rest of an element of a list of slices: a slice, an index or a new
-- axis.
abbrev pub IsElementAfter : Keyword → List (List ℕ) → SliceInfoElem → Type 0
IsElementAfter Part words element = IsMade (λ s. Cutting s.start s.end s.step) IsSlice words element
IsElementAfter Coordinate words element = IsMade At (IsWord IsInt) words element
IsElementAfter New words element = IsBare NewAxis words element
IsElementAfter _ words element = ⊥

abbrev pub IsElement : List (List ℕ) → SliceInfoElem → Type 0
IsElement words element = HasKeyword IsElementAfter words element

-- ---- Steps, questions, acts and calls: a row for each keyword

-- Says that the words after the keyword write the rest of the step.
abbrev pub IsStepAfter : Keyword → List (List ℕ) → AskedStep → Type 0
IsStepAfter Cut words step = IsMade (λ x. SlicedAxis x.0 x.1) (IsBoth (IsWord IsNat) IsSlice) words step
IsStepAfter SliceWord words step = IsMade Sliced (IsCounted IsElement) words step
IsStepAfter Collapse words step = IsMade (λ x. Collapsed x.0 x.1) IsPair words step
IsStepAfter Index words step = IsMade (λ x. Indexed x.0 x.1) IsPair words step
IsStepAfter Permute words step = IsMade Permuted IsList words step
IsStepAfter Reverse words step = IsBare Reversed words step
IsStepAfter SwapAxes words step = IsMade (λ x. Exchanged x.0 x.1) IsPair words step
IsStepAfter Invert words step = IsMade Inverted (IsWord IsNat) words step
IsStepAfter Insert words step = IsMade Inserted (IsWord IsNat) words step
IsStepAfter Remove words step = IsMade Removed (IsWord IsNat) words step
IsStepAfter Squeeze words step = IsBare Squeezed words step
IsStepAfter Diag words step = IsBare Diagonal words step
IsStepAfter Broadcast words step = IsMade BroadcastTo IsList words step
IsStepAfter _ words step = ⊥

abbrev pub IsStepText : List (List ℕ) → AskedStep → Type 0
IsStepText words step = HasKeyword IsStepAfter words step

-- Says that the words write any number of steps, each followed by a slash.
abbrev pub IsPath : List (List ℕ) → List AskedStep → Type 0
IsPath words path = AreInTurn (IsSlashed IsStepText) words path

-- Says that the words after the keyword write the rest of the question.
abbrev pub IsQuestionAfter : Keyword → List (List ℕ) → Asking ℤ → Type 0
IsQuestionAfter Shape words question = IsBare AskShape words question
IsQuestionAfter Elements words question = IsBare AskElements words question
IsQuestionAfter Get words question = IsMade AskElement IsList words question
IsQuestionAfter First words question = IsBare AskFirst words question
IsQuestionAfter Last words question = IsBare AskLast words question
IsQuestionAfter Equal words question = IsMade AskEqual IsArray words question
IsQuestionAfter Count words question = IsMade AskCount (IsWord IsInt) words question
IsQuestionAfter Reshape words question = IsMade (λ x. AskReshaped x.1 x.0) IsOrderedList words question
IsQuestionAfter _ words question = ⊥

abbrev pub IsQuestion : List (List ℕ) → Asking ℤ → Type 0
IsQuestion words question = HasKeyword IsQuestionAfter words question

-- Says that the words after the keyword write the rest of the act.
abbrev pub IsActAfter : Keyword → List (List ℕ) → Acting ℤ → Type 0
IsActAfter Fill words act = IsMade Filling (IsWord IsInt) words act
IsActAfter Assign words act = IsMade Assigning IsArray words act
IsActAfter Set words act = IsMade (λ x. Setting x.0 x.1) (IsBoth IsList (IsWord IsInt)) words act
IsActAfter Swap words act = IsMade (λ x. Swapping x.0 x.1) (IsBoth IsList IsList) words act
IsActAfter _ words act = ⊥

abbrev pub IsAct : List (List ℕ) → Acting ℤ → Type 0
IsAct words act = HasKeyword IsActAfter words act

-- Says that the words after the keyword write the rest of the call.
abbrev pub IsCallAfter : Keyword → List (List ℕ) → Asked ℤ → Type 0
IsCallAfter Keep words call = IsMade Keeping IsStepText words call
IsCallAfter Ask words call = IsMade (λ x. About x.0 x.1) (IsBoth IsPath IsQuestion) words call
IsCallAfter Write words call = IsMade (λ x. Writing x.0 x.1) (IsBoth IsPath IsAct) words call
IsCallAfter Split words call = IsMade (λ x. SplitWriting x.0.0 x.0.1 x.1.0 x.1.1) (IsBoth IsPair (IsBoth (IsSlashed IsAct) IsAct)) words call
IsCallAfter Select words call = IsMade (λ x. Selecting x.0 x.1) (IsBoth (IsWord IsNat) IsList) words call
IsCallAfter RemoveIndex words call = IsMade (λ x. Removing x.0 x.1) IsPair words call
IsCallAfter Reshape words call = IsMade (λ x. Reshaping x.1 x.0) IsOrderedList words call
IsCallAfter Append words call = IsMade (λ x. Appending x.0 x.1) (IsBoth (IsWord IsNat) IsArray) words call
IsCallAfter Push words call = IsMade (λ x. Appending x.0 (with_axis_inserted x.0 x.1)) (IsBoth (IsWord IsNat) IsArray) words call
IsCallAfter Reserve words call = IsMade (λ x. Reserving x.0 x.1) IsPair words call
IsCallAfter Concat words call = IsMade (λ x. Concatenating x.0 x.1) (IsBoth (IsWord IsNat) (IsCounted IsArray)) words call
IsCallAfter Stack words call = IsMade (λ x. Stacking x.0 x.1) (IsBoth (IsWord IsNat) (IsCounted IsArray)) words call
IsCallAfter _ words call = ⊥

-- Says that the words of a line are this call.
abbrev pub IsCall : List (List ℕ) → Asked ℤ → Type 0
IsCall words call = HasKeyword IsCallAfter words call

-- Says that the keyword is `start`, and that the words after it write the array.
abbrev pub IsStartAfter : Keyword → List (List ℕ) → Meaning ℤ → Type 0
IsStartAfter Start words array = IsArray words array
IsStartAfter _ words array = ⊥

-- Says that the words of a line start a script with this array.
abbrev pub IsStart : List (List ℕ) → Meaning ℤ → Type 0
IsStart words array = HasKeyword IsStartAfter words array
