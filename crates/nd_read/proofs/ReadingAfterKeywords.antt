-- A row for each keyword: what is read after it is what is written there.
use Rattle.std.proofs.Common.{◌≡◌, ℕ, ◌≤◌, ◌<◌, true, false, List, [], ◌∷◌, ◌++◌, length, length-append, ℤ, Option, Some, refl, ap, ◌∙◌, arith}
use Rattle.nd_text.specs.declared.script_keywords.Keyword.{Keyword}
use Rattle.nd_text.specs.declared.script_keywords.Keyword.TheVariants.{Start, Keep, Ask, Write, Split, Cut, Slice as SliceWord, Collapse, Index, Permute, Reverse, SwapAxes, Invert, Insert, Remove, Squeeze, Diag, Broadcast, Part, Coordinate, New, Shape, Elements, Get, First, Last, Equal, Count, Select, RemoveIndex, Reshape, Append, Push, Reserve, Concat, Stack, Row, Column, Fill, Assign, Set, Swap}
use Rattle.nd_shape_and_slice.specs.declared.slice_info.SliceInfoElem.TheVariants.{Slice as Cutting, Index as At, NewAxis}
use Rattle.nd_shape_and_slice.specs.declared.shape_builder.Order.TheVariants.{RowMajor, ColumnMajor}
use Rattle.nd_array_core.specs.LayoutLaws.{with_axis_inserted}
use Rattle.nd_array_core.specs.ArrayMeaning.{Meaning}
use Rattle.nd_read.specs.ScriptCalls.{AskedStep, SlicedAxis, Sliced, Collapsed, Indexed, Permuted, Reversed, Exchanged, Inverted, Inserted, Removed, Squeezed, Diagonal, BroadcastTo, Asking, AskShape, AskElements, AskElement, AskFirst, AskLast, AskEqual, AskCount, AskReshaped, Acting, Filling, Assigning, Setting, Swapping, Asked, Keeping, About, Writing, SplitWriting, Selecting, Removing, Reshaping, Appending, Reserving, Concatenating, Stacking}
use Rattle.nd_text.specs.KeywordSpelling.{spelling, is_step}
use Rattle.nd_read.specs.LineGrammar.{IsBoth, HasKeyword, IsSlashed, IsPair, IsOrderAfter, IsOrderedList, IsEnd, IsSlice, IsElementAfter, IsElement, IsStepAfter, IsStepText, IsPath, IsQuestionAfter, IsActAfter, IsAct, IsCallAfter, IsCall, IsStartAfter, IsStart}
use Rattle.nd_read.specs.LineReaders.{both_at, slashed_at, named_at, pair_at, order_by, ordered_list_at, slice_end_of, slice_at, element_by, slice_element_at, step_by, step_at, begins_step, path_at, question_by, act_by, act_at, call_by, call_at, call_of, start_word_by, start_of}
use Rattle.nd_text.proofs.KeywordSpelling.{known}
use Rattle.nd_read.proofs.SliceEnds.{end_takes, end_again}
use Rattle.nd_read.proofs.ArraysReadAndWritten.{nat_reads, int_reads, list_reads, array_reads}
use Rattle.nd_read.proofs.ReadersMatchGrammar.{Reads, few_parts, regrouped, word_reads, bare_reads, none_reads, both_takes, both_words, both_reads, made_reads, many_take, many_again, counted_reads, named_reads, slashed_reads, line_takes, line_again}

pair_reads : {n : ℕ} → Reads n pair_at IsPair
pair_reads = both_reads nat_reads nat_reads

order_rows : {n : ℕ} (k : Keyword) → Reads n (order_by k) (IsOrderAfter k)
order_rows Row = bare_reads RowMajor
order_rows Column = bare_reads ColumnMajor
order_rows _ = none_reads

ordered_list_reads : {n : ℕ} → Reads n ordered_list_at IsOrderedList
ordered_list_reads = both_reads (named_reads order_rows (λ words x h. h)) list_reads

slice_reads : {n : ℕ} → Reads n slice_at IsSlice
slice_reads = made_reads (λ x. record { start = x.0; end = x.1.0; step = x.1.1 }) (both_reads int_reads (both_reads (word_reads slice_end_of IsEnd end_takes end_again) int_reads))

element_rows : {n : ℕ} (k : Keyword) → Reads n (element_by k) (IsElementAfter k)
element_rows Part = made_reads (λ s. Cutting s.start s.end s.step) slice_reads
element_rows Coordinate = made_reads At int_reads
element_rows New = bare_reads NewAxis
element_rows _ = none_reads

element_reads : {n : ℕ} → Reads n slice_element_at IsElement
element_reads = named_reads element_rows (λ words x h. h)

-- ---- steps

step_rows : {n : ℕ} (k : Keyword) → Reads n (step_by k) (IsStepAfter k)
step_rows Cut = made_reads (λ x. SlicedAxis x.0 x.1) (both_reads nat_reads slice_reads)
step_rows SliceWord = made_reads Sliced (counted_reads element_reads)
step_rows Collapse = made_reads (λ x. Collapsed x.0 x.1) pair_reads
step_rows Index = made_reads (λ x. Indexed x.0 x.1) pair_reads
step_rows Permute = made_reads Permuted list_reads
step_rows Reverse = bare_reads Reversed
step_rows SwapAxes = made_reads (λ x. Exchanged x.0 x.1) pair_reads
step_rows Invert = made_reads Inverted nat_reads
step_rows Insert = made_reads Inserted nat_reads
step_rows Remove = made_reads Removed nat_reads
step_rows Squeeze = bare_reads Squeezed
step_rows Diag = bare_reads Diagonal
step_rows Broadcast = made_reads BroadcastTo list_reads
step_rows _ = none_reads

pub step_reads : {n : ℕ} → Reads n step_at IsStepText
step_reads = named_reads step_rows (λ words x h. h)

-- ---- what stands after a path begins no step

begins : (k : Keyword) (rest : List (List ℕ)) → begins_step (spelling k ∷ rest) ≡ is_step k
begins k rest = ap is_step (known k)

step_named : (k : Keyword) (words : List (List ℕ)) (step : AskedStep) → IsStepAfter k words step → is_step k ≡ true
step_named Cut words step h = refl
step_named SliceWord words step h = refl
step_named Collapse words step h = refl
step_named Index words step h = refl
step_named Permute words step h = refl
step_named Reverse words step h = refl
step_named SwapAxes words step h = refl
step_named Invert words step h = refl
step_named Insert words step h = refl
step_named Remove words step h = refl
step_named Squeeze words step h = refl
step_named Diag words step h = refl
step_named Broadcast words step h = refl
step_named _ words step h = absurd h

leg_begins : (front : List (List ℕ)) (step : AskedStep) (rest : List (List ℕ)) → IsSlashed IsStepText front step → begins_step (front ++ rest) ≡ true
leg_begins front step rest h =
    let name = h.2.3 in
    regrouped begins_step front h.2.0 h.2.1 rest h.2.2 ∙ ap (λ (ws : List (List ℕ)). begins_step (ws ++ (h.2.1 ++ rest))) name.2 ∙ begins name.0 (name.1 ++ (h.2.1 ++ rest)) ∙ step_named name.0 name.1 h.0.0 name.3

leg_words : (front : List (List ℕ)) (step : AskedStep) → IsSlashed IsStepText front step → 0 < length front
leg_words front step h = omega (arith, ap (length {A = List ℕ}) h.2.2, length-append h.2.0 h.2.1, ap (length {A = List ℕ}) h.2.3.2)

path_short : (front : List (List ℕ)) (path : List AskedStep) → IsPath front path → length path ≤ length front
path_short front [] h = omega arith
path_short front (step ∷ path) h = omega (arith, ap (length {A = List ℕ}) h.2, length-append h.0 h.1, leg_words h.0 step h.3, path_short h.1 path h.4)

-- a path, and then something that begins no step
path_then : {X : Type 0} {n : ℕ} (row : Keyword → List (List ℕ) → Option (X × List (List ℕ))) (After : Keyword → List (List ℕ) → X → Type 0)
    → Reads n (named_at row) (HasKeyword After) → ((k : Keyword) (words : List (List ℕ)) (x : X) → After k words x → is_step k ≡ false) → Reads n (both_at (path_at n) (named_at row)) (IsBoth IsPath (HasKeyword After))
path_then {X} {n} row After r no_step =
    let legs = slashed_reads {n = n} step_reads in record {
      takes = both_takes (path_at n) (named_at row) IsPath (HasKeyword After) (many_take begins_step (slashed_at step_at) (IsSlashed IsStepText) legs.takes n) r.takes;
      again = λ words x rest few h. (
          let each = few_parts n words h.0 h.1 h.2 few in
          let stop : begins_step (h.1 ++ rest) ≡ false = ap (λ (ws : List (List ℕ)). begins_step (ws ++ rest)) h.4.2 ∙ begins h.4.0 (h.4.1 ++ rest) ∙ no_step h.4.0 h.4.1 x.1 h.4.3 in
          let most : length x.0 ≤ n = omega (arith, each.0, path_short h.0 x.0 h.3) in
          both_words (path_at n) (named_at row) words h.0 h.1 x rest h.2 (many_again begins_step (slashed_at step_at) (IsSlashed IsStepText) n legs.again leg_begins n h.0 x.0 (h.1 ++ rest) each.0 most (λ lt. stop) h.3) (r.again h.1 x.1 rest each.1 h.4));
    }

-- ---- questions and acts

question_rows : {n : ℕ} (k : Keyword) → Reads n (question_by k) (IsQuestionAfter k)
question_rows Shape = bare_reads AskShape
question_rows Elements = bare_reads AskElements
question_rows Get = made_reads AskElement list_reads
question_rows First = bare_reads AskFirst
question_rows Last = bare_reads AskLast
question_rows Equal = made_reads AskEqual array_reads
question_rows Count = made_reads AskCount int_reads
question_rows Reshape = made_reads (λ x. AskReshaped x.1 x.0) ordered_list_reads
question_rows _ = none_reads

no_step_question : (k : Keyword) (words : List (List ℕ)) (question : Asking ℤ) → IsQuestionAfter k words question → is_step k ≡ false
no_step_question Shape words question h = refl
no_step_question Elements words question h = refl
no_step_question Get words question h = refl
no_step_question First words question h = refl
no_step_question Last words question h = refl
no_step_question Equal words question h = refl
no_step_question Count words question h = refl
no_step_question Reshape words question h = refl
no_step_question _ words question h = absurd h

act_rows : {n : ℕ} (k : Keyword) → Reads n (act_by k) (IsActAfter k)
act_rows Fill = made_reads Filling int_reads
act_rows Assign = made_reads Assigning array_reads
act_rows Set = made_reads (λ x. Setting x.0 x.1) (both_reads list_reads int_reads)
act_rows Swap = made_reads (λ x. Swapping x.0 x.1) (both_reads list_reads list_reads)
act_rows _ = none_reads

act_reads : {n : ℕ} → Reads n act_at IsAct
act_reads = named_reads act_rows (λ words x h. h)

no_step_act : (k : Keyword) (words : List (List ℕ)) (act : Acting ℤ) → IsActAfter k words act → is_step k ≡ false
no_step_act Fill words act h = refl
no_step_act Assign words act h = refl
no_step_act Set words act h = refl
no_step_act Swap words act h = refl
no_step_act _ words act h = absurd h

-- ---- calls

call_rows : {n : ℕ} (k : Keyword) → Reads n (call_by n k) (IsCallAfter k)
call_rows Keep = made_reads Keeping step_reads
call_rows Ask = made_reads (λ x. About x.0 x.1) (path_then question_by IsQuestionAfter (named_reads question_rows (λ words x h. h)) no_step_question)
call_rows Write = made_reads (λ x. Writing x.0 x.1) (path_then act_by IsActAfter act_reads no_step_act)
call_rows Split = made_reads (λ x. SplitWriting x.0.0 x.0.1 x.1.0 x.1.1) (both_reads pair_reads (both_reads (slashed_reads act_reads) act_reads))
call_rows Select = made_reads (λ x. Selecting x.0 x.1) (both_reads nat_reads list_reads)
call_rows RemoveIndex = made_reads (λ x. Removing x.0 x.1) pair_reads
call_rows Reshape = made_reads (λ x. Reshaping x.1 x.0) ordered_list_reads
call_rows Append = made_reads (λ x. Appending x.0 x.1) (both_reads nat_reads array_reads)
call_rows Push = made_reads (λ x. Appending x.0 (with_axis_inserted x.0 x.1)) (both_reads nat_reads array_reads)
call_rows Reserve = made_reads (λ x. Reserving x.0 x.1) pair_reads
call_rows Concat = made_reads (λ x. Concatenating x.0 x.1) (both_reads nat_reads (counted_reads array_reads))
call_rows Stack = made_reads (λ x. Stacking x.0 x.1) (both_reads nat_reads (counted_reads array_reads))
call_rows _ = none_reads

call_reads : {n : ℕ} → Reads n (call_at n) IsCall
call_reads = named_reads call_rows (λ words x h. h)

-- the whole line is the call
pub call_takes : (n : ℕ) (words : List (List ℕ)) (call : Asked ℤ) → call_of n words ≡ Some call → IsCall words call
unfolding call_of
call_takes n words call e = line_takes (call_reads {n = n}) words call e

pub call_again : (n : ℕ) (words : List (List ℕ)) (call : Asked ℤ) → length words ≤ n → IsCall words call → call_of n words ≡ Some call
unfolding call_of
call_again n words call few is = line_again (call_reads {n = n}) words call few is

-- ---- the start

start_rows : {n : ℕ} (k : Keyword) → Reads n (start_word_by k) (IsStartAfter k)
start_rows Start = array_reads
start_rows _ = none_reads

pub start_takes : (words : List (List ℕ)) (array : Meaning ℤ) → start_of words ≡ Some array → IsStart words array
unfolding start_of
start_takes words array e = line_takes (named_reads {n = 0} start_rows (λ ws x h. h)) words array e

pub start_again : (words : List (List ℕ)) (array : Meaning ℤ) → IsStart words array → start_of words ≡ Some array
unfolding start_of
start_again words array is = line_again (named_reads {n = length words} start_rows (λ ws x h. h)) words array (omega arith) is
