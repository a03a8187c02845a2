-- The calls of a script, apart from where they lie in memory.
use Rattle.std.specs.Prelude.{ℕ, List, map, Box}
use Rattle.nd_shape_and_slice.specs.declared.slice.Slice.{Slice}
use Rattle.nd_shape_and_slice.specs.declared.slice_info.SliceInfoElem.{SliceInfoElem}
use Rattle.nd_shape_and_slice.specs.declared.shape_builder.Order.{Order}
use Rattle.nd_array_core.specs.ArrayMeaning.{Meaning}
use Rattle.nd_array_core.specs.LayoutLaws.{with_axis_inserted}
use Rattle.nd_read.specs.declared.script_call_types.Step.{Step}
use Rattle.nd_read.specs.declared.script_call_types.Step.TheVariants as steps
use Rattle.nd_read.specs.declared.script_call_types.Question.{Question}
use Rattle.nd_read.specs.declared.script_call_types.Question.TheVariants as questions
use Rattle.nd_read.specs.declared.script_call_types.Act.{Act}
use Rattle.nd_read.specs.declared.script_call_types.Act.TheVariants as acts
use Rattle.nd_read.specs.declared.script_call_types.Call.{Call}
use Rattle.nd_read.specs.declared.script_call_types.Call.TheVariants as calls

-- A step from an array to a view of it. `SlicedAxis` slices one axis and `Sliced` slices by a list. `Collapsed` keeps
-- one coordinate of an axis; `Indexed` also takes the axis out. `Permuted` puts the axes in another order, `Reversed`
-- in the opposite one, and `Exchanged` swaps two of them. `Inverted` counts an axis from its far end, `Inserted` puts
-- in an axis of length 1, and `Removed` takes an axis out. `Squeezed` takes out the axes of length 1, `Diagonal`
-- makes the diagonal, and `BroadcastTo` makes a larger shape.
pub data AskedStep : Type 0 where
  SlicedAxis : (axis : ℕ) (slice : Slice) → AskedStep
  Sliced : (elements : List SliceInfoElem) → AskedStep
  Collapsed : (axis index : ℕ) → AskedStep
  Indexed : (axis index : ℕ) → AskedStep
  Permuted : (axes : List ℕ) → AskedStep
  Reversed : AskedStep
  Exchanged : (a b : ℕ) → AskedStep
  Inverted : (axis : ℕ) → AskedStep
  Inserted : (axis : ℕ) → AskedStep
  Removed : (axis : ℕ) → AskedStep
  Squeezed : AskedStep
  Diagonal : AskedStep
  BroadcastTo : (lengths : List ℕ) → AskedStep

-- A question about an array: its lengths, all elements, the element of an index, the first element, the last element,
-- whether it equals another array, how many elements equal a given one, or the elements under other lengths.
pub data Asking (A : Type 0) : Type 0 where
  AskShape : Asking A
  AskElements : Asking A
  AskElement : (index : List ℕ) → Asking A
  AskFirst : Asking A
  AskLast : Asking A
  AskEqual : (other : Meaning A) → Asking A
  AskCount : (element : A) → Asking A
  AskReshaped : (lengths : List ℕ) (order : Order) → Asking A

-- An act on an array: `Filling` sets each element to one value, `Assigning` sets it to that of another array at its
-- index, `Setting` sets the element of an index, and `Swapping` swaps the elements of two indexes.
pub data Acting (A : Type 0) : Type 0 where
  Filling : (value : A) → Acting A
  Assigning : (other : Meaning A) → Acting A
  Setting : (index : List ℕ) (value : A) → Acting A
  Swapping : (a b : List ℕ) → Acting A

-- A call. `Keeping` puts the result of a step in the array's place, `About` asks a question at the end of a path,
-- `Writing` does an act there, and `SplitWriting` does an act on each part of the array split before a coordinate.
-- `Selecting` chooses coordinates of an axis, `Removing` takes one out, and `Reshaping` gives other lengths, where
-- each element keeps its rank in an order. `Appending` puts an array after this one along an axis, `Reserving` makes
-- room for more lengths of an axis, `Concatenating` puts arrays after this one along an axis, and `Stacking` stacks
-- them with it along a new axis.
pub data Asked (A : Type 0) : Type 0 where
  Keeping : (step : AskedStep) → Asked A
  About : (path : List AskedStep) (question : Asking A) → Asked A
  Writing : (path : List AskedStep) (act : Acting A) → Asked A
  SplitWriting : (axis index : ℕ) (first second : Acting A) → Asked A
  Selecting : (axis : ℕ) (indexes : List ℕ) → Asked A
  Removing : (axis index : ℕ) → Asked A
  Reshaping : (lengths : List ℕ) (order : Order) → Asked A
  Appending : (axis : ℕ) (other : Meaning A) → Asked A
  Reserving : (axis additional : ℕ) → Asked A
  Concatenating : (axis : ℕ) (others : List (Meaning A)) → Asked A
  Stacking : (axis : ℕ) (others : List (Meaning A)) → Asked A

abbrev pub asked_step : Step → AskedStep
asked_step (steps.SliceAxis axis slice) = SlicedAxis axis slice
asked_step (steps.Slice elements) = Sliced elements.items
asked_step (steps.Collapse axis index) = Collapsed axis index
asked_step (steps.IndexAxis axis index) = Indexed axis index
asked_step (steps.Permute axes) = Permuted axes.items
asked_step steps.Reverse = Reversed
asked_step (steps.SwapAxes a b) = Exchanged a b
asked_step (steps.Invert axis) = Inverted axis
asked_step (steps.InsertAxis axis) = Inserted axis
asked_step (steps.RemoveAxis axis) = Removed axis
asked_step steps.Squeeze = Squeezed
asked_step steps.Diag = Diagonal
asked_step (steps.Broadcast lengths) = BroadcastTo lengths.items

-- Applies `of` to what lies in a box.
abbrev pub boxed : {X Y Z : Type 0} → (X → Y) → Box X Z → Y
boxed of x = of x.value

-- Calls that hold arrays, where `held` gives the meaning of what holds one.
module _ {A T : Type 0} (held : T → Meaning A) where
  abbrev pub acting : Act A T → Acting A
  acting (acts.Fill value) = Filling value
  acting (acts.Assign other) = Assigning (held other)
  acting (acts.Set index value) = Setting index.items value
  acting (acts.Swap a b) = Swapping a.items b.items

  -- Returns both acts of a pair.
  abbrev pub acting_both : Act A T × Act A T → Acting A × Acting A
  acting_both both = (acting both.0, acting both.1)

  -- Returns the call that splits the array and does an act on each of the two parts.
  abbrev pub asked_split : ℕ → ℕ → Act A T → Act A T → Asked A
  asked_split axis index first second = SplitWriting axis index (acting first) (acting second)

  abbrev pub asking : Question A T → Asking A
  asking questions.Shape = AskShape
  asking questions.Elements = AskElements
  asking (questions.Get index) = AskElement index.items
  asking questions.First = AskFirst
  asking questions.Last = AskLast
  asking (questions.EqualTo other) = AskEqual (held other)
  asking (questions.Count element) = AskCount element
  asking (questions.ToShape lengths order) = AskReshaped lengths.items order

  abbrev pub asked_call : Call A T → Asked A
  asked_call (calls.Keep step) = Keeping (asked_step step)
  asked_call (calls.Ask path question) = About (map asked_step path.items) (asking question)
  asked_call (calls.Write path act) = Writing (map asked_step path.items) (acting act)
  asked_call (calls.SplitWrite axis index first second) = asked_split axis index first second
  asked_call (calls.Select axis indexes) = Selecting axis indexes.items
  asked_call (calls.RemoveIndex axis index) = Removing axis index
  asked_call (calls.Reshape lengths order) = Reshaping lengths.items order
  asked_call (calls.Append axis other) = Appending axis (held other)
  asked_call (calls.Push axis other) = Appending axis (with_axis_inserted axis (held other))
  asked_call (calls.Reserve axis additional) = Reserving axis additional
  asked_call (calls.Concatenate axis others) = Concatenating axis (map held others.items)
  asked_call (calls.Stack axis others) = Stacking axis (map held others.items)

  -- Returns the calls of a list.
  abbrev pub asked_calls : List (Call A T) → List (Asked A)
  asked_calls calls = map asked_call calls
