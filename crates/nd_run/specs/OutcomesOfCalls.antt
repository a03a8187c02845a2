-- What a list of calls returns, and what it leaves of an array's meaning: a fold over the calls. No view, borrow or
-- storage occurs.
use Rattle.std.specs.Prelude.{◌≡◌, ◌<◌, ◌+◌, ◌^◌, ◌==◌, ℕ, nat_lt, nat_le, slice_index, slice_set, length, vec_capacity, Bool, None, is_some, true, false, not, ◌||◌, List, [], ◌∷◌, ◌++◌, Result, Ok, Err, ◌⊎◌, IsTrue, map, nat_eq}
use Rattle.nd_array_core.specs.ArrayMeaning.{Meaning, meaning_through}
use Rattle.nd_shape_and_slice.specs.FirstIndex.{first_index}
use Rattle.nd_array_core.specs.LastIndex.{last_index}
use Rattle.nd_array_core.specs.EqualityAndHashing.{equal_meanings}
use Rattle.nd_shape_and_slice.specs.Broadcast.{stretches}
use Rattle.nd_array_core.specs.ConcatenationAndSplit.{row_major_elements, concatenated, concatenated_shape, appended_shape}
use Rattle.nd_array_core.specs.LayoutLaws.{with_axis_inserted}
use Rattle.nd_array_core.specs.growth.Append.{elements_after}
use Rattle.nd_array_core.specs.growth.AppendEach.{lengths_along}
use Rattle.nd_array_core.specs.growth.ReservedAlongAxis.{added_elements}
use Rattle.nd_stacking.specs.ConcatenateAndStack.{followed_by, is_alike_but}
use Rattle.nd_read.specs.ScriptCalls.{AskedStep, Asking, AskShape, AskElements, AskElement, AskFirst, AskLast, AskEqual, AskCount, AskReshaped, Asked, Keeping, About, Writing, SplitWriting, Selecting, Removing, Reshaping, Appending, Reserving, Concatenating, Stacking}
use Rattle.nd_run.specs.CallReplies.{Said, SaidDone, SaidRefused, SaidShape, SaidElements, SaidElement, SaidTruth, SaidNumber, said_reply, said_replies}
use Rattle.std.specs.Cmp.Lexicographic.{pointwise}
use Rattle.std.specs.List.{count_by, insert, list_all}
use Rattle.nd_shape_and_slice.specs.ShapesAndIndexOrders.{nonzero_product, size_of}
use Rattle.nd_array_core.specs.along.SelectedCoordinates.{selected_shape, selected_index}
use Rattle.nd_array_core.specs.along.RemovedIndex.{removed_shape, removed_index}
use Rattle.nd_array_core.specs.reshape.ServingStrides.{regrouped_meaning}
use Rattle.nd_steps.specs.StepTestsAndShapes.{Test, first_failed, number_of, has_axis, size_test, has_coordinate, tests_of, keep_tests, unless, shape_along}
use Rattle.nd_steps.specs.StepListResults.{step_meaning}
use Rattle.nd_steps.specs.ReservedCapacity.{reserve_tests}
use Rattle.nd_steps.specs.WritesThroughViewsAndSplits.{path_tests, meaning_at_end, write_tests, written, split_tests, split_written, clones}
use Rattle.nd_run.specs.declared.replies.Reply.{Reply}
use Rattle.nd_run.specs.declared.run_calls.RunFault.{RunFault}
use Rattle.nd_run.specs.declared.run_calls.RunFault.TheVariants as faults
use Rattle.nd_steps.specs.declared.refusal_causes.Cause.{Cause}
use Rattle.nd_steps.specs.declared.refusal_causes.Cause.TheVariants as causes

-- Returns the reply to a question, where `eq` compares elements.
abbrev pub question_reply : {A : Type 0} → (A → A → Bool) → Asking A → Meaning A → Said A
question_reply eq AskShape m = SaidShape m.shape
question_reply eq AskElements m = SaidElements m.shape (row_major_elements m)
question_reply eq (AskElement index) m = SaidElement (m.at index)
question_reply eq AskFirst m = SaidElement (m.at (first_index m.shape))
question_reply eq AskLast m = SaidElement (m.at (last_index m.shape))
question_reply eq (AskEqual other) m = SaidTruth (equal_meanings eq m other)
question_reply eq (AskCount x) m = SaidNumber (count_by (λ y. eq y x) (row_major_elements m))
question_reply eq (AskReshaped to order) m = SaidElements to (row_major_elements (regrouped_meaning order to m))

-- ---- A call: its tests in order, what it does if they all pass, and whether it may lack memory then

-- Returns the tests of the lengths `to` for the elements of an array of the lengths `ns`.
abbrev pub reshape_tests : List ℕ → List ℕ → List Test
reshape_tests to ns =
    (nat_le (length to) 32, causes.TooManyAxes) ∷ (nat_lt (nonzero_product to) (2 ^ 63), causes.Shape)
    ∷ (size_of to == size_of ns, causes.Shape) ∷ []

-- Returns the tests of a question on an array of these lengths.
abbrev pub question_tests : {A : Type 0} → Asking A → List ℕ → List Test
question_tests (AskReshaped to order) ns = reshape_tests to ns
question_tests _ ns = []

-- Returns whether the reply to a question takes memory. The reply of a single element takes some if there is such
-- an element.
abbrev pub replies_in_memory : {A : Type 0} → Asking A → Meaning A → Bool
replies_in_memory (AskElement index) m = is_some (m.at index)
replies_in_memory AskFirst m = is_some (m.at (first_index m.shape))
replies_in_memory AskLast m = is_some (m.at (last_index m.shape))
replies_in_memory (AskEqual other) m = false
replies_in_memory (AskCount x) m = false
replies_in_memory _ m = true

-- Returns the tests of a path, and then those of the question at its end.
abbrev pub ask_tests : {A : Type 0} → List AskedStep → Asking A → List ℕ → List Test
ask_tests path question ns = path_tests tests_of path ns ++ question_tests question (shape_along path ns)

-- Returns the tests of choosing coordinates of an axis.
abbrev pub select_tests : ℕ → List ℕ → List ℕ → List Test
select_tests axis indexes ns =
    has_axis axis ns ∷ (list_all (λ k. nat_lt k (slice_index ns axis)) indexes, causes.Index)
    ∷ size_test (selected_shape ns axis indexes) ∷ []

-- Returns the tests of putting an array of the lengths `ms` after one of the lengths `ns` along an axis: it has as
-- many axes, and each of its lengths but that of the axis is 1 or equals the other's.
abbrev pub append_tests : ℕ → List ℕ → List ℕ → List Test
append_tests axis ms ns =
    (nat_lt 0 (length ns), causes.Shape) ∷ has_axis axis ns ∷ (stretches ms (appended_shape ns ms axis), causes.Shape)
    ∷ size_test (concatenated_shape ns ms axis) ∷ []

-- Returns the length of an axis after other arrays are put after one of the lengths `ns` along it.
abbrev pub lengths_with : {A : Type 0} → ℕ → List (Meaning A) → List ℕ → ℕ
lengths_with axis others ns = slice_index ns axis + lengths_along axis others

-- Returns the lengths after other arrays are put after one of the lengths `ns` along an axis.
abbrev pub joined_shape : {A : Type 0} → ℕ → List (Meaning A) → List ℕ → List ℕ
joined_shape axis others ns = slice_set ns axis (lengths_with axis others ns)

-- Returns the tests of putting other arrays after one of the lengths `ns` along an axis: each has as many axes, and
-- the same lengths but along the axis.
abbrev pub concatenate_tests : {A : Type 0} → ℕ → List (Meaning A) → List ℕ → List Test
concatenate_tests axis others ns =
    has_axis axis ns ∷ (list_all (λ n. is_alike_but axis ns n.shape) others, causes.Shape)
    ∷ size_test (joined_shape axis others ns) ∷ []

-- Returns the array `m` and the others stacked along a new axis.
abbrev pub stack_of : {A : Type 0} → ℕ → Meaning A → List (Meaning A) → Meaning A
stack_of axis m others = followed_by axis (with_axis_inserted axis m) (map (with_axis_inserted axis) others)

-- Returns the tests of stacking arrays along a new axis: each has the same lengths.
abbrev pub stack_tests : {A : Type 0} → ℕ → List (Meaning A) → List ℕ → List Test
stack_tests axis others ns =
    (nat_le axis (length ns), causes.Axis) ∷ (nat_lt (length ns) 32, causes.TooManyAxes)
    ∷ (list_all (λ n. pointwise nat_eq n.shape ns) others, causes.Shape) ∷ size_test (insert ns axis (length others + 1)) ∷ []

-- Returns the tests of a call on an array of these lengths, in order.
abbrev pub tests_for : {A : Type 0} → Asked A → List ℕ → List Test
tests_for (Keeping step) ns = keep_tests step ns
tests_for (About path question) ns = ask_tests path question ns
tests_for (Writing path act) ns = write_tests path act ns
tests_for (SplitWriting axis index first second) ns = split_tests axis index first second ns
tests_for (Selecting axis indexes) ns = select_tests axis indexes ns
tests_for (Removing axis index) ns = has_axis axis ns ∷ has_coordinate axis index ns ∷ []
tests_for (Reshaping to order) ns = reshape_tests to ns
tests_for (Appending axis other) ns = append_tests axis other.shape ns
tests_for (Reserving axis additional) ns = reserve_tests axis additional ns
tests_for (Concatenating axis others) ns = concatenate_tests axis others ns
tests_for (Stacking axis others) ns = stack_tests axis others ns

-- Returns the reply to a call that isn't refused, and the array after it.
abbrev pub reply_and_array : {A : Type 0} → (A → A → Bool) → Asked A → Meaning A → Said A × Meaning A
reply_and_array eq (Keeping step) m = (SaidDone, step_meaning step m)
reply_and_array eq (About path question) m = (question_reply eq question (meaning_at_end path m), m)
reply_and_array eq (Writing path act) m = (SaidDone, written path act m)
reply_and_array eq (SplitWriting axis index first second) m = (SaidDone, split_written axis index first second m)
reply_and_array eq (Selecting axis indexes) m = (SaidDone, meaning_through (selected_shape m.shape axis indexes) (selected_index axis indexes) m)
reply_and_array eq (Removing axis index) m = (SaidDone, meaning_through (removed_shape m.shape axis) (removed_index axis index) m)
reply_and_array eq (Reshaping to order) m = (SaidDone, regrouped_meaning order to m)
reply_and_array eq (Appending axis other) m = (SaidDone, concatenated axis m other)
reply_and_array eq (Reserving axis additional) m = (SaidDone, m)
reply_and_array eq (Concatenating axis others) m = (SaidDone, followed_by axis m others)
reply_and_array eq (Stacking axis others) m = (SaidDone, stack_of axis m others)

-- Returns whether a call that isn't refused takes memory. Choosing coordinates takes some if the result has elements,
-- appending if the array brings one, and reserving if the room is for at least one.
abbrev pub takes_memory : {A : Type 0} → Asked A → Meaning A → Bool
takes_memory (Keeping step) m = false
takes_memory (About path question) m = replies_in_memory question (meaning_at_end path m)
takes_memory (Writing path act) m = clones act
takes_memory (SplitWriting axis index first second) m = clones first || clones second
takes_memory (Selecting axis indexes) m = not (size_of (selected_shape m.shape axis indexes) == 0)
takes_memory (Removing axis index) m = false
takes_memory (Reshaping to order) m = true
takes_memory (Appending axis other) m = not (elements_after m.shape other.shape axis == 0)
takes_memory (Reserving axis additional) m = not (added_elements m.shape axis additional == 0)
takes_memory (Concatenating axis others) m = true
takes_memory (Stacking axis others) m = true

-- ---- What comes of a call

-- Returns the reply to a call and the array after it, or the first cause against the call.
abbrev pub outcome : {A : Type 0} → (A → A → Bool) → Asked A → Meaning A → Result (Said A × Meaning A) Cause
outcome eq call m = unless (first_failed (tests_for call m.shape)) (reply_and_array eq call m)

-- Returns the reply and the array after a call. A refusal is told by its number, and leaves the array as it was.
abbrev pub given_by : {A : Type 0} → Result (Said A × Meaning A) Cause → Meaning A → Said A × Meaning A
given_by (Ok given) m = given
given_by (Err cause) m = (SaidRefused (number_of cause), m)

-- Returns the reply to a question about the array itself.
abbrev pub reply_or_refusal : {A : Type 0} → (A → A → Bool) → Asking A → Meaning A → Said A
reply_or_refusal eq question m = (given_by (unless (first_failed (question_tests question m.shape)) (question_reply eq question m, m)) m).0

-- Returns the reply to a call.
abbrev pub reply_to : {A : Type 0} → (A → A → Bool) → Asked A → Meaning A → Said A
reply_to eq call m = (given_by (outcome eq call m) m).0

-- Returns the array after a call.
abbrev pub meaning_after : {A : Type 0} → (A → A → Bool) → Asked A → Meaning A → Meaning A
meaning_after eq call m = (given_by (outcome eq call m) m).1

-- Says that a call can lack only memory: it isn't refused, and it takes some.
abbrev pub LacksOnlyMemory : {A : Type 0} → Asked A → Meaning A → Type 0
LacksOnlyMemory call m = (first_failed (tests_for call m.shape) ≡ None) × IsTrue (takes_memory call m)

-- Says that the code carried out a call: its reply and the array `n` that it left of `m` are those of the call.
abbrev pub IsCarriedOut : {A : Type 0} → (A → A → Bool) → Asked A → Meaning A → Meaning A → Reply A → Type 0
IsCarriedOut {A = A} eq call m n reply = ◌≡◌ {A = Said A × Meaning A} (said_reply reply, n) (given_by (outcome eq call m) m)

-- Says that the code carried out a call, or that it failed and the call can lack only memory.
abbrev pub IsCarriedOutOrLacks : {A E : Type 0} → (A → A → Bool) → Asked A → Meaning A → Meaning A → Result (Reply A) E → Type 0
IsCarriedOutOrLacks eq call m n (Ok reply) = IsCarriedOut eq call m n reply
IsCarriedOutOrLacks eq call m n (Err error) = LacksOnlyMemory call m

-- Returns the replies to all calls, each of which finds the array that the one before left.
abbrev pub replies_to : {A : Type 0} → (A → A → Bool) → List (Asked A) → Meaning A → List (Said A)
replies_to eq [] m = []
replies_to eq (call ∷ calls) m = reply_to eq call m ∷ replies_to eq calls (meaning_after eq call m)

-- Returns the array after all calls.
abbrev pub end_of : {A : Type 0} → (A → A → Bool) → List (Asked A) → Meaning A → Meaning A
end_of eq [] m = m
end_of eq (call ∷ calls) m = end_of eq calls (meaning_after eq call m)

-- Says that the code's replies are those to the calls.
abbrev pub AreRepliesTo : {A : Type 0} → (A → A → Bool) → List (Asked A) → Meaning A → List (Reply A) → Type 0
AreRepliesTo eq calls m replies = said_replies replies ≡ replies_to eq calls m

-- Says that these are the replies to the first calls, and that the next call can lack only memory.
abbrev pub StopsAt : {A : Type 0} → (A → A → Bool) → List (Asked A) → Meaning A → List (Said A) → Type 0
StopsAt {A = A} eq calls m replies =
    (front : List (Asked A)) × (call : Asked A) × (rest : List (Asked A)) × (calls ≡ front ++ (call ∷ rest))
    × (replies ≡ replies_to eq front m) × LacksOnlyMemory call (end_of eq front m)

-- Says that a run may stop with these replies for lack of memory: they are the replies to the first calls, and the
-- next call can lack only memory; or they are none and there are calls, as the list of replies was refused.
abbrev pub StopsBefore : {A : Type 0} → (A → A → Bool) → List (Asked A) → Meaning A → List (Said A) → Type 0
StopsBefore eq calls m replies = ((0 < length calls) × (replies ≡ [])) ⊎ StopsAt eq calls m replies

-- Returns the replies of a run that stopped.
abbrev pub replies_before : {A : Type 0} → RunFault A → List (Said A)
replies_before (faults.Memory replies) = said_replies replies.items

-- Says that a run stopped at a call that can lack only memory, with the replies to the calls before it.
abbrev pub StoppedAt : {A : Type 0} → (A → A → Bool) → List (Asked A) → Meaning A → RunFault A → Type 0
StoppedAt eq calls m fault = StopsAt eq calls m (replies_before fault)

-- Says that a run stopped at a call that can lack only memory, with the replies to the calls before it; or before the
-- first call, as the list of replies was refused.
abbrev pub StoppedBefore : {A : Type 0} → (A → A → Bool) → List (Asked A) → Meaning A → RunFault A → Type 0
StoppedBefore eq calls m fault = StopsBefore eq calls m (replies_before fault)

-- Returns the capacity of the list of replies of a run that stopped.
abbrev pub replies_room : {A : Type 0} → RunFault A → ℕ
replies_room (faults.Memory replies) = vec_capacity replies

-- Says that the list of replies, if it has capacity, has the reply to each call before the one that was refused
-- memory.
abbrev pub KeepsReplies : {A : Type 0} → (A → A → Bool) → List (Asked A) → Meaning A → RunFault A → Type 0
KeepsReplies eq calls m fault = 0 < replies_room fault → StoppedAt eq calls m fault
