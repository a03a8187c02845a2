-- What running a script means: the fold of its calls from the array that it starts with.
use Rattle.std.specs.Prelude.{◌≡◌, ℕ, ℤ, List}
use Rattle.std.specs.Ordering.{int_eq}
use Rattle.nd_run.specs.CallReplies.{Said}
use Rattle.nd_run.specs.OutcomesOfCalls.{replies_to, end_of, StopsBefore}
use Rattle.nd_array_core.specs.ConcatenationAndSplit.{row_major_elements}
use Rattle.nd_read.specs.ScriptReading.{AskedScript}

-- Says that these are the replies to the calls of the script, and the lengths and elements of the array that they
-- leave.
abbrev pub Runs : AskedScript → List (Said ℤ) → List ℕ → List ℤ → Type 0
Runs script replies lengths elements =
    (replies ≡ replies_to int_eq script.asked script.start)
    × (lengths ≡ (end_of int_eq script.asked script.start).shape)
    × (elements ≡ row_major_elements (end_of int_eq script.asked script.start))

-- Says that these replies may come before memory is refused.
abbrev pub Stops : AskedScript → List (Said ℤ) → Type 0
Stops script replies = StopsBefore int_eq script.asked script.start replies
