-- Steps, questions, acts and calls on the arrays that hold the elements.
use Rattle.std.specs.Prelude.{◌≡◌, ℤ, List, None, Result, Bool, IsTrue}
use Rattle.nd_shape_and_slice.specs.declared.dimension.Dimension as dimension
use Rattle.nd_shape_and_slice.specs.declared.dimension.AxisCount as axis_count
use Rattle.nd_shape_and_slice.specs.declared.dimension.StrideList as stride_list
use Rattle.nd_array_core.specs.Data as data_trait
use Rattle.nd_array_core.specs.declared.base.array.ArrayBase.{ArrayBase}
use Rattle.nd_array_core.specs.ConcatenationAndSplit.{row_major_elements}
use Rattle.nd_array_core.specs.ArrayMeaning.{meaning_of, shape_of}
use Rattle.nd_run.specs.declared.replies.Reply.{Reply}
use Rattle.nd_read.specs.ScriptCalls.{Asking, Asked}
use Rattle.nd_run.specs.CallReplies.{said_reply, said_replies}
use Rattle.nd_steps.specs.StepTestsAndShapes.{first_failed}
use Rattle.nd_run.specs.OutcomesOfCalls.{question_tests, replies_in_memory, reply_or_refusal, IsCarriedOutOrLacks}
use Rattle.nd_run.specs.ScriptEndings.{Ending, Finished}

module _ {S D A T R : Type 0} {s : data_trait.Ghosts S A} {d : dimension.Ghosts D R} {n : axis_count.Ghosts D} {r : stride_list.Ghosts R} {t : stride_list.Ghosts T} where
  -- Says that the reply is that to a question about the array, or refuses it.
  abbrev pub IsReplyTo : (A → A → Bool) → Asking A → ArrayBase S D T A R s d n r t → Reply A → Type 0
  IsReplyTo eq question a reply = said_reply reply ≡ reply_or_refusal eq question (meaning_of a)

  -- Says that a reply can lack only memory: the question isn't refused, and its reply takes some.
  abbrev pub ReplyLacksOnlyMemory : Asking A → ArrayBase S D T A R s d n r t → Type 0
  ReplyLacksOnlyMemory question a = (first_failed (question_tests question (shape_of a)) ≡ None) × IsTrue (replies_in_memory question (meaning_of a))

  -- Says that the code carried out a call on the array `old`, which left `new`, or that the call can lack only
  -- memory.
  abbrev pub CarriesOut : {E : Type 0} → (A → A → Bool) → Asked A → ArrayBase S D T A R s d n r t → ArrayBase S D T A R s d n r t → Result (Reply A) E → Type 0
  CarriesOut eq call old new result = IsCarriedOutOrLacks eq call (meaning_of old) (meaning_of new) result

module _ {S D T R : Type 0} {s : data_trait.Ghosts S ℤ} {d : dimension.Ghosts D R} {n : axis_count.Ghosts D} {r : stride_list.Ghosts R} {t : stride_list.Ghosts T} where
  -- Returns the end of a run to its last call, with these replies and this array.
  abbrev pub whole_ending : List (Reply ℤ) → ArrayBase S D T ℤ R s d n r t → Ending
  whole_ending replies a = Finished (said_replies replies) (shape_of a) (row_major_elements (meaning_of a))
