-- Replies, apart from where they lie in memory.
use Rattle.std.specs.Prelude.{ℕ, Bool, List, map, Option, None, Some}
use Rattle.nd_steps.specs.declared.refusal_causes.Cause.{Cause}
use Rattle.nd_steps.specs.StepTestsAndShapes.{number_of}
use Rattle.nd_run.specs.declared.replies.Reply.{Reply}
use Rattle.nd_run.specs.declared.replies.Reply.TheVariants as replies

-- A reply, apart from where it lies in memory.
pub data Said (A : Type 0) : Type 0 where
  SaidDone : Said A
  SaidRefused : (cause : ℕ) → Said A
  SaidShape : (lengths : List ℕ) → Said A
  SaidElements : (lengths : List ℕ) (elements : List A) → Said A
  SaidElement : (element : Option A) → Said A
  SaidTruth : (truth : Bool) → Said A
  SaidNumber : (number : ℕ) → Said A

abbrev pub said_reply : {A : Type 0} → Reply A → Said A
said_reply replies.Done = SaidDone
said_reply (replies.Refused cause) = SaidRefused cause
said_reply (replies.Shape lengths) = SaidShape lengths.items
said_reply (replies.Elements lengths elements) = SaidElements lengths.items elements.items
said_reply (replies.Element element) = SaidElement element
said_reply (replies.Truth truth) = SaidTruth truth
said_reply (replies.Number number) = SaidNumber number

-- Returns what a list of replies says.
abbrev pub said_replies : {A : Type 0} → List (Reply A) → List (Said A)
said_replies replies = map said_reply replies

-- Returns the reply to a call that asks no question, where the cause against it is given, if there is one.
abbrev pub said_unless : {A : Type 0} → Option Cause → Said A
said_unless None = SaidDone
said_unless (Some cause) = SaidRefused (number_of cause)
