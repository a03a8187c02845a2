-- How reading all input can fail, and what reading a part of it gives.
use Rattle.std.specs.Prelude.{◌≡◌, ◌≤◌, ◌⊎◌, ℕ, Bool, true, false, List, ◌++◌, length, Option, Result, Ok, Err}
use Rattle.std.specs.Io.KnownBytes.{Consumes, IsAtEnd}
use Rattle.nd_text.specs.declared.watched_streams.Watched.{Watched}
use Rattle.nd_text.specs.WatchedReadersAndWriters.{watched_inner}
use Rattle.nd_text.specs.declared.read_input.InputError.{InputError}
use Rattle.nd_text.specs.declared.read_input.InputError.TheVariants.{Failed, Memory}

-- Returns whether the result is the failure of a read.
abbrev pub is_read_failure : {X : Type 0} → Result X InputError → Bool
is_read_failure (Ok x) = false
is_read_failure (Err Failed) = true
is_read_failure (Err Memory) = false

-- Says that what the reader gave was put after the bytes.
abbrev pub ReadsOn : {R : Type 0} → (R → Option (List ℕ)) → Watched R → Watched R → List ℕ → List ℕ → Type 0
ReadsOn remaining input input' bytes bytes' = (piece : List ℕ) × (bytes' ≡ bytes ++ piece) × Consumes (remaining (watched_inner input)) (remaining (watched_inner input')) piece

-- Says that there are so many bytes, or that the reader is at its end.
abbrev pub IsFilled : {R : Type 0} → (R → Option (List ℕ)) → Watched R → List ℕ → ℕ → Type 0
IsFilled remaining input bytes size = (size ≤ length bytes) ⊎ IsAtEnd (remaining (watched_inner input))
