-- What contracts see of a watched reader or writer, and what counts as a failed write.
use Rattle.std.specs.Prelude.{◌≡◌, ℕ, Bool, true, false, ◌&&◌, not, ◌==◌, List, length, Option, Result, Ok, Err, IsTrue}
use Rattle.std.specs.Io.KnownBytes.{ReadConsumes, WriteAppends}
use Rattle.nd_text.specs.declared.watched_streams.Flushes.{Flushes}
use Rattle.nd_text.specs.declared.watched_streams.Flushes.TheVariants.{Never, AtEnd, Other}
use Rattle.nd_text.specs.declared.watched_streams.Watched.{Watched}

-- Returns the reader or writer inside.
abbrev pub watched_inner : {T : Type 0} → Watched T → T
watched_inner w = w.inner

-- Returns whether some call failed.
abbrev pub watched_failed : {T : Type 0} → Watched T → Bool
watched_failed w = w.failed

-- Returns whether a call came after one that had failed.
abbrev pub watched_retried : {T : Type 0} → Watched T → Bool
watched_retried w = w.retried

-- Returns which flushes the writer was asked for.
abbrev pub watched_flushes : {T : Type 0} → Watched T → Flushes
watched_flushes w = w.flushes

-- Returns which flushes the writer was asked for, after a write.
abbrev pub after_write : Flushes → Flushes
after_write Never = Never
after_write AtEnd = Other
after_write Other = Other

-- Returns which flushes the writer was asked for, after another flush; the first argument says whether a call failed
-- before it.
abbrev pub after_flush : Bool → Flushes → Flushes
after_flush true flushes = Other
after_flush false Never = AtEnd
after_flush false AtEnd = Other
after_flush false Other = Other

-- Returns whether the writer was flushed once, after the last write and after no failed call; or not at all, if a
-- call failed.
abbrev pub is_flushed_once : Flushes → Bool → Bool
is_flushed_once Never failed = failed
is_flushed_once AtEnd failed = true
is_flushed_once Other failed = false

-- Says that a writer that wasn't flushed before is flushed once now, or not at all if a call failed.
abbrev pub GetsFlushed : {T : Type 0} → Watched T → Watched T → Type 0
GetsFlushed old new = watched_flushes old ≡ Never → IsTrue (is_flushed_once (watched_flushes new) (watched_failed new))

-- Returns whether a write failed: its result is an error, or it took no byte of a piece that isn't empty.
abbrev pub write_failed : {E : Type 0} → Result ℕ E → List ℕ → Bool
write_failed (Ok n) piece = (n == 0) && not (length piece == 0)
write_failed (Err e) piece = true

-- Says that a read took its bytes from the reader inside.
abbrev pub ReadsFromInner : {R E : Type 0} → (R → Option (List ℕ)) → Watched R → Watched R → Result ℕ E → List ℕ → Type 0
ReadsFromInner remaining old new result bytes = ReadConsumes (remaining (watched_inner old)) (remaining (watched_inner new)) result bytes

-- Says that a write put its bytes after those of the writer inside.
abbrev pub WritesToInner : {W E : Type 0} → (W → Option (List ℕ)) → Watched W → Watched W → Result ℕ E → List ℕ → Type 0
WritesToInner contents old new result bytes = WriteAppends (contents (watched_inner old)) (contents (watched_inner new)) result bytes
