-- What printing does to a watched writer, and to the bytes that wait to be written to it.
use Rattle.std.specs.Prelude.{◌≡◌, false, ℕ, List, ◌++◌, Option, IsTrue}
use Rattle.std.specs.Io.KnownBytes.{Appends}
use Rattle.nd_text.specs.declared.watched_streams.Flushes.TheVariants.{Never}
use Rattle.nd_text.specs.declared.watched_streams.Watched.{Watched}
use Rattle.nd_text.specs.WatchedReadersAndWriters.{watched_inner, watched_failed, watched_retried, watched_flushes}

-- Says that the writer took the whole text, or only a beginning of it if a call failed. Once a call has failed, the
-- writer is left alone.
pub record TakesText {W : Type 0} (contents : W → Option (List ℕ)) (old new : Watched W) (text : List ℕ) : Type 0 where
  pub idle : IsTrue (watched_failed old) → new ≡ old
  pub whole_text : watched_failed new ≡ false → Appends (contents (watched_inner old)) (contents (watched_inner new)) text
  pub part : (front rest : List ℕ) × (text ≡ front ++ rest) × Appends (contents (watched_inner old)) (contents (watched_inner new)) front
  pub stops : watched_retried new ≡ watched_retried old

-- Says that the writer took the text as `TakesText` says, and wasn't flushed.
pub record Writes {W : Type 0} (contents : W → Option (List ℕ)) (old new : Watched W) (text : List ℕ) : Type 0 where
  pub takes : TakesText contents old new text
  pub unflushed : watched_flushes old ≡ Never → watched_flushes new ≡ Never

-- Says that the writer took a beginning of the bytes `held` that waited and the text after them, without a flush.
-- Unless a call failed, the rest waits now as `left`. Once a call has failed, the writer is left alone.
pub record Puts {W : Type 0} (contents : W → Option (List ℕ)) (old : Watched W) (held : List ℕ) (new : Watched W) (left : List ℕ) (text : List ℕ) : Type 0 where
  pub idle : IsTrue (watched_failed old) → new ≡ old
  pub part : (front rest : List ℕ) × (held ++ text ≡ front ++ rest) × Appends (contents (watched_inner old)) (contents (watched_inner new)) front × (watched_failed new ≡ false → rest ≡ left)
  pub unflushed : watched_flushes old ≡ Never → watched_flushes new ≡ Never
  pub stops : watched_retried new ≡ watched_retried old
