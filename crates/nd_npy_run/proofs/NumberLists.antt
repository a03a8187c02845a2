-- Lists of numbers at the front of words.
use Rattle.std.proofs.Common.{◌≡◌, ℕ, ◌-◌, List, [], Option, Some, None, Result, refl, arith}
use Rattle.nd_text.specs.DecimalNumerals.{nat_of}
use Rattle.nd_read.specs.declared.reader.read_errors.LineFault.{LineFault}
use Rattle.nd_read.proofs.ItemReadingLoop.{with_front}
use Rattle.nd_read.specs.LineReaders.{Gives, first_as, counted_at, list_at, list_may_lack, many_at, many_may_lack}

-- in front of what is read there is nothing
nothing : (read : Option (List ℕ × List (List ℕ))) → with_front [] read ≡ read
nothing None = refl
nothing (Some x) = refl

pub nothing_before : (front : List ℕ) (count : ℕ) (words : List (List ℕ)) → front ≡ [] → with_front front (many_at (first_as nat_of) (count - 0) words) ≡ many_at (first_as nat_of) count words
nothing_before front count words none = let all : count - 0 ≡ count = omega arith in rw (none, all) (nothing (many_at (first_as nat_of) count words))

-- a count, and then as many numbers
pub list_given : {X : Type 0} (view : X → List ℕ × List (List ℕ)) (words rest : List (List ℕ)) (count : ℕ) (result : Result X LineFault) → first_as nat_of words ≡ Some (count, rest) → Gives (many_may_lack count rest) view result (many_at (first_as nat_of) count rest) → Gives (list_may_lack words) view result (list_at words)
unfolding counted_at
list_given view words rest count result read given = rw read given

pub no_list : (words : List (List ℕ)) → first_as nat_of words ≡ None → list_at words ≡ None
unfolding counted_at
no_list words none = rw none refl
