-- What each lane of an axis shows, and lanes whose first element is taken out.
use Rattle.std.specs.Prelude.{ℕ, ◌+◌, ◌%◌, ◌^◌, ◌∷◌, [], List, Option, Some, nat_eq, nat_lt, slice_index, if◌then◌else◌}
use Rattle.nd_array_core.specs.Prelude.{Meaning, AreFoldedBy, IsMappedBy, lanes_of}
use Rattle.nd_array_core.specs.SumsCountsAndExtrema.{value_or_0}

-- Returns the element of number `k` in a lane after its first element is set to 0.
abbrev pub zero_first : Meaning ℕ → ℕ → Option ℕ
zero_first m k = if nat_eq k 0 then (if nat_lt 0 (slice_index m.shape 0) then Some 0 else m.at (k ∷ [])) else m.at (k ∷ [])

-- Returns the first element of a lane, or 0 if there is none.
abbrev pub first_or_0 : Meaning ℕ → ℕ
first_or_0 m = if nat_lt 0 (slice_index m.shape 0) then value_or_0 (m.at (0 ∷ [])) else 0

-- Says that each index of the other axes has what `f` makes of the lane there.
abbrev pub ShowsOfLanes : {A B : Type 0} → (Meaning A → B) → Meaning A → ℕ → (List ℕ → Option B) → Type 0
ShowsOfLanes f m axis new = IsMappedBy f (lanes_of m axis).at new

-- Says that each index of the other axes has the sum of the numbers in the lane there, modulo 2 to the 64th.
abbrev pub SumsLanes : List ℕ → (List ℕ → Option ℕ) → ℕ → (List ℕ → Option ℕ) → Type 0
SumsLanes shape old axis new = AreFoldedBy (λ sum x. (sum + x) % 2 ^ 64) shape old axis 0 new
