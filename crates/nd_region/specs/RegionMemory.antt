-- What a region owns: a borrow of the elements at its places, which are of the type `R`. The borrow has one name, under
-- which the whole list of elements is known, and a mask says which places are in the region.
use Rattle.std.specs.Prelude.{ℕ, ◌*◌, ◌^◌, List, [], ◌∷◌, Bool, true, false, length}
use base.Fraction.{full_share}
use base.Stored.{coded_list}
use base.Fml.{Lft, GName, Fml, ftrue, fsep, feq, flt, fobs, fres, fbor}
use types.SemTy.{SemTy, Body}
use prog.Memory.{size}
use denote.RattleType.{RattleType}
use denote.Memory.{lone}
use denote.RawPtr.{Ptr, lies_at, in_block, ◌+ₚ◌}
use denote.Sharing.{nothing, said, beside, within}
use denote.Struct.Lending.{lent_at}

-- The size of an element in bytes.
abbrev pub bytes_of : RattleType → ℕ
bytes_of R = size (lone R.mir)

module _ (R : RattleType) where
  -- Owns the element `x` at the address `p` if the flag says that the place is in the region, and else nothing.
  abbrev pub spot : Bool → Ptr → R.Denot → Fml
  spot true p x = lies_at R full_share p x
  spot false p x = ftrue

  -- Owns the elements at contiguous places from `p` on, those alone whose flag in the mask is true.
  abbrev pub spots : Ptr → List R.Denot → List Bool → Fml
  spots p [] fs = ftrue
  spots p (x ∷ xs) [] = ftrue
  spots p (x ∷ xs) (f ∷ fs) = fsep (spot f p x) (spots (p +ₚ bytes_of R) xs fs)

  -- The type of what is borrowed: a list of as many elements as the mask `fs` has flags, of which it owns those at the
  -- places from `p` on whose flag is true.
  abbrev pub Spots : Ptr → List Bool → SemTy
  Spots p fs = record { rep = List R.Denot; coded = coded_list R.coded; size = 0; own_at = λ xs _ _. fsep (feq ℕ (length xs) (length fs)) (spots p xs fs) }

  -- The borrow named `γ`, for the lifetime `κ`, of the places in the mask from `p` on, where the list of elements is
  -- `xs`.
  abbrev pub loan : Lft → Ptr → GName → List R.Denot → List Bool → Fml
  loan κ p γ xs fs = fsep (fobs γ ((coded_list R.coded).code xs)) (fbor κ (Body (Spots p fs) 0 0 γ))

  -- The right of a region to the places in the mask `fs`: it has a flag for each of the `n` places from `p` on, these
  -- lie in one block and have fewer than 2^63 bytes, and `loan` borrows them.
  abbrev pub region : Lft → Ptr → ℕ → GName → List R.Denot → List Bool → Fml
  region κ p n γ xs fs = fsep (flt (n * bytes_of R) (2 ^ 63)) (fsep (feq ℕ (length fs) n) (in_block p (loan κ p γ xs fs)))

  -- Says that the borrow named `γ` ends with the elements `xs`.
  abbrev pub ends_as : GName → List R.Denot → Fml
  ends_as γ xs = fres γ ((coded_list R.coded).code xs)

  -- Shows the element `x` at the address `p` if the flag says that the place is in the region, and else nothing.
  abbrev pub spot_lent : Bool → Ptr → R.Denot → Lft → Fml
  spot_lent true p x = lent_at R p x
  spot_lent false p x = nothing

  -- Shows the elements at contiguous places from `p` on, those alone whose flag in the mask is true.
  abbrev pub spots_lent : Ptr → List R.Denot → List Bool → Lft → Fml
  spots_lent p [] fs = nothing
  spots_lent p (x ∷ xs) [] = nothing
  spots_lent p (x ∷ xs) (f ∷ fs) = beside (spot_lent f p x) (spots_lent (p +ₚ bytes_of R) xs fs)

  -- Says what a `&` to a region shows: each element at a place in the mask, for as long as the borrow for `κ` lasts.
  abbrev pub region_lent : Lft → Ptr → ℕ → List R.Denot → List Bool → Lft → Fml
  region_lent κ p n xs fs = beside (said (flt (n * bytes_of R) (2 ^ 63))) (beside (said (feq ℕ (length fs) n)) (beside (said (in_block p ftrue)) (within κ (spots_lent p xs fs))))
