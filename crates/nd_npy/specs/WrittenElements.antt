-- The bytes that are written of elements, which an array or an iterator gives.
use Rattle.std.specs.Prelude.{◌≡◌, ℕ, List, ◌++◌, Option, All}
use denote.Ref.{Bor}
use Rattle.std.specs.List.{flat_map}
use Rattle.std.specs.Iterator.{YieldsFirstRef}
use Rattle.nd_npy_text.specs.declared.item_type.ByteOrder.{ByteOrder}
use Rattle.nd_npy.specs.declared.item.NpyItem as npy_item

-- Says that an iterator gives references to the elements that it has left by `rest`, one after another.
abbrev pub GivesElements : {I A : Type 0} → (I → Option (Bor A) → I → Type 0) → (I → List A) → Type 0
GivesElements {I} {A} gives rest = (now : I) (given : Option (Bor A)) (later : I) → gives now given later → YieldsFirstRef rest now given later

-- Says that the bytes of the elements were written after those that there were, and that the elements are values of
-- their type.
abbrev pub WritesAll : {A : Type 0} → npy_item.Ghosts A → ByteOrder → List A → List ℕ → List ℕ → Type 0
WritesAll item order elements old new = (new ≡ old ++ flat_map (item.bytes_of order) elements) × All item.fits elements
