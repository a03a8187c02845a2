-- Views that are lent to a task, before it and after it. Here `v` is the view as it came, and `w` is the same view
-- once its storage is back.
use Rattle.std.specs.Prelude.{◌≡◌, List, ℕ, Some, Result, OnOk, OnErr}
use Rattle.nd_array_core.specs.ArrayInStorage.{PlacedArray}
use Rattle.nd_array_core.specs.Prelude.{Meaning, inside, element_placed, broadcast_at, IsOldOrOf, MayLackForClone}

module _ {A : Type 0} where
  -- Says that each index of the view has the value `x` afterwards.
  abbrev pub IsAll : PlacedArray A → A → PlacedArray A → Type 0
  IsAll v x w = (i : List ℕ) → element_placed w i ≡ inside v.placed_shape i (Some x)

  -- Says that each index of the view has afterwards the element of `source` broadcast to its shape. If a clone is
  -- refused, each index has that element or its old one, and a clone of one of those elements may be refused.
  abbrev pub EndsPasted : {E : Type 0} → {T : Type 0} → (A → Type 0) → Meaning A → PlacedArray A → PlacedArray A → Result T E → Type 0
  EndsPasted is_infallible source v w answer =
      OnOk answer ((i : List ℕ) → element_placed w i ≡ broadcast_at v.placed_shape source i)
      × OnErr answer (IsOldOrOf (element_placed v) (broadcast_at v.placed_shape source) (element_placed w))
      × OnErr answer (MayLackForClone is_infallible (broadcast_at v.placed_shape source))
