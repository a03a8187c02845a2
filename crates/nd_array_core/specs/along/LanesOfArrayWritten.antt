-- Lanes of an axis of an array, handed to closures to be written, each lane once, in an order that is free.
use Rattle.std.specs.Prelude.{◌≡◌, ℕ, List, Option, slice_index, IsTrue}
use Rattle.std.specs.Borrow.{MutBor}
use Rattle.std.specs.Fn.{Mut}
use Rattle.std.specs.List.{remove}
use Rattle.nd_shape_and_slice.specs.ShapesAndIndexOrders.{in_box}
use Rattle.nd_shape_and_slice.specs.declared.dimension.Dimension as dimension
use Rattle.nd_shape_and_slice.specs.declared.dimension.AxisCount as axis_count
use Rattle.nd_shape_and_slice.specs.declared.dimension.StrideList as stride_list
use Rattle.nd_elements.specs.declared.storage.Data as data_trait
use Rattle.nd_array_core.specs.declared.base.array.ArrayBase.{ArrayBase}
use Rattle.nd_array_core.specs.ArrayMeaning.{meaning_of}
use Rattle.nd_elements.specs.declared.along.lane_mut.LaneMut.{LaneMut}
use Rattle.nd_elements.specs.ShapeAndElements.{Meaning}
use Rattle.nd_array_core.specs.along.AxisMaps.{lane_of, lanes_of}
use Rattle.nd_elements.specs.elements.ElementMaps.{AskableOfAll, HasAnswersOfAll, IsMappedBy}
use Rattle.nd_elements.specs.elements.ElementMapsMut.{paired_at}
pub use Rattle.nd_elements.specs.along.LanesWritten.{AnswersHandedLanesBy, IsSameLane, KeepsLanes, LeavesLane, LeavesLanesBy, MayBeHandedLane, held_at, lane_held, lane_len, line_meaning}

-- Says that `new` gives at each index what the function `h` gives of the old lane through the index and the index's
-- coordinate on the axis `a`.
abbrev pub AreLeftBy : {A : Type 0} → (Meaning A → ℕ → Option A) → Meaning A → ℕ → (List ℕ → Option A) → Type 0
AreLeftBy h old a new = (i : List ℕ) → IsTrue (in_box old.shape i) → new i ≡ h (lane_of old a (remove i a)) (slice_index i a)

-- Closures that are handed the lanes of an axis to be written, and answer something for each lane.
module _ {F A B : Type 0} (g : Mut F (MutBor (LaneMut A) × Unit {0}) (B × (MutBor (LaneMut A) × Unit {0}))) where
  -- Says that the closure may be called for each lane of the axis `a`, whichever lanes came before.
  abbrev pub HandableLanes : Meaning A → ℕ → F → Type 0
  HandableLanes m a f = AskableOfAll (LeavesLane g) (MayBeHandedLane g) (lanes_of m a) f

  module _ {S D T R : Type 0} {s : data_trait.Ghosts S A} {d : dimension.Ghosts D R} {n : axis_count.Ghosts D} {r : stride_list.Ghosts R} {t : stride_list.Ghosts T} where
    -- Says that the closure was called once for each lane of the axis `a` of `old`: `new` has in the lane what the call
    -- left there, and `answers` has at the index of the other axes what it answered.
    abbrev pub HandsOutLanes : ℕ → F → ArrayBase S D T A R s d n r t → ArrayBase S D T A R s d n r t → (List ℕ → Option B) → Type 0
    HandsOutLanes a f old new answers = HasAnswersOfAll (LeavesLane g) (lanes_of (meaning_of old) a) f (paired_at (lanes_of (meaning_of new) a).at answers)

  -- Says that, if the closure leaves at each coordinate of a lane what a function `h` gives of the lane and the
  -- coordinate, and stays as it is, then `new` gives the values of `h`.
  abbrev pub LeavesLanesAlike : ℕ → F → Meaning A → (List ℕ → Option A) → Type 0
  LeavesLanesAlike a f old new = (h : Meaning A → ℕ → Option A) → LeavesLanesBy g h f → AreLeftBy h old a new

  -- Says that, if the closure answers what a function `h` gives of each lane and stays as it is, then `answers` gives
  -- the values of `h` at the indexes of the other axes.
  abbrev pub AnswersLanesAlike : ℕ → F → Meaning A → (List ℕ → Option B) → Type 0
  AnswersLanesAlike a f old answers = (h : Meaning A → B) → AnswersHandedLanesBy g h f → IsMappedBy h (lanes_of old a).at answers
