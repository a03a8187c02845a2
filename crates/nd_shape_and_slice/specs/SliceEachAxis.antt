-- Slicing each axis by what a closure returns for it, where the closure is called with one axis after another.
use Rattle.std.specs.Prelude.{◌≡◌, ℕ, ⊤, List, [], ◌∷◌, IsTrue}
use Rattle.nd_shape_and_slice.specs.declared.slice.Slice.{Slice}
use Rattle.nd_shape_and_slice.specs.declared.axis_descriptions.AxisDescription.{AxisDescription}
use Rattle.nd_shape_and_slice.specs.Slice.{fits_axis, sliced_length, sliced_from}

-- Returns the shape after each axis has been cut by its slice in the list.
abbrev pub each_sliced_shape : List ℕ → List Slice → List ℕ
each_sliced_shape ns [] = ns
each_sliced_shape [] (s ∷ ss) = []
each_sliced_shape (n ∷ ns) (s ∷ ss) = sliced_length n s ∷ each_sliced_shape ns ss

-- Returns the old index that a new index names, after each axis has been cut by its slice in the list.
abbrev pub each_sliced_index : List ℕ → List Slice → List ℕ → List ℕ
each_sliced_index ns [] is = is
each_sliced_index [] (s ∷ ss) is = []
each_sliced_index (n ∷ ns) (s ∷ ss) [] = []
each_sliced_index (n ∷ ns) (s ∷ ss) (i ∷ is) = sliced_from n s i ∷ each_sliced_index ns ss is

-- Says that a closure in the state `f` may be called with these axes in turn, and that each slice which it returns
-- fits its axis.
abbrev pub AnswersFit : {F : Type 0} → (F → AxisDescription → Type 0) → (F → AxisDescription → Slice → F → Type 0) → F → List AxisDescription → Type 0
AnswersFit pre step f [] = ⊤
AnswersFit {F} pre step f (d ∷ ds) = pre f d × ((s : Slice) (g : F) → step f d s g → IsTrue (fits_axis d.len s) × AnswersFit pre step g ds)

-- Says that a closure in the state `f`, called with these axes in turn, returned these slices and ended in the state
-- `last`.
abbrev pub AnswersAre : {F : Type 0} → (F → AxisDescription → Slice → F → Type 0) → F → List AxisDescription → List Slice → F → Type 0
AnswersAre step f [] [] last = f ≡ last
AnswersAre step f [] (s ∷ ss) last = ⊥
AnswersAre step f (d ∷ ds) [] last = ⊥
AnswersAre {F} step f (d ∷ ds) (s ∷ ss) last = (g : F) × step f d s g × AnswersAre step g ds ss last

-- Says that a closure in the state `f`, called with these axes in turn, returned slices for which `holds` is true.
abbrev pub AnswersGive : {F : Type 0} → (F → AxisDescription → Slice → F → Type 0) → F → List AxisDescription → (List Slice → Type 0) → Type 0
AnswersGive {F} step f axes holds = (slices : List Slice) × (last : F) × AnswersAre step f axes slices last × holds slices
