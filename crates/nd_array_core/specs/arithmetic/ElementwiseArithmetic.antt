-- What arithmetic makes of an array: at each index an operation's result for its element and another one, or a number.
use Rattle.std.specs.Prelude.{◌≡◌, ℕ, List, Option, IfSome, IsTrue, Bool}
use Rattle.std.specs.Option.{option_map}
use Rattle.nd_shape_and_slice.specs.Broadcast.{broadcasts}
use Rattle.nd_shape_and_slice.specs.declared.dimension.Dimension as dimension
use Rattle.nd_shape_and_slice.specs.declared.dimension.AxisCount as axis_count
use Rattle.nd_shape_and_slice.specs.declared.dimension.StrideList as stride_list
use Rattle.nd_elements.specs.declared.storage.Data as data_trait
use Rattle.nd_array_core.specs.declared.base.array.ArrayBase.{ArrayBase}
use Rattle.nd_array_core.specs.ArrayMeaning.{shape_of, element_at}
use Rattle.nd_array_core.specs.base.ArrayWrites.{KeepsFrame}
use Rattle.nd_array_core.specs.elements.BroadcastPairs.{ShowsBoth, other_at, option_both}

module _ {S D T A R : Type 0} {s : data_trait.Ghosts S A} {d : dimension.Ghosts D R} {n : axis_count.Ghosts D} {r : stride_list.Ghosts R} {t : stride_list.Ghosts T} where
  -- Says that `c` has at each index what the function `h` gives of the element of `a`.
  abbrev pub ShowsEach : (A → A) → ArrayBase S D T A R s d n r t → ArrayBase S D T A R s d n r t → Type 0
  ShowsEach h a c = (i : List ℕ) → element_at c i ≡ option_map h (element_at a i)

  -- Says that `c` is `a` with each element replaced by what the function `h` gives of it, in the same places.
  abbrev pub BecomesEach : {F : Type 0} → (S → F) → (A → A) → ArrayBase S D T A R s d n r t → ArrayBase S D T A R s d n r t → Type 0
  BecomesEach frame h a c = (shape_of c ≡ shape_of a) × ShowsEach h a c × KeepsFrame frame a c

  module _ {Y V : Type 0} {o : data_trait.Ghosts Y A} {v : stride_list.Ghosts V} where
    -- Says that `c` has the shape of `a`, and at each index what the function `h` gives of the element of `a`.
    abbrev pub IsOfEach : (A → A) → ArrayBase S D T A R s d n r t → ArrayBase Y D V A R o d n r v → Type 0
    IsOfEach h a c = (shape_of c ≡ shape_of a) × ((i : List ℕ) → element_at c i ≡ option_map h (element_at a i))

  module _ {Z E U B X : Type 0} {z : data_trait.Ghosts Z B} {e : dimension.Ghosts E X} {k : axis_count.Ghosts E} {x : stride_list.Ghosts X} {u : stride_list.Ghosts U} where
    -- Says that `b` can be broadcast to the shape of `a`.
    abbrev pub CanMeet : ArrayBase S D T A R s d n r t → ArrayBase Z E U B X z e k x u → Type 0
    CanMeet a b = IsTrue (broadcasts (shape_of b) (shape_of a))

    -- Says that `c` is `a` with each element replaced by what the function `h` gives of it and of the element of `b`
    -- there, in the same places, where `b` is broadcast to the shape of `a`.
    abbrev pub BecomesBoth : {F : Type 0} → (S → F) → (A → B → A) → ArrayBase S D T A R s d n r t → ArrayBase Z E U B X z e k x u → ArrayBase S D T A R s d n r t → Type 0
    BecomesBoth frame h a b c = (shape_of c ≡ shape_of a) × ShowsBoth h a b c × KeepsFrame frame a c

    module _ {Y V : Type 0} {o : data_trait.Ghosts Y A} {v : stride_list.Ghosts V} where
      -- Says that `c` has the shape of `a`, and at each index what the function `h` gives of the elements of `a` and
      -- `b` there, where `b` is broadcast to the shape of `a`.
      abbrev pub IsOfBoth : (A → B → A) → ArrayBase S D T A R s d n r t → ArrayBase Z E U B X z e k x u → ArrayBase Y D V A R o d n r v → Type 0
      IsOfBoth h a b c = (shape_of c ≡ shape_of a) × ((i : List ℕ) → element_at c i ≡ option_both h (element_at a i) (other_at a b i))

-- Says that the test `is_divisor` holds of each element, so that it may be divided by.
abbrev pub EachIsDivisor : {A : Type 0} → (A → Bool) → (List ℕ → Option A) → Type 0
EachIsDivisor is_divisor at = (i : List ℕ) → IfSome (at i) (λ x. IsTrue (is_divisor x))
