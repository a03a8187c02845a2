-- What a closure answers for the elements of two arrays at each index, where the second is broadcast to the shape of
-- the first.
use Rattle.std.specs.Prelude.{◌≡◌, ℕ, List, Option}
use Rattle.std.specs.Borrow.{Bor}
use Rattle.std.specs.Fn.{Mut}
use Rattle.nd_shape_and_slice.specs.declared.dimension.Dimension as dimension
use Rattle.nd_shape_and_slice.specs.declared.dimension.AxisCount as axis_count
use Rattle.nd_shape_and_slice.specs.declared.dimension.StrideList as stride_list
use Rattle.nd_elements.specs.declared.storage.Data as data_trait
use Rattle.nd_array_core.specs.declared.base.array.ArrayBase.{ArrayBase}
use Rattle.nd_array_core.specs.ArrayMeaning.{meaning_of, element_at}
use Rattle.nd_array_core.specs.elements.BroadcastPairs.{option_both, other_at}
pub use Rattle.nd_elements.specs.elements.PairFolds.{FoldablePairs, FoldsPair, FoldsPairsAlike, FoldsPairsBy, FoldsPairsInOrder, TakesPair}
pub use Rattle.nd_elements.specs.elements.PairMaps.{AnswersPair, AnswersPairsBy, AskableOfPairs, HasAnswersOfPairs, MayBeShownPair, VisitsPairs, paired_with}

module _
    {S D T A R : Type 0} {s : data_trait.Ghosts S A} {d : dimension.Ghosts D R} {n : axis_count.Ghosts D} {r : stride_list.Ghosts R} {t : stride_list.Ghosts T}
    {Z E U B X : Type 0} {z : data_trait.Ghosts Z B} {e : dimension.Ghosts E X} {k : axis_count.Ghosts E} {x : stride_list.Ghosts X} {u : stride_list.Ghosts U} where
  -- Says that `at` gives at each index what the function `h` gives of the elements of `a` and `b` there.
  abbrev pub IsMappedFromBoth : {C : Type 0} → (A → B → C) → ArrayBase S D T A R s d n r t → ArrayBase Z E U B X z e k x u → (List ℕ → Option C) → Type 0
  IsMappedFromBoth h a b at = (i : List ℕ) → at i ≡ option_both h (element_at a i) (other_at a b i)

  module _ {F C : Type 0} (g : Mut F (Bor A × (Bor B × Unit {0})) C) where
    -- Says that, whichever elements of `a` were shown before, each with that of `b`, the closure may be called for the
    -- next pair.
    abbrev pub AskableOfBoth : ArrayBase S D T A R s d n r t → ArrayBase Z E U B X z e k x u → F → Type 0
    AskableOfBoth a b f = AskableOfPairs g (meaning_of a) (other_at a b) f

    -- Says that `at` gives at each index what the closure answered for the elements of `a` and `b` there, with one call
    -- for each index.
    abbrev pub HasAnswersOfBoth : ArrayBase S D T A R s d n r t → ArrayBase Z E U B X z e k x u → F → (List ℕ → Option C) → Type 0
    HasAnswersOfBoth a b f at = HasAnswersOfPairs g (meaning_of a) (other_at a b) f at

    -- Says that the closure was shown the elements of `a` and `b` at each index, once.
    abbrev pub VisitsBoth : ArrayBase S D T A R s d n r t → ArrayBase Z E U B X z e k x u → F → Type 0
    VisitsBoth a b f = VisitsPairs g (meaning_of a) (other_at a b) f

  -- Closures that are shown a total and the elements of `a` and `b`, in row-major order, and answer the next total.
  module _ {F Q : Type 0} (g : Mut F (Q × (Bor A × (Bor B × Unit {0}))) Q) where
    -- Says that, after the calls for all pairs before it, the closure may be called for each pair, from the total
    -- `init` on.
    abbrev pub FoldableOverBoth : ArrayBase S D T A R s d n r t → ArrayBase Z E U B X z e k x u → F → Q → Type 0
    FoldableOverBoth a b f init = FoldablePairs g (meaning_of a) (other_at a b) f init

    -- Says that the calls for all pairs, one after the other in row-major order, led from the total `init` to `total`.
    abbrev pub FoldsBoth : ArrayBase S D T A R s d n r t → ArrayBase Z E U B X z e k x u → F → Q → Q → Type 0
    FoldsBoth a b f init total = FoldsPairsInOrder g (meaning_of a) (other_at a b) f init total

    -- Says that, if the closure answers what a function `h` gives of the total and both elements and stays as it is,
    -- then `total` is the fold by `h` over both arrays' elements in row-major order.
    abbrev pub FoldsBothAlike : ArrayBase S D T A R s d n r t → ArrayBase Z E U B X z e k x u → F → Q → Q → Type 0
    FoldsBothAlike a b f init total = FoldsPairsAlike g (meaning_of a) (other_at a b) f init total
