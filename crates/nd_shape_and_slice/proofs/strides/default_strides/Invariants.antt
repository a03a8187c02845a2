use Rattle.nd_shape_and_slice.proofs.NamesFromOtherCrates.{◌≡◌, ◌≤◌, ℕ, ℤ, List, length, drop}
use Rattle.nd_shape_and_slice.specs.ShapesAndIndexOrders.{size_of}
use Rattle.nd_shape_and_slice.specs.DefaultAndFortranStrides.{row_strides}
use Rattle.nd_shape_and_slice.proofs.strides.default_strides.Given as goal

-- the axes from this one on have their strides, and the step is the product of their lengths
pub record IsFilledFrom (axis step : ℕ) (lengths : List ℕ) (strides : List ℤ) : Type 0 where
  pub within : axis ≤ length lengths
  pub as_many : length strides ≡ length lengths
  pub step_is : step ≡ size_of (drop axis lengths)
  pub filled : drop axis strides ≡ row_strides (drop axis lengths)

abbrev pub invariant-loop-axis : goal.invariant-loop-axis
invariant-loop-axis g l = IsFilledFrom l.axis l.step l.lengths (g.D.Strides.StrideList.strides_of l.strides)

abbrev pub decreases-loop-axis : goal.decreases-loop-axis
decreases-loop-axis g l = l.axis
