use Rattle.nd_shape_and_slice.proofs.NamesFromOtherCrates.{◌≡◌, ◌≤◌, take}
use Rattle.nd_shape_and_slice.specs.SliceInfo.{axes_kept}
use Rattle.nd_shape_and_slice.proofs.slice_info.axes_kept.Given as goal

abbrev pub invariant-loop-element : goal.invariant-loop-element
invariant-loop-element l = (l.kept ≡ axes_kept (take l.element-index l.elements)) × (l.kept ≤ l.element-index)
