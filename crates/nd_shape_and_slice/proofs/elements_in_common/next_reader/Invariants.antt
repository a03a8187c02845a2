use Rattle.nd_shape_and_slice.proofs.NamesFromOtherCrates.{◌≡◌, ◌≤◌, ◌-◌, length, drop}
use Rattle.nd_shape_and_slice.specs.CommonElementsOfSlices.{from_reader}
use Rattle.nd_shape_and_slice.proofs.elements_in_common.next_reader.Given as goal

abbrev pub invariant-loop-place : goal.invariant-loop-place
invariant-loop-place l = (from_reader (drop l.place l.elements) ≡ from_reader (drop l.from l.elements)) × (l.place ≤ length l.elements)

abbrev pub decreases-loop-place : goal.decreases-loop-place
decreases-loop-place l = length l.elements - l.place
