use Rattle.nd_layout.proofs.NamesFromOtherCrates.{◌≡◌, ℕ, pos, place_of}
use Rattle.nd_layout.specs.ValidMemoryPlaces.{ReachesUsizes}
use Rattle.nd_layout.proofs.walk_lemmas.NextIndexOfWalk.{IsSteppingBack}
use Rattle.nd_layout.proofs.walk.walk_over_indexes.advanced.Given as goal

abbrev pub invariant-loop-axis : goal.invariant-loop-axis
invariant-loop-axis l =
    (first : ℕ)
    × ReachesUsizes first l.fn.lengths l.fn.strides
    × (pos l.fn.place ≡ place_of first l.fn.strides l.fn.index)
    × IsSteppingBack first l.fn.lengths l.fn.strides l.fn.index l.fn.place l.axis l.place l.index

abbrev pub decreases-loop-axis : goal.decreases-loop-axis
decreases-loop-axis l = l.axis
