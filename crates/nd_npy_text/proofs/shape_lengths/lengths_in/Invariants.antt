use Rattle.std.proofs.Common.{◌≡◌, ◌+◌, true}
use Rattle.nd_npy_text.specs.HeaderReading.{lengths_appended, lengths_in}
use Rattle.nd_npy_text.specs.DictEntries.{listed}
use Rattle.nd_npy_text.proofs.shape_lengths.lengths_in.Given as goal

-- what is left, read behind the lengths so far, is the whole
abbrev pub invariant-loop-shape : goal.invariant-loop-shape
invariant-loop-shape l = record {
  read : lengths_appended (listed l.shape) (lengths_in l.first l.left l.rest) ≡ lengths_in true 32 l.fn.text;
  count : l.shape.count + l.left ≡ 32;
}

abbrev pub decreases-loop-shape : goal.decreases-loop-shape
decreases-loop-shape l = l.left
