use Rattle.std.proofs.Common.{◌≡◌}
use Rattle.nd_array_core.specs.ArrayMeaning.{meaning_of}
use Rattle.uses_nd_array_core_numbers.specs.WindowMaximaAndPlanes.{greatest_from}
use Rattle.uses_nd_array_core_numbers.proofs.products_windows_and_counts.greatest_of_window.Given as goal

abbrev pub invariant-loop-k : goal.invariant-loop-k
invariant-loop-k g l = l.most ≡ greatest_from l.k (meaning_of l.list) l.from
