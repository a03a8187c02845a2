use Rattle.std.proofs.Common.{◌≡◌, ◌∷◌, map, take}
use Rattle.nd_array_core.specs.ArrayMeaning.{meaning_of}
use Rattle.nd_array_core.specs.growth.AppendEach.{meanings_of}
use Rattle.nd_run.proofs.concatenate_and_stack.views_of.Given as goal

abbrev pub invariant-loop-other : goal.invariant-loop-other
invariant-loop-other g l = meanings_of l.views.items ≡ meaning_of l.array ∷ map g.T.HoldsArray.held (take l.other-index l.others)
