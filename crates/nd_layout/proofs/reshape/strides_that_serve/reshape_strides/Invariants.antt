use Rattle.nd_layout.proofs.NamesFromOtherCrates.{◌≡◌, ◌≤◌, ◌*◌, ◌∷◌, ◌++◌, drop, take, length, size_of}
use Rattle.nd_layout.specs.RanksAndReshapeStrides.{fastest_first, Regroups}
use Rattle.nd_layout.specs.ReshapeAxisGroups.{IsClosed}
use Rattle.nd_layout.proofs.reshape_lemmas.StrideSearchOverLists.{RestsBelow}
use Rattle.nd_layout.proofs.reshape.strides_that_serve.reshape_strides.Given as goal

abbrev pub invariant-loop-nth : goal.invariant-loop-nth
invariant-loop-nth l = record {
  on : l.group.next ≤ length l.lengths;
  closed : IsClosed l.group (fastest_first l.order l.lengths) (fastest_first l.order l.strides);
  size : l.group.length * size_of (drop l.group.next (fastest_first l.order l.lengths)) ≡ size_of (drop l.nth (fastest_first l.order l.new));
  regroups : Regroups (fastest_first l.order l.lengths) (fastest_first l.order l.strides) (take l.nth (fastest_first l.order l.new) ++ (l.group.length ∷ drop l.group.next (fastest_first l.order l.lengths))) (take l.nth (fastest_first l.order l.out) ++ (l.group.step ∷ drop l.group.next (fastest_first l.order l.strides)));
  rests : RestsBelow l.nth (fastest_first l.order l.new) (fastest_first l.order l.out);
}
