use Rattle.nd_layout.proofs.NamesFromOtherCrates.{◌≡◌, ◌∷◌, drop}
use Rattle.nd_layout.specs.RanksAndReshapeStrides.{fastest_first, Regroups}
use Rattle.nd_layout.proofs.reshape.strides_that_serve.next_group.Given as goal

abbrev pub invariant-loop-next : goal.invariant-loop-next
invariant-loop-next l = record {
  at : l.group.next ≡ l.next;
  regroups : Regroups (drop l.from (fastest_first l.order l.lengths)) (drop l.from (fastest_first l.order l.strides)) (l.group.length ∷ drop l.next (fastest_first l.order l.lengths)) (l.group.step ∷ drop l.next (fastest_first l.order l.strides));
}
