use Rattle.nd_layout.proofs.NamesFromOtherCrates.{refl, arith}
use Rattle.nd_layout.proofs.walk_lemmas.NextIndexOfWalk.{stands_first}
use Rattle.nd_layout.proofs.walk.walk_over_indexes.Walk.new.Goals as goal

pub invariant_of-result : goal.invariant_of-result
invariant_of-result c = record {
  as_many = c.requires.as_many;
  few = c.requires.few;
  checked = c.requires.checked;
  reach = rw c.of.ensures c.requires.reach;
  counted = c.size.ensures;
  within = omega arith;
  stands = λ some. rw c.of.ensures (stands_first c.args.first c.args.lengths.now c.args.strides.now _ c.requires.few refl some);
}
