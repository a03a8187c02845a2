use Rattle.nd_array_core.specs.ArrayMeaning.{meaning_of}
use Rattle.nd_array_core.proofs.layout_lemmas.ElementsUnderNewLayout.{step_holds}
use Rattle.nd_array_core.proofs.NamesFromOtherCrates.{step_separated}
use Rattle.nd_array_core.proofs.layout.axes.ArrayBase+S+D.permute_axes.Goals as goal

pub permute_axes-requires : goal.permute_axes-requires
unfolding meaning_of
permute_axes-requires g c = rw (c.slice.ensures.lengths, c.into_dimension-order.ensures) c.requires

pub invariant_of-self : goal.invariant_of-self
invariant_of-self g c = record {
  inside = step_holds (g.S.Data.stored c.args.self.now.storage) c.permute_axes.ensures.step c.args.self.now.inside;
  separated = step_separated c.permute_axes.ensures.step c.args.self.now.separated;
}
