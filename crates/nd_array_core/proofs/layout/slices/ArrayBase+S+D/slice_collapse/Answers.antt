use Rattle.nd_array_core.proofs.layout_lemmas.ElementsUnderNewLayout.{step_holds}
use Rattle.nd_array_core.proofs.NamesFromOtherCrates.{step_separated}
use Rattle.nd_array_core.proofs.layout.slices.ArrayBase+S+D.slice_collapse.Goals as goal

pub invariant_of-self : goal.invariant_of-self
invariant_of-self g c = record {
  inside = step_holds (g.S.Data.stored c.args.self.now.storage) c.slice_axes.ensures.step c.args.self.now.inside;
  separated = step_separated c.slice_axes.ensures.step c.args.self.now.separated;
}
