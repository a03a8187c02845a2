use Rattle.nd_array_core.proofs.layout_lemmas.ElementsUnderNewLayout.{step_holds}
use Rattle.nd_array_core.proofs.NamesFromOtherCrates.{step_separated}
use Rattle.nd_array_core.proofs.layout.axes.ArrayBase+S+D.reverse_axes.Goals as goal

pub invariant_of-self : goal.invariant_of-self
invariant_of-self g c = record {
  inside = step_holds (g.S.Data.stored c.args.self.now.storage) c.reverse_axes.ensures.step c.args.self.now.inside;
  separated = step_separated c.reverse_axes.ensures.step c.args.self.now.separated;
}
