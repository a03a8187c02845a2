use Rattle.nd_array_core.proofs.layout_lemmas.ElementsUnderNewLayout.{step_holds}
use Rattle.nd_array_core.proofs.NamesFromOtherCrates.{step_separated}
use Rattle.nd_array_core.proofs.layout.axes.ArrayBase+S+IxDyn.squeeze.Goals as goal

pub invariant_of-result : goal.invariant_of-result
invariant_of-result g c = record {
  inside = step_holds (g.S.Data.stored c.args.self.storage) c.squeezed-layout.ensures.step c.args.self.inside;
  separated = step_separated c.squeezed-layout.ensures.step c.args.self.separated;
}
