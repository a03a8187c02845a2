use Rattle.nd_array_core.proofs.layout_lemmas.ElementsUnderNewLayout.{step_holds}
use Rattle.nd_array_core.proofs.NamesFromOtherCrates.{step_separated}
use Rattle.nd_array_core.proofs.layout.axes.ArrayBase+S+D.index_axis_move.Goals as goal

pub invariant_of-result : goal.invariant_of-result
invariant_of-result g c = record {
  inside = step_holds (g.S.Data.stored c.args.self.storage) c.index_axis-layout.ensures.step c.args.self.inside;
  separated = step_separated c.index_axis-layout.ensures.step c.args.self.separated;
}
