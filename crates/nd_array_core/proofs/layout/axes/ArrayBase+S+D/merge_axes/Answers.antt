use Rattle.nd_array_core.proofs.layout_lemmas.ElementsUnderNewLayout.{step_holds}
use Rattle.nd_array_core.proofs.NamesFromOtherCrates.{merged_or_kept, step_separated}
use Rattle.nd_array_core.proofs.layout.axes.ArrayBase+S+D.merge_axes.Goals as goal

pub invariant_of-self : goal.invariant_of-self
invariant_of-self g c =
    let way = merged_or_kept c.merge_axes.result c.args.self.now.layout.as_many c.merge_axes.ensures.step c.merge_axes.ensures.kept in
    record {
      inside = step_holds (g.S.Data.stored c.args.self.now.storage) way.1 c.args.self.now.inside;
      separated = step_separated way.1 c.args.self.now.separated;
    }
