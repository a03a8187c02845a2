use Rattle.nd_array_core.proofs.NamesFromOtherCrates.{on_err_weaker}
use Rattle.nd_array_core.specs.ArrayMeaning.{shape_of, element_at}
use Rattle.nd_array_core.specs.elements.BroadcastPairs.{other_at}
use Rattle.nd_array_core.proofs.elements_lemmas.LackOfMemory.{refused_alike}
use Rattle.nd_array_core.proofs.elements.assign.ArrayBase+S+D.assign_to.Goals as goal

pub returns-clause-refused : goal.returns-clause-refused
returns-clause-refused g c =
    on_err_weaker c.assign.result
    (refused_alike g.A.Clone.is_infallible (other_at c.args.to.now c.args.self.now) (element_at c.args.self.now) (c.broadcast_to_itself.ensures.elements (shape_of c.args.to.now) c.requires.same))
    c.assign.ensures.refused
