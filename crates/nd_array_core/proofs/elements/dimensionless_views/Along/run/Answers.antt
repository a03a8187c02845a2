use Rattle.nd_array_core.proofs.NamesFromOtherCrates.{contiguous_found, contiguous_has, shown_by}
use Rattle.nd_array_core.proofs.elements.dimensionless_views.Along.run.Goals as goal

pub run-requires : goal.run-requires
run-requires g c = contiguous_has (shown_by c.args.self.now.elements) c.args.self.now.lane.place c.args.self.now.lane.count c.args.self.now.lane.stride c.requires c.args.self.now.holds

pub returns-clause-elements : goal.returns-clause-elements
returns-clause-elements g c = contiguous_found (shown_by c.args.self.now.elements) c.args.self.now.lane.place c.args.self.now.lane.count c.args.self.now.lane.stride c.requires c.run.result.now c.run.ensures.count c.run.ensures.elements
