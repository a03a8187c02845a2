use Rattle.nd_elements.specs.along.LanesWritten.{lane_held, lane_len}
use Rattle.nd_elements.proofs.along_lemmas.LanesLentAsParts.{held_here, seen_here}
use Rattle.nd_elements.proofs.along.lane_mut.LaneMut.element.Goals as goal

pub get-requires : goal.get-requires
unfolding lane_len
get-requires g c = let v = c.args.self.now in held_here v.region v.lane.place v.lane.count c.args.nth c.place_of.result v.lane.stride c.requires.within c.place_of.ensures v.holds

pub returns : goal.returns
unfolding lane_held lane_len
returns g c = let v = c.args.self.now in record { value = seen_here v.region v.lane.place v.lane.count c.args.nth c.place_of.result v.lane.stride c.requires.within c.place_of.ensures c.get.result.now c.get.ensures }
