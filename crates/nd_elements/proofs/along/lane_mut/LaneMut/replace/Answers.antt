use Rattle.nd_elements.specs.along.LanesWritten.{lane_held, lane_len}
use Rattle.nd_elements.proofs.along_lemmas.LanesLentAsParts.{held_here, seen_here, put_holds, put_seen}
use Rattle.nd_elements.proofs.along.lane_mut.LaneMut.replace.Goals as goal

pub replace-requires : goal.replace-requires
unfolding lane_len
replace-requires g c = let v = c.args.self.now in held_here v.region v.lane.place v.lane.count c.args.nth c.place_of-place.result v.lane.stride c.requires.within c.place_of-place.ensures v.holds

pub invariant_of-self : goal.invariant_of-self
unfolding lane_len
invariant_of-self g c =
    let v = c.args.self.now in
    record {
      holds = put_holds v.region c.replace.new.self v.lane.place v.lane.count c.args.nth c.place_of-place.result v.lane.stride c.args.value c.replace.ensures.new v.apart v.holds c.requires.within c.place_of-place.ensures;
      apart = v.apart;
    }

pub returns-clause-old : goal.returns-clause-old
unfolding lane_held lane_len
returns-clause-old g c = let v = c.args.self.now in seen_here v.region v.lane.place v.lane.count c.args.nth c.place_of-place.result v.lane.stride c.requires.within c.place_of-place.ensures c.replace.result c.replace.ensures.old

pub returns-clause-new : goal.returns-clause-new
unfolding lane_held lane_len
returns-clause-new g c = let v = c.args.self.now in put_seen v.region c.replace.new.self v.lane.place v.lane.count c.args.nth c.place_of-place.result v.lane.stride c.args.value c.replace.ensures.new v.apart v.holds c.requires.within c.place_of-place.ensures
