use Rattle.nd_elements.proofs.NamesFromOtherCrates.{◌<◌, ◌≤◌, ◌∙◌, ap, sym, subst, arith, along}
use Rattle.nd_elements.specs.ElementsAtNumberedPlaces.{elements_at}
use Rattle.nd_elements.specs.StoragePlaces.{stored_at}
use Rattle.nd_elements.proofs.elements_lemmas.AssignedElements.{later_there, moved_more}
use Rattle.nd_elements.proofs.elements.move_into.exchange_lane.Goals as goal

pub loop-nth-preserved : goal.loop-nth-preserved
loop-nth-preserved g c =
    let lane = along c.args.lane in
    let other_lane = along c.args.other_lane in
    let our_elements = elements_at g.S.Data.stored lane c.args.storage.now in
    let their_elements = elements_at g.Z.Data.stored other_lane c.args.others.now in
    let ours = g.S.Data.stored c.args.storage.now in
    let theirs = g.Z.Data.stored c.args.others.now in
    let now = g.S.Data.stored c.loop-nth.storage in
    let others_now = g.Z.Data.stored c.loop-nth.others in
    let nth = c.loop-nth.nth in
    let under : nth < other_lane.count = subst (λ n. nth < n) (sym c.requires.as_long) c.loop-nth-test.true in
    let within : nth ≤ nth = omega arith in (
      moved_more their_elements lane.place nth lane.count c.place_of.result c.loop-nth-test.true c.requires.apart c.place_of.ensures ours now (g.S.Data.stored c.exchange.new.storage) c.loop-nth.invariant.0
          (c.exchange.ensures.put ∙ (ap (stored_at others_now) c.place_of-in-loop-nth.ensures ∙ (later_there our_elements other_lane.place nth other_lane.count c.requires.others_apart theirs others_now c.loop-nth.invariant.1 nth within under))) c.exchange.ensures.left,
      moved_more our_elements other_lane.place nth other_lane.count c.place_of-in-loop-nth.result under c.requires.others_apart c.place_of-in-loop-nth.ensures theirs others_now (g.Z.Data.stored c.exchange.new.others) c.loop-nth.invariant.1
          (c.exchange.ensures.taken ∙ (ap (stored_at now) c.place_of.ensures ∙ (later_there their_elements lane.place nth lane.count c.requires.apart ours now c.loop-nth.invariant.0 nth within c.loop-nth-test.true))) c.exchange.ensures.other_left,
      c.exchange.ensures.frame ∙ c.loop-nth.invariant.2,
    )
