use Rattle.nd_elements.proofs.NamesFromOtherCrates.{◌≡◌, ◌*◌, ◌+◌, ◌/◌, ◌%◌, ◌<◌, ◌≤◌, ◌∙◌, suc, [], ◌∷◌, length, ap, sym, subst, arith, slice_get, vec_len, vec_capacity, got_last, got_before, along}
use Rattle.nd_elements.specs.ElementsAtNumberedPlaces.{elements_at}
use Rattle.nd_elements.specs.StoragePlaces.{stored_at, names_place}
use Rattle.nd_elements.specs.along.FoldOfLanes.{lanes_at}
use Rattle.nd_elements.specs.along.PlacesOfAxisLanes.{lanes_in}
use Rattle.nd_elements.proofs.along_lemmas.AxisLanes.{lane_in_turn}
use Rattle.nd_elements.proofs.along_lemmas.LaneNumbers.{by_lanes, longer}
use Rattle.nd_elements.proofs.along_lemmas.IndexesLaneByLane.{nearer, room_at}
use Rattle.nd_elements.proofs.along_lemmas.LanesFolding.{LanesFolded, lanes_none, lanes_more, lane_takes, lanes_all, takes_same, folds_same}
use Rattle.nd_elements.proofs.along.fold_axis.fold_in_turn.Goals as goal

pub fold_shown-after-requires-clause-holds : goal.fold_shown-after-requires-clause-holds
fold_shown-after-requires-clause-holds g c k under =
    let here = lane_in_turn c.in-Some.lane c.loop-lane.invariant.0 c.in-Some.ensures.lane.0 in
    ap (names_place (g.S.Data.stored c.args.storage.now)) (here.2 k) ∙ c.requires.holds c.loop-lane.turns.given k here.0 (subst (λ m. k < m) here.1 under)

pub fold_shown-after-requires-clause-callable : goal.fold_shown-after-requires-clause-callable
fold_shown-after-requires-clause-callable g c =
    let at = lanes_in c.args.lanes in
    let rank = c.loop-lane.turns.given in
    let here = lane_in_turn c.in-Some.lane c.loop-lane.invariant.0 c.in-Some.ensures.lane.0 in
    let lane = c.in-Some.lane in
    let stored = g.S.Data.stored c.args.storage.now in
    let elements = lanes_at g.F.FnMut g.S.Data.stored at c.args.storage.now in
    takes_same g.F.FnMut (elements_at g.S.Data.stored (along lane) c.args.storage.now) (elements rank) lane.count at.count here.1 (λ k under. ap (stored_at stored) (here.2 k)) c.args.init.now c.in_ok-start.start (c.requires.clones c.in_ok-start.start c.in_ok-start.ensures.cases) c.loop-lane.now
    (lane_takes g.F.FnMut at.lanes at.count elements c.args.init.now c.args.f rank here.0 (slice_get c.loop-lane.items.items) c.loop-lane.now c.loop-lane.invariant.3
    (c.requires.callable (at.lanes * at.count) (λ m. m / at.count) (λ m. m % at.count) (λ r k. r * at.count + k) (by_lanes at.lanes at.count)))

pub loop-lane-preserved : goal.loop-lane-preserved
loop-lane-preserved g c =
    let at = lanes_in c.args.lanes in
    let so_far = c.loop-lane.invariant in
    let rank = c.loop-lane.turns.given in
    let here = lane_in_turn c.in-Some.lane so_far.0 c.in-Some.ensures.lane.0 in
    let next = c.in-Some.ensures.lane.1 in
    let lane = c.in-Some.lane in
    let stored = g.S.Data.stored c.args.storage.now in
    let elements = lanes_at g.F.FnMut g.S.Data.stored at c.args.storage.now in
    let after = c.fold_shown-after.result in (
      c.in-Some.ensures.lanes ∙ so_far.0,
      omega (arith, so_far.1, c.push_reserved.ensures.capacity),
      omega (arith, so_far.2, c.push_reserved.ensures.len, next),
      subst (λ r. LanesFolded g.F.FnMut at.lanes at.count elements c.args.init.now c.args.f r (slice_get c.push_reserved.new.self.items) after.0) (sym next)
          (lanes_more g.F.FnMut at.lanes at.count elements c.args.init.now c.args.f rank here.0 (slice_get c.loop-lane.items.items) c.loop-lane.now so_far.3 (slice_get c.push_reserved.new.self.items) after.1 after.0
          (λ q earlier. ap (λ xs. slice_get xs q) c.push_reserved.ensures.items ∙ got_before c.loop-lane.items.items (after.1 ∷ []) q (omega (arith, earlier, so_far.4)))
          (ap (λ xs. slice_get xs rank) c.push_reserved.ensures.items ∙ got_last c.loop-lane.items.items after.1 rank so_far.4)
          (folds_same g.F.FnMut (elements_at g.S.Data.stored (along lane) c.args.storage.now) (elements rank) lane.count at.count here.1 (λ k under. ap (stored_at stored) (here.2 k)) c.args.init.now c.in_ok-start.start (c.requires.clones c.in_ok-start.start c.in_ok-start.ensures.cases) c.loop-lane.now after.1 after.0 c.fold_shown-after.ensures.ran)),
      ap length c.push_reserved.ensures.items ∙ (longer c.loop-lane.items.items after.1 ∙ (ap suc so_far.4 ∙ (let one : suc rank ≡ rank + 1 = omega arith in one ∙ sym next))),
    )

pub returns-clause-count : goal.returns-clause-count
returns-clause-count g c =
    c.loop-lane.invariant.2 ∙ (c.in_default.ensures.lane ∙ (ap (λ l. (lanes_in l).lanes) c.loop-lane.invariant.0 ∙ sym c.args.lanes.many))

pub returns-clause-folds : goal.returns-clause-folds
returns-clause-folds g c =
    let at = lanes_in c.args.lanes in
    let elements = lanes_at g.F.FnMut g.S.Data.stored at c.args.storage.now in
    let end : c.loop-lane.turns.given ≡ at.lanes = c.in_default.ensures.lane ∙ ap (λ l. (lanes_in l).lanes) c.loop-lane.invariant.0 in
    record {
      all = at.lanes * at.count;
      lane = λ m. m / at.count;
      column = λ m. m % at.count;
      number = λ r k. r * at.count + k;
      pairs = by_lanes at.lanes at.count;
      folded = lanes_all g.F.FnMut at.lanes at.count elements c.args.init.now c.args.f (slice_get c.loop-lane.items.items) c.loop-lane.now
          (subst (λ r. LanesFolded g.F.FnMut at.lanes at.count elements c.args.init.now c.args.f r (slice_get c.loop-lane.items.items) c.loop-lane.now) end c.loop-lane.invariant.3);
    }

pub loop-lane-init : goal.loop-lane-init
loop-lane-init g c =
    let at = lanes_in c.args.lanes in
    let elements = lanes_at g.F.FnMut g.S.Data.stored at c.args.storage.now in
    let none = c.in_turn-turns.ensures.given in (
      c.in_turn-turns.ensures.lanes,
      subst (λ n. n ≤ vec_capacity c.args.room) c.args.lanes.many c.requires.room,
      c.requires.empty.1 ∙ sym none,
      subst (λ r. LanesFolded g.F.FnMut at.lanes at.count elements c.args.init.now c.args.f r (slice_get c.args.room.items) c.args.f) (sym none) (lanes_none g.F.FnMut at.lanes at.count elements c.args.init.now c.args.f (slice_get c.args.room.items)),
      ap length c.requires.empty.0 ∙ sym none,
    )

pub push_reserved-requires : goal.push_reserved-requires
push_reserved-requires g c =
    let so_far = c.loop-lane.invariant in
    room_at (lanes_in c.args.lanes).lanes (vec_capacity c.loop-lane.items) (vec_len c.loop-lane.items) c.loop-lane.turns.given (lane_in_turn c.in-Some.lane so_far.0 c.in-Some.ensures.lane.0).0 so_far.1 so_far.2

pub loop-lane-smaller : goal.loop-lane-smaller
loop-lane-smaller g c =
    nearer (lanes_in c.args.lanes).lanes c.loop-lane.turns.given c.next.new.self.given (lane_in_turn c.in-Some.lane c.loop-lane.invariant.0 c.in-Some.ensures.lane.0).0 c.in-Some.ensures.lane.1
