use Rattle.nd_elements.proofs.NamesFromOtherCrates.{◌*◌, ◌+◌, ◌/◌, ◌%◌, ◌<◌, ◌∙◌, ℕ, ap, sym, subst, Some, slice_get}
use Rattle.nd_elements.specs.StoragePlaces.{stored_at, names_place}
use Rattle.nd_elements.specs.along.AxisLanes.{parallel_lanes}
use Rattle.nd_elements.specs.along.FoldOfLanes.{FoldableNumbered, AreFoldedTo, lanes_at}
use Rattle.nd_elements.specs.along.PlacesOfAxisLanes.{lanes_in}
use Rattle.nd_elements.proofs.along_lemmas.LaneNumbers.{by_columns}
use Rattle.nd_elements.proofs.along_lemmas.LanesFolding.{started, started_done, foldable_alike, folded_alike}
use Rattle.nd_elements.proofs.along.fold_axis.fold_lanes.Goals as goal

pub fold_parallel-requires-clause-holds : goal.fold_parallel-requires-clause-holds
fold_parallel-requires-clause-holds g c r k on under =
    let within = subst (λ n. r < n) (c.in_ok-starts.ensures.count ∙ c.args.lanes.many) on in
    ap (names_place (g.S.Data.stored c.args.storage.now)) (c.in-Some.ensures.contiguous.1 r k within) ∙ c.requires.holds r k within (subst (λ n. k < n) c.in-Some.ensures.contiguous.0 under)

pub fold_parallel-requires-clause-callable : goal.fold_parallel-requires-clause-callable
fold_parallel-requires-clause-callable g c =
    let at = lanes_in c.args.lanes in
    let lies = c.in-Some.ensures.contiguous in
    let stored = g.S.Data.stored c.args.storage.now in
    let starts = slice_get c.in_ok-starts.starts.items in
    let shown : ℕ → ℕ → _ = λ r k. stored_at stored ((parallel_lanes at.lanes c.in-Some.lane).place r k) in
    let n = at.lanes in
    subst (λ m. FoldableNumbered g.F.FnMut (λ i. i % m) (λ i. i / m) m (c.in-Some.lane.count * m) shown starts c.args.f) (sym (c.in_ok-starts.ensures.count ∙ c.args.lanes.many))
    (subst (λ m. FoldableNumbered g.F.FnMut (λ i. i % n) (λ i. i / n) n (m * n) shown starts c.args.f) (sym lies.0)
    (started g.F.FnMut n at.count (at.count * n) (λ i. i % n) (λ i. i / n) shown (λ r. Some c.args.init.now) starts (λ r below. c.in_ok-starts.ensures.items r (subst (λ n. r < n) (sym c.args.lanes.many) below)) c.args.f
    (foldable_alike g.F.FnMut n at.count (by_columns n at.count) shown (lanes_at g.F.FnMut g.S.Data.stored at c.args.storage.now) (λ r k on under. ap (stored_at stored) (lies.1 r k on)) (λ r. Some c.args.init.now) c.args.f
    (c.requires.callable (at.count * n) (λ i. i % n) (λ i. i / n) (λ r k. k * n + r) (by_columns n at.count)))))

pub returns-in-Some-clause-folds : goal.returns-in-Some-clause-folds
returns-in-Some-clause-folds g c =
    let at = lanes_in c.args.lanes in
    let lane = c.in-Some.lane in
    let lies = c.in-Some.ensures.contiguous in
    let stored = g.S.Data.stored c.args.storage.now in
    let starts = slice_get c.in_ok-starts.starts.items in
    let shown : ℕ → ℕ → _ = λ r k. stored_at stored ((parallel_lanes at.lanes lane).place r k) in
    let n = at.lanes in
    let found = slice_get c.fold_parallel.result.items in
    record {
      all = at.count * n;
      lane = λ i. i % n;
      column = λ i. i / n;
      number = λ r k. k * n + r;
      pairs = by_columns n at.count;
      folded = folded_alike g.F.FnMut n at.count (by_columns n at.count) shown (lanes_at g.F.FnMut g.S.Data.stored at c.args.storage.now) (λ r k on under. ap (stored_at stored) (lies.1 r k on)) (λ r. Some c.args.init.now) c.args.f found
          (started_done g.F.FnMut n at.count (at.count * n) (λ i. i % n) (λ i. i / n) shown (λ r. Some c.args.init.now) starts (λ r below. c.in_ok-starts.ensures.items r (subst (λ n. r < n) (sym c.args.lanes.many) below)) c.args.f found
          (subst (λ m. AreFoldedTo g.F.FnMut (λ i. i % n) (λ i. i / n) n m (m * n) shown starts c.args.f found) lies.0
          (subst (λ m. AreFoldedTo g.F.FnMut (λ i. i % m) (λ i. i / m) m lane.count (lane.count * m) shown starts c.args.f found) (c.in_ok-starts.ensures.count ∙ c.args.lanes.many) c.fold_parallel.ensures.folds)));
    }
