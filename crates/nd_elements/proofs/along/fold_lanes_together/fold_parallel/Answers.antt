use Rattle.nd_elements.proofs.NamesFromOtherCrates.{◌≡◌, ◌+◌, ◌<◌, ◌∙◌, ◌++◌, ℕ, length, take, drop, pos, ◌+ℤ◌, ◌*ℤ◌, refl, ap, sym, subst, arith, is_some, slice_get, vec_len}
use Rattle.nd_elements.specs.StoragePlaces.{stored_at, names_place}
use Rattle.nd_elements.specs.along.FoldOfLanes.{FoldsInParallel, TakesInParallel}
use Rattle.nd_elements.proofs.along_lemmas.AxisLanes.{parallel_place}
use Rattle.nd_elements.proofs.along_lemmas.LanesFolding.{FoldedBelow, below_none, below_more, next_takes, below_all, parallel_same, outside_taken}
use Rattle.nd_elements.proofs.elements_lemmas.MappedElements.{got_item}
use Rattle.nd_elements.proofs.tasks.StoragePartLent.{all_written}
use Rattle.nd_elements.proofs.along.fold_lanes_together.fold_parallel.Goals as goal

pub run-items-requires : goal.run-items-requires
run-items-requires g c r below =
    let lane = c.args.lane in
    let stored = g.S.Data.stored c.args.storage.now in
    let p = c.place_of.result in
    let nth = c.loop-nth.nth in
    ap is_some (c.borrowed.ensures (p + r)) ∙ (ap (names_place stored) (parallel_place lane.place p r nth lane.stride c.place_of.ensures) ∙ c.requires.holds r nth (subst (λ n. r < n) c.len-lanes.ensures below) c.loop-nth-test.true)

pub fold_parallel_slice-now-requires-clause-callable : goal.fold_parallel_slice-now-requires-clause-callable
fold_parallel_slice-now-requires-clause-callable g c =
    let lane = c.args.lane in
    let stored = g.S.Data.stored c.args.storage.now in
    let lanes = vec_len c.args.starts in
    let elements : ℕ → ℕ → _ = λ r k. stored_at stored (pos (lane.place + r) +ℤ (pos k *ℤ lane.stride)) in
    let nth = c.loop-nth.nth in
    let p = c.place_of.result in
    let totals = c.loop-nth.totals in
    let items = c.run-items.result.now in
    let found : (r : ℕ) → r < lanes → slice_get items r ≡ elements r nth = λ r under.
    let long = c.run-items.ensures.count in
    got_item items r (stored (p + r)) (subst (λ n. r < n) (sym long) (subst (λ n. r < n) (sym c.len-lanes.ensures) under)) (λ d. sym (c.borrowed.ensures (p + r)) ∙ c.run-items.ensures.elements r d (subst (λ n. r < n) (sym c.len-lanes.ensures) under))
    ∙ ap (stored_at stored) (parallel_place lane.place p r nth lane.stride c.place_of.ensures) in
    subst (λ ts. TakesInParallel g.F.FnMut (slice_get ts) (slice_get items) (length ts) c.loop-nth.now) (sym c.as_mut_slice.ensures.value)
    (outside_taken g.F.FnMut (λ r. elements r nth) (slice_get items) (slice_get totals.items) c.loop-nth.now lanes (length totals.items) (omega (arith, totals.ok.1, c.loop-nth.invariant.0)) found
    (next_takes g.F.FnMut lanes lane.count elements (slice_get c.args.starts.items) c.args.f nth c.loop-nth-test.true (slice_get totals.items) c.loop-nth.now c.loop-nth.invariant.1 c.requires.callable))

pub loop-nth-preserved : goal.loop-nth-preserved
loop-nth-preserved g c =
    let lane = c.args.lane in
    let stored = g.S.Data.stored c.args.storage.now in
    let lanes = vec_len c.args.starts in
    let elements : ℕ → ℕ → _ = λ r k. stored_at stored (pos (lane.place + r) +ℤ (pos k *ℤ lane.stride)) in
    let nth = c.loop-nth.nth in
    let p = c.place_of.result in
    let totals = c.loop-nth.totals in
    let items = c.run-items.result.now in
    let found : (r : ℕ) → r < lanes → slice_get items r ≡ elements r nth = λ r under.
    let long = c.run-items.ensures.count in
    got_item items r (stored (p + r)) (subst (λ n. r < n) (sym long) (subst (λ n. r < n) (sym c.len-lanes.ensures) under)) (λ d. sym (c.borrowed.ensures (p + r)) ∙ c.run-items.ensures.elements r d (subst (λ n. r < n) (sym c.len-lanes.ensures) under))
    ∙ ap (stored_at stored) (parallel_place lane.place p r nth lane.stride c.place_of.ensures) in
    let long : length totals.items ≡ lanes = omega (arith, totals.ok.1, c.loop-nth.invariant.0) in
    let start_at = slice_get c.args.starts.items in
    let new = c.fold_parallel_slice-now.new.totals in
    let written : take totals.len (new ++ drop (length new) totals.items) ≡ new = all_written new (drop (length new) totals.items) totals.len (c.fold_parallel_slice-now.ensures.long ∙ c.as_mut_slice.ensures.len) in
    let ran = subst (λ ts. FoldsInParallel g.F.FnMut (slice_get ts) (slice_get items) (slice_get new) c.loop-nth.now (length ts) c.fold_parallel_slice-now.result) c.as_mut_slice.ensures.value c.fold_parallel_slice-now.ensures.ran in (
      c.loop-nth.invariant.0,
      subst (λ ts. FoldedBelow g.F.FnMut lanes lane.count elements start_at c.args.f (nth + 1) (slice_get ts) c.fold_parallel_slice-now.result) (sym written)
          (below_more g.F.FnMut lanes lane.count elements start_at c.args.f nth c.loop-nth-test.true (slice_get totals.items) c.loop-nth.now c.loop-nth.invariant.1 (slice_get new) c.fold_parallel_slice-now.result
          (parallel_same g.F.FnMut (slice_get items) (λ r. elements r nth) (slice_get totals.items) (slice_get new) c.loop-nth.now c.fold_parallel_slice-now.result (length totals.items) lanes long (λ r below. found r (subst (λ m. r < m) long below)) ran)),
    )

pub returns-clause-folds : goal.returns-clause-folds
returns-clause-folds g c =
    let lane = c.args.lane in
    let lanes = vec_len c.args.starts in
    let elements : ℕ → ℕ → _ = λ r k. stored_at (g.S.Data.stored c.args.storage.now) (pos (lane.place + r) +ℤ (pos k *ℤ lane.stride)) in
    let all : c.loop-nth.nth ≡ lane.count = omega (arith, c.loop-nth-test.false, c.loop-nth.auto.nth-end) in
    below_all g.F.FnMut lanes lane.count elements (slice_get c.args.starts.items) c.args.f (slice_get c.loop-nth.totals.items) c.loop-nth.now
    (subst (λ m. FoldedBelow g.F.FnMut lanes lane.count elements (slice_get c.args.starts.items) c.args.f m (slice_get c.loop-nth.totals.items) c.loop-nth.now) all c.loop-nth.invariant.1)

pub loop-nth-init : goal.loop-nth-init
loop-nth-init g c =
    let elements : ℕ → ℕ → _ = λ r k. stored_at (g.S.Data.stored c.args.storage.now) (pos (c.args.lane.place + r) +ℤ (pos k *ℤ c.args.lane.stride)) in
    (refl, below_none g.F.FnMut (vec_len c.args.starts) c.args.lane.count elements (slice_get c.args.starts.items) c.args.f (slice_get c.args.starts.items) (λ r on. refl))
