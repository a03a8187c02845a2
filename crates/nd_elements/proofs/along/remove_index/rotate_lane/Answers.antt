use Rattle.nd_elements.proofs.NamesFromOtherCrates.{◌+◌, ◌<◌, ◌∙◌, pos, ◌+ℤ◌, ◌*ℤ◌, refl, arith, ◌≡◌, subst, along}
use Rattle.nd_elements.specs.along.RemovedIndex.{rotated, IsMovedBy}
use Rattle.nd_elements.proofs.along_lemmas.RotatedLanes.{rotated_more, rotated_there}
use Rattle.nd_elements.proofs.along.remove_index.rotate_lane.Goals as goal

pub loop-nth-preserved : goal.loop-nth-preserved
loop-nth-preserved g c =
    let lane = c.args.lane in
    let so_far = c.loop-nth.invariant in
    let within : c.loop-nth.nth + 1 < lane.count = omega (arith, c.loop-nth-test.true) in (
      rotated_more (λ k. pos lane.place +ℤ (pos k *ℤ lane.stride)) lane.count c.args.from (g.S.Data.stored c.args.storage.now) c.loop-nth.nth (c.loop-nth.nth + 1) c.place_of.result c.place_of-in-loop-nth.result
          so_far.2 within refl c.requires.apart c.place_of.ensures c.place_of-in-loop-nth.ensures (g.S.Data.stored c.loop-nth.storage) (g.S.Data.stored c.swap.new.self) c.swap.ensures.new so_far.0,
      c.swap.ensures.frame ∙ so_far.1,
      omega (arith, so_far.2),
      within,
    )

pub returns-clause-moved : goal.returns-clause-moved
returns-clause-moved g c =
    let through : c.loop-nth.nth + 1 ≡ c.args.lane.count = omega (arith, c.loop-nth.invariant.3, c.loop-nth-test.false) in
    subst (λ n. IsMovedBy (g.S.Data.stored c.args.storage.now) (g.S.Data.stored c.loop-nth.storage) (along c.args.lane).place c.args.lane.count (rotated c.args.from n)) through c.loop-nth.invariant.0

pub returns-clause-frame : goal.returns-clause-frame
returns-clause-frame g c = c.loop-nth.invariant.1

pub swap-requires : goal.swap-requires
swap-requires g c =
    let lane = c.args.lane in
    let m = c.loop-nth.nth in
    let within : m + 1 < lane.count = omega (arith, c.loop-nth-test.true) in
    let before : m < lane.count = omega (arith, within) in record {
      p = rotated_there (λ k. pos lane.place +ℤ (pos k *ℤ lane.stride)) lane.count c.args.from (g.S.Data.stored c.args.storage.now) m c.place_of.result m c.requires.from before before c.place_of.ensures
          (g.S.Data.stored c.loop-nth.storage) c.requires.holds c.loop-nth.invariant.0;
      q = rotated_there (λ k. pos lane.place +ℤ (pos k *ℤ lane.stride)) lane.count c.args.from (g.S.Data.stored c.args.storage.now) m c.place_of-in-loop-nth.result (m + 1) c.requires.from before within c.place_of-in-loop-nth.ensures
          (g.S.Data.stored c.loop-nth.storage) c.requires.holds c.loop-nth.invariant.0;
    }
