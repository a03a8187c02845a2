use Rattle.nd_elements.proofs.NamesFromOtherCrates.{◌≡◌, ◌<◌, ◌∙◌, sym, subst, arith, ◌+◌, ◌≤◌, ◌++◌, [], ◌∷◌, length, ap, length-append, slice_get}
use Rattle.nd_elements.proofs.elements_lemmas.ListsOfEqualClones.{all_after}
use Rattle.nd_elements.proofs.along.fold_lanes_together.clones_in.Goals as goal

pub loop-preserved : goal.loop-preserved
loop-preserved g c =
    let so_far = c.loop.invariant in
    let items = c.loop.items.items in
    let copy = c.in_ok-copy.copy in
    let put = c.push_reserved.ensures in (
      put.len ∙ ap (λ n. n + 1) so_far.0,
      subst (λ m. c.args.count ≤ m) (sym put.capacity) so_far.1,
      ap length put.items ∙ (length-append items (copy ∷ []) ∙ ap (λ n. n + 1) so_far.2),
      (λ k below. ap (λ xs. slice_get xs k) put.items ∙ (ap (λ z. slice_get (items ++ z ∷ []) k) (c.requires.clones copy c.in_ok-copy.ensures.cases) ∙ all_after c.args.value.now items c.loop.counter so_far.2 so_far.3 k below)),
    )

pub returns-clause-count : goal.returns-clause-count
returns-clause-count g c = let through : c.loop.counter ≡ c.args.count = omega arith in c.loop.invariant.0 ∙ through

pub returns-clause-items : goal.returns-clause-items
returns-clause-items g c =
    let through : c.loop.counter ≡ c.args.count = omega arith in
    λ k below. c.loop.invariant.3 k (subst (λ n. k < n) (sym through) below)
