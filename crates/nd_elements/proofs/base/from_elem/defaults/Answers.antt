use Rattle.nd_elements.proofs.NamesFromOtherCrates.{◌≡◌, ◌∙◌, arith, ◌+◌, ◌≤◌, ap, sym, subst, All, All-push}
use Rattle.nd_elements.proofs.base.from_elem.defaults.Goals as goal

pub loop-preserved : goal.loop-preserved
loop-preserved g c =
    let put = c.push_reserved.ensures in (
      put.len ∙ ap (λ n. n + 1) c.loop.invariant.0,
      subst (λ m. c.args.count ≤ m) (sym put.capacity) c.loop.invariant.1,
      subst (All g.A.Default.is_default) (sym put.items) (All-push g.A.Default.is_default c.loop.items.items c.default.result c.loop.invariant.2 c.default.ensures),
    )

pub returns-clause-items : goal.returns-clause-items
returns-clause-items g c = c.loop.invariant.2

pub returns-clause-count : goal.returns-clause-count
returns-clause-count g c = let through : c.loop.counter ≡ c.args.count = omega arith in c.loop.invariant.0 ∙ through
