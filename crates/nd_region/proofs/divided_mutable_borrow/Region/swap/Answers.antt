use mathlib.Core.Path.{◌∙◌}
use Rattle.nd_region.proofs.SwappedPlaces.{swap_asks, swap_done, swap_itself}
use Rattle.nd_region.proofs.divided_mutable_borrow.Region.swap.Goals as goal

-- src/borrow_lent_to_closure.rt:58:13
pub split_with-requires-clause-callable : goal.split_with-requires-clause-callable
split_with-requires-clause-callable g c = λ x y. swap_asks c.args.self.now x y c.args.p c.args.q c.if-p-q.true c.requires.0 c.requires.1

-- src/borrow_lent_to_closure.rt:53:5
pub returns-then-p-q : goal.returns-then-p-q
returns-then-p-q g c = let e = c.split_with.ensures in e.7 ∙ swap_done c.args.self.now e.0 e.1 e.2 e.3 c.args.p c.args.q c.if-p-q.true e.4 e.5 e.6.2

-- src/borrow_lent_to_closure.rt:53:5
pub returns-else-p-q : goal.returns-else-p-q
returns-else-p-q g c = swap_itself c.args.self.now c.args.p c.args.q c.if-p-q.false c.requires.0
