use Rattle.nd_array_core.proofs.NamesFromOtherCrates.{false≢true, shown_by, seen_holds}
use Rattle.nd_array_core.proofs.layout.broadcast.ArrayView+A+D.broadcast_move.Goals as goal

pub invariant_of-result : goal.invariant_of-result
invariant_of-result g c = record { inside = seen_holds (shown_by c.args.self.storage) c.in_ok-layout.ensures.seen c.args.self.inside; separated = λ is. absurd (false≢true is) }
