use Rattle.nd_layout.proofs.NamesFromOtherCrates.{arith, ◌≡◌, length, drop, length-drop}
use Rattle.std.proofs.lemmas.Grind.{common_steps}
use Rattle.nd_layout.specs.RanksAndReshapeStrides.{fastest_first}
use Rattle.nd_layout.proofs.reshape_lemmas.AxesFromFastest.{length-ordered}
use Rattle.nd_layout.proofs.reshape_lemmas.RegroupedAxes.{Regroups-one_out, Regroups-trans}
use Rattle.nd_layout.proofs.reshape.strides_that_serve.filled_group.Goals as goal

pub returns-then-group-eq1-clause-regroups : goal.returns-then-group-eq1-clause-regroups
returns-then-group-eq1-clause-regroups c =
    let ns = fastest_first c.args.order c.args.lengths.now in let ss = fastest_first c.args.order c.args.strides.now in
    let ln = length-ordered c.args.order c.args.lengths.now in let ls = length-ordered c.args.order c.args.strides.now in
    let l : length (drop c.args.group.next ss) ≡ length (drop c.args.group.next ns) = simp length-drop (omega arith) in
    rw c.if-group-eq1.true
    (Regroups-trans _ _ _ _ _ _ (Regroups-one_out (drop c.args.group.next ns) (drop c.args.group.next ss) c.args.group.step l) c.next_group.ensures.regroups)

pub returns-else-group-eq1-clause-regroups : goal.returns-else-group-eq1-clause-regroups
returns-else-group-eq1-clause-regroups c = grind (arith, common_steps)
