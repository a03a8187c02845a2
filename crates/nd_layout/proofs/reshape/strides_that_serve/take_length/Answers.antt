use Rattle.nd_layout.proofs.NamesFromOtherCrates.{arith, rules, ◌∷◌, ◌<◌, ◌≡◌, sym, length, drop, pos, length-drop}
use Rattle.std.proofs.lemmas.Grind.{common_steps}
use Rattle.nd_layout.specs.RanksAndReshapeStrides.{fastest_first}
use Rattle.nd_layout.proofs.reshape_lemmas.AxesFromFastest.{length-ordered}
use Rattle.nd_layout.proofs.reshape_lemmas.RegroupedAxes.{Regroups-one_in}
use Rattle.nd_layout.proofs.reshape_lemmas.AxisGroupSearch.{taken}
use Rattle.nd_layout.proofs.reshape.strides_that_serve.take_length.Goals as goal

pub returns-then-len-eq1-clause-taken : goal.returns-then-len-eq1-clause-taken
returns-then-len-eq1-clause-taken c =
    let ns = fastest_first c.args.order c.args.lengths.now in let ss = fastest_first c.args.order c.args.strides.now in
    let g = c.args.group in let ln = length-ordered c.args.order c.args.lengths.now in
    let ls = length-ordered c.args.order c.args.strides.now in
    let l : length (drop g.next ss) ≡ length (drop g.next ns) = simp length-drop (omega arith) in
    rw c.if-len-eq1.true (Regroups-one_in (g.length ∷ drop g.next ns) (g.step ∷ drop g.next ss) (pos 0) (omega arith), c.requires.on, c.requires.closed)

pub returns-clause-taken : goal.returns-clause-taken
returns-clause-taken c =
    let ns = fastest_first c.args.order c.args.lengths.now in let ss = fastest_first c.args.order c.args.strides.now in
    let ln = length-ordered c.args.order c.args.lengths.now in let ls = length-ordered c.args.order c.args.strides.now in
    let e : length ss ≡ length ns = omega arith in let long : 1 < c.args.len = search rules in
    rw (sym ln)
    (taken ns ss c.args.group c.filled_group.result c.args.len c.split_group.result e long c.requires.some c.filled_group.ensures.regroups c.filled_group.ensures.closed c.filled_group.ensures.wide c.split_group.ensures (omega arith))

pub split_group-requires-clause-small : goal.split_group-requires-clause-small
split_group-requires-clause-small c = grind (arith, common_steps)
