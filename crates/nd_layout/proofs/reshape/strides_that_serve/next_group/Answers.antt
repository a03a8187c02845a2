use Rattle.nd_layout.proofs.NamesFromOtherCrates.{arith, rules, ◌+◌, ◌<◌, ◌≡◌, ◌∙◌, ap, length, drop, refl, pos, get_or, w64, to_z-of_z, length-drop}
use Rattle.std.proofs.lemmas.Grind.{common_steps}
use Rattle.nd_layout.specs.RanksAndReshapeStrides.{fastest_first}
use Rattle.nd_layout.proofs.reshape_lemmas.AxesFromFastest.{length-ordered}
use Rattle.nd_layout.proofs.reshape_lemmas.RegroupedAxes.{Regroups-one_in}
use Rattle.nd_layout.proofs.reshape_lemmas.AxisGroupSearch.{grouped_more, grouped_size, at_rank-next}
use Rattle.nd_layout.proofs.reshape.strides_that_serve.next_group.Goals as goal

pub loop-next-init : goal.loop-next-init
loop-next-init c =
    let ns = fastest_first c.args.order c.args.lengths.now in let ss = fastest_first c.args.order c.args.strides.now in
    let ln = length-ordered c.args.order c.args.lengths.now in let ls = length-ordered c.args.order c.args.strides.now in
    let l : length (drop c.args.from ss) ≡ length (drop c.args.from ns) = simp length-drop (omega arith) in
    record { at = refl; regroups = Regroups-one_in (drop c.args.from ns) (drop c.args.from ss) (pos 0) l }

pub joined-requires : goal.joined-requires
joined-requires c =
    let ns = fastest_first c.args.order c.args.lengths.now in let ss = fastest_first c.args.order c.args.strides.now in
    let ln = length-ordered c.args.order c.args.lengths.now in
    let p = grouped_size _ _ ns ss c.loop-next.next c.loop-next.group.length c.loop-next.group.step (omega arith) c.requires.some c.loop-next.invariant.regroups in
    record { fits = rw c.nth_length.ensures (omega arith); some = rw c.nth_length.ensures p.0; few = search rules }

pub returns-in-None-clause-closed : goal.returns-in-None-clause-closed
returns-in-None-clause-closed c long more =
    let ns = fastest_first c.args.order c.args.lengths.now in let ss = fastest_first c.args.order c.args.strides.now in
    let ln = length-ordered c.args.order c.args.lengths.now in let ls = length-ordered c.args.order c.args.strides.now in
    let apart = c.in-None.ensures in let same = to_z-of_z w64 c.nth_stride.result (record { sfits = c.nth_stride.type_inv }) in
    let n_is = c.nth_length.ensures in let wide : 1 < get_or ns c.loop-next.next 0 = omega arith in
    let at = at_rank-next ns ss c.loop-next.next (omega arith) (omega arith) wide in
    rw c.loop-next.invariant.at (rw at (λ is. apart.2 (same ∙ c.nth_stride.ensures ∙ is)))

pub loop-next-preserved : goal.loop-next-preserved
loop-next-preserved c =
    let ns = fastest_first c.args.order c.args.lengths.now in let ss = fastest_first c.args.order c.args.strides.now in
    let ln = length-ordered c.args.order c.args.lengths.now in let ls = length-ordered c.args.order c.args.strides.now in
    let joins = c.in-Some.ensures in let same = to_z-of_z w64 c.nth_stride.result (record { sfits = c.nth_stride.type_inv }) in
    record {
      at = joins.0 ∙ ap (λ n. n + 1) c.loop-next.invariant.at;
      regroups = grouped_more _ _ ns ss c.loop-next.next _ _ _ _ (omega arith) (omega arith) (rw (same, c.nth_length.ensures, c.nth_stride.ensures) at joins.1) c.loop-next.invariant.regroups;
    }

pub returns-clause-wide : goal.returns-clause-wide
returns-clause-wide c = grind (arith, common_steps)

pub returns-clause-closed : goal.returns-clause-closed
returns-clause-closed c = grind (arith, common_steps)
