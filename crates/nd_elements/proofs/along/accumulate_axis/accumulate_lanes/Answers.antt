use Rattle.nd_elements.proofs.NamesFromOtherCrates.{◌-◌, ◌*◌, ◌^◌, ◌<◌, ◌∙◌, ap, sym, subst, is_place}
use Rattle.nd_elements.specs.StoragePlaces.{names_place}
use Rattle.nd_elements.specs.along.AxisLanes.{parallel_lanes}
use Rattle.nd_elements.specs.along.AccumulateAlongAxis.{AreAccumulated, TakesLanes}
use Rattle.nd_elements.specs.along.PlacesOfAxisLanes.{lanes_in}
use Rattle.nd_elements.proofs.along_lemmas.RowsAccumulating.{lanes_taken_alike, lanes_done_alike}
use Rattle.nd_elements.proofs.along.accumulate_axis.accumulate_lanes.Goals as goal

pub returns-in-Some-clause-accumulated : goal.returns-in-Some-clause-accumulated
returns-in-Some-clause-accumulated g c =
    let at = lanes_in c.args.lanes in let contiguous = (parallel_lanes at.lanes c.in-Some.lane).place in
    let old = g.S.Data.stored c.args.storage.now in let new = g.S.Data.stored c.accumulate_parallel.new.storage in
    let last = c.accumulate_parallel.result in
    lanes_done_alike g.F.FnMut at.place contiguous at.lanes (at.count - 1) c.in-Some.ensures.contiguous.1 old c.args.f new last
    (subst (λ n. AreAccumulated g.F.FnMut contiguous at.lanes (n - 1) old new c.args.f last) c.in-Some.ensures.contiguous.0
    (subst (λ n. AreAccumulated g.F.FnMut contiguous n (c.in-Some.lane.count - 1) old new c.args.f last) c.args.lanes.many c.accumulate_parallel.ensures.accumulated))

pub accumulate_parallel-requires-clause-checked : goal.accumulate_parallel-requires-clause-checked
accumulate_parallel-requires-clause-checked g c = subst (λ n. n * c.in-Some.lane.count < 2 ^ 63) (sym c.args.lanes.many) (subst (λ n. (lanes_in c.args.lanes).lanes * n < 2 ^ 63) (sym c.in-Some.ensures.contiguous.0) c.requires.checked)

pub accumulate_parallel-requires-clause-lie : goal.accumulate_parallel-requires-clause-lie
accumulate_parallel-requires-clause-lie g c r k on under =
    let lies = c.in-Some.ensures.contiguous in let row = subst (λ n. r < n) c.args.lanes.many on in
    ap is_place (lies.1 r k row) ∙ c.args.lanes.lie r k row (subst (λ n. k < n) lies.0 under)

pub accumulate_parallel-requires-clause-apart : goal.accumulate_parallel-requires-clause-apart
accumulate_parallel-requires-clause-apart g c r k q j on_r on_q on_k on_j e =
    let lies = c.in-Some.ensures.contiguous in let row_r = subst (λ n. r < n) c.args.lanes.many on_r in
    let row_q = subst (λ n. q < n) c.args.lanes.many on_q in
    c.requires.apart r k q j row_r row_q (subst (λ n. k < n) lies.0 on_k) (subst (λ n. j < n) lies.0 on_j) (sym (lies.1 r k row_r) ∙ (e ∙ lies.1 q j row_q))

pub accumulate_parallel-requires-clause-holds : goal.accumulate_parallel-requires-clause-holds
accumulate_parallel-requires-clause-holds g c r k on under =
    let lies = c.in-Some.ensures.contiguous in let row = subst (λ n. r < n) c.args.lanes.many on in
    ap (names_place (g.S.Data.stored c.args.storage.now)) (lies.1 r k row) ∙ c.requires.holds r k row (subst (λ n. k < n) lies.0 under)

pub accumulate_parallel-requires-clause-callable : goal.accumulate_parallel-requires-clause-callable
accumulate_parallel-requires-clause-callable g c =
    let at = lanes_in c.args.lanes in let lies = c.in-Some.ensures.contiguous in let contiguous = (parallel_lanes at.lanes c.in-Some.lane).place in
    let old = g.S.Data.stored c.args.storage.now in
    subst (λ n. TakesLanes g.F.FnMut contiguous n (c.in-Some.lane.count - 1) old c.args.f) (sym c.args.lanes.many)
    (subst (λ n. TakesLanes g.F.FnMut contiguous at.lanes (n - 1) old c.args.f) (sym lies.0)
    (lanes_taken_alike g.F.FnMut at.place contiguous at.lanes (at.count - 1) lies.1 old c.args.f c.requires.callable))

pub accumulate_in_turn-requires-clause-apart : goal.accumulate_in_turn-requires-clause-apart
accumulate_in_turn-requires-clause-apart g c = c.requires.apart
