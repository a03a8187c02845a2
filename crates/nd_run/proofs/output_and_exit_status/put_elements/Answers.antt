use Rattle.std.proofs.Common.{◌≡◌, ◌∙◌, ◌<◌, sym, ap, arith, length, Some, None}
use Rattle.nd_shape_and_slice.specs.ShapesAndIndexOrders.{size_of, index_at}
use Rattle.nd_shape_and_slice.proofs.RowMajorIndexList.{length-index_at}
use Rattle.nd_array_core.specs.ArrayMeaning.{meaning_of, shape_of, element_at}
use Rattle.nd_run.proofs.ElementsWrittenInOrder.{written_some, written_skip, written_all}
use Rattle.nd_run.proofs.output_and_exit_status.put_elements.Goals as goal
use Rattle.nd_run.proofs.output_and_exit_status.put_elements.Goals.{in-Some, in_default}

pub loop-rank-preserved : goal.loop-rank-preserved
loop-rank-preserved g c =
    let array = c.args.array.now in
    let rank = c.loop-rank.rank in
    let index : c.index_of_rank.new.index ≡ index_at (shape_of array) rank = c.index_of_rank.ensures ∙ ap (λ l. index_at l rank) c.shape.ensures.value in
    let below : rank < size_of (shape_of array) = omega (arith, c.len-rank-end.ensures.value, c.loop-rank-test.true) in
    let long : length (index_at (shape_of array) rank) ≡ length (shape_of array) = length-index_at (shape_of array) rank in
    rw index (elim c.match-get.branch [
      | in-Some w ↦
          let there : element_at array (index_at (shape_of array) rank) ≡ Some w.in-Some.value.now = sym (w.in-Some.ensures.element ∙ ap (element_at array) index) in
          rw (w.output-is, w.page-is) (written_some g.W.Write.contents (meaning_of array) c.args.output.now c.args.page.now c.loop-rank.output w.put.new.out w.put_number.new.out c.loop-rank.page w.put.new.page w.put_number.new.page c.loop-rank.index rank w.in-Some.value.now below long there w.put.ensures w.put_number.ensures c.loop-rank.invariant)
      | in_default w ↦
          let absent : element_at array (index_at (shape_of array) rank) ≡ None = sym (w.in_default.ensures.element ∙ ap (element_at array) index) in
          rw (w.output-is, w.page-is) (written_skip g.W.Write.contents (meaning_of array) c.args.output.now c.args.page.now c.loop-rank.output c.loop-rank.page c.loop-rank.index rank below long absent c.loop-rank.invariant)
    ])

pub returns : goal.returns
returns g c = written_all g.W.Write.contents (meaning_of c.args.array.now) c.args.output.now c.args.page.now c.loop-rank.output c.loop-rank.page c.loop-rank.index c.loop-rank.rank (omega (arith, c.len-rank-end.ensures.value, c.loop-rank-test.false)) c.loop-rank.invariant
