use Rattle.std.proofs.Common.{◌∙◌, ◌+◌, refl, sym, subst₂, [], arith}
use Rattle.nd_picture_text.proofs.TakenRows.{takes_none, takes_more}
use Rattle.nd_picture.specs.RowByRowOutput.{PutsFirst}
use Rattle.nd_picture.proofs.ImageRowByRow.{next_are_rows, first_none, first_more, row_fault, fault_failed}
use Rattle.nd_picture.proofs.image_row_by_row.put_rows.Goals as goal

pub loop-done-init : goal.loop-done-init
loop-done-init g c = record {
  rows = ([], 0, omega arith, takes_none c.args.plan.header _, first_none c.args.steps.now c.args.plan.header c.args.plan.after c.requires.header c.requires.plan g.W.Write.contents c.args.output.now c.args.page.now);
  failed = c.requires.fine;
  stops = refl;
}

pub returns-in-Err-clause-put : goal.returns-in-Err-clause-put
returns-in-Err-clause-put g c =
    let so = c.loop-done.invariant.rows in
    let h = c.args.plan.header in
    (c.loop-done.done, so.0, so.1, _, so.3, so.4, row_fault h c.loop-done.done so.1 c.args.plan.size so.0 _ _ c.in-Err.error c.fault_of.result c.loop-done.passed so.4.1 so.3 c.in-Err.ensures.bad so.2 c.fault_of.ensures)

pub returns-in-Err-clause-failed : goal.returns-in-Err-clause-failed
returns-in-Err-clause-failed g c = fault_failed c.loop-done.passed c.in-Err.error c.fault_of.result _ c.fault_of.ensures c.in-Err.ensures.failed

pub put_made-requires-clause-rows : goal.put_made-requires-clause-rows
put_made-requires-clause-rows g c =
    let so = c.loop-done.invariant.rows in
    let next = c.in-Ok.ensures.rows in
    next_are_rows c.args.steps.now c.args.plan.header c.args.plan.after c.requires.header c.requires.plan c.loop-done.done so.0 so.4.0 so.4.1 so.4.2 so.4.4 c.in-Ok.rows.image c.in-Ok.ensures.whole next.1 next.2

pub loop-done-preserved : goal.loop-done-preserved
loop-done-preserved g c =
    let so = c.loop-done.invariant.rows in
    let next = c.in-Ok.ensures.rows in
    record {
      rows = (
        _,
        so.1 + c.in-Ok.rows.size,
        omega (arith, so.2),
        takes_more c.args.plan.header c.loop-done.done c.in-Ok.rows.image.header.height so.1 c.in-Ok.rows.size so.0 c.in-Ok.rows.image.samples.items _ _ _ so.3 next.0,
        first_more c.args.steps.now c.args.plan.header c.args.plan.after c.requires.header c.requires.plan g.W.Write.contents c.loop-done.done so.0 c.args.output.now c.loop-done.output c.put_made.new.output c.args.page.now c.loop-done.page c.put_made.new.page c.in-Ok.rows.image so.4
            c.in-Ok.ensures.whole next.1 next.2 c.in-Ok-put_made.ensures.put,
      );
      failed = c.in-Ok.ensures.failed;
      stops = c.in-Ok.ensures.stops ∙ c.loop-done.invariant.stops;
    }

pub returns-in-Err-put_made-clause-put : goal.returns-in-Err-put_made-clause-put
returns-in-Err-put_made-clause-put g c =
    let so = c.loop-done.invariant.rows in
    let kept = subst₂ (λ o p. PutsFirst g.W.Write.contents c.args.steps.now c.args.plan.header c.args.plan.after c.loop-done.done so.0 c.args.output.now c.args.page.now o p) (sym c.in-Err-put_made.ensures.output) (sym c.in-Err-put_made.ensures.page) so.4 in
    (c.loop-done.done, so.0, so.1, _, so.3, kept, tt)

pub returns-clause-put : goal.returns-clause-put
returns-clause-put g c =
    let so = c.loop-done.invariant.rows in
    (c.loop-done.done, so.0, so.1, _, so.3, so.4, omega (arith, so.4.1, c.loop-done-test.false))
