use Rattle.std.proofs.Common.{refl, sym, subst}
use Rattle.std.proofs.lemmas.Option.{slice_get-get_or}
use Rattle.nd_array_core.specs.ArrayMeaning.{meaning_of}
use Rattle.nd_picture.specs.PictureChanges.{Shows}
use Rattle.nd_picture.proofs.ImageLimitsThroughSteps.{still_fits}
use Rattle.nd_picture.proofs.StepsInTurn.{each_taken, run_goes_on, run_more, run_stops, run_ends}
use Rattle.nd_picture.proofs.image_steps_applied.take_steps.Goals as goal

pub loop-nth-init : goal.loop-nth-init
loop-nth-init c = λ p shows. (p, shows, refl)

pub returns-then-not-fits-clause-ends : goal.returns-then-not-fits-clause-ends
returns-then-not-fits-clause-ends c = λ p shows.
    let so = c.loop-nth.invariant p shows in
    run_stops c.args.maxval c.loop-nth.nth c.args.steps.now _ (meaning_of c.loop-nth.picture) so.0 _ so.1 so.2 c.loop-nth-test.true (sym c.if-not-fits.ensures)

pub loop-nth-preserved : goal.loop-nth-preserved
loop-nth-preserved c = λ p shows.
    let so = c.loop-nth.invariant p shows in
    (_, c.in-Ok.ensures.after so.0 so.1, run_more c.args.maxval c.loop-nth.nth c.args.steps.now _ (meaning_of c.loop-nth.picture) so.0 _ so.1 so.2 c.loop-nth-test.true (sym c.if-not-fits.ensures))

pub returns-clause-ends : goal.returns-clause-ends
returns-clause-ends c = λ p shows.
    let so = c.loop-nth.invariant p shows in
    (so.0, run_ends c.args.maxval c.loop-nth.nth c.args.steps.now so.0 _ so.2 c.loop-nth-test.false, so.1)

pub returns-in-Err-clause-memory : goal.returns-in-Err-clause-memory
returns-in-Err-clause-memory c = λ refused. (
  c.loop-nth.nth,
  _,
  slice_get-get_or c.args.steps.now c.loop-nth.nth _ c.loop-nth-test.true,
  c.in-Err.ensures.memory,
  λ p shows.
      let so = c.loop-nth.invariant p shows in
      run_goes_on c.args.maxval c.loop-nth.nth c.args.steps.now _ (meaning_of c.loop-nth.picture) so.0 _ so.1 so.2 c.loop-nth-test.true (sym c.if-not-fits.ensures),
)

pub returns-clause-after : goal.returns-clause-after
returns-clause-after c = λ p shows.
    let so = c.loop-nth.invariant p shows in
    let end = run_ends c.args.maxval c.loop-nth.nth c.args.steps.now so.0 _ so.2 c.loop-nth-test.false in
    subst (Shows (meaning_of c.loop-nth.picture)) (each_taken c.args.maxval 1 c.args.steps.now p so.0 end) so.1

pub returns-clause-fits : goal.returns-clause-fits
returns-clause-fits c =
    still_fits c.args.maxval c.args.steps.now (meaning_of c.args.picture) (meaning_of c.loop-nth.picture)
    (λ p shows.
    (let so = c.loop-nth.invariant p shows in
    (so.0, run_ends c.args.maxval c.loop-nth.nth c.args.steps.now so.0 _ so.2 c.loop-nth-test.false, so.1)))
