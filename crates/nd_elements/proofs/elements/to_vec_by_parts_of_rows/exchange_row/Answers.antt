use Rattle.nd_elements.proofs.NamesFromOtherCrates.{◌≡◌, ◌+◌, ◌*◌, ◌∙◌, refl, subst, arith}
use Rattle.nd_elements.specs.elements.TransposedRowParts.{IsTurnedBelow}
use Rattle.nd_elements.proofs.elements_lemmas.TransposedRowParts.{row_begun, row_done, part_turned, parts_lie}
use Rattle.nd_elements.proofs.elements.to_vec_by_parts_of_rows.exchange_row.Goals as goal

pub loop-other-init : goal.loop-other-init
loop-other-init g c = ((λ xs so_far. row_begun c.args.rows c.args.part c.args.width c.requires.fits c.args.row c.requires.on xs c.args.items.now so_far), refl)

pub loop-other-preserved : goal.loop-other-preserved
loop-other-preserved g c =
    let so_far = c.loop-other.invariant in let test = c.loop-other-test.true in
    let long = c.exchange_runs.ensures.long in (
      (λ xs before. part_turned c.args.rows c.args.part c.args.width c.requires.fits c.args.row c.requires.on c.loop-other.other (omega arith) test xs c.loop-other.items c.exchange_runs.new.items (so_far.0 xs before) long c.exchange_runs.ensures.exchanged),
      long ∙ so_far.1,
    )

pub returns-clause-turned : goal.returns-clause-turned
returns-clause-turned g c xs before =
    let through : c.loop-other.other ≡ c.args.rows = omega arith in
    row_done c.args.rows c.args.part c.args.width c.requires.fits c.args.row c.requires.on xs c.loop-other.items
    (subst (λ b. IsTurnedBelow c.args.rows c.args.part c.args.width (c.args.row * c.args.width + b * c.args.part) xs c.loop-other.items) through (c.loop-other.invariant.0 xs before))

pub overflow_mul-row : goal.overflow_mul-row
overflow_mul-row g c = omega (arith, parts_lie c.args.rows c.args.part c.args.width c.requires.fits c.args.row c.loop-other.other (omega arith) c.loop-other-test.true, c.requires.all)

pub overflow_mul-other : goal.overflow_mul-other
overflow_mul-other g c = omega (arith, parts_lie c.args.rows c.args.part c.args.width c.requires.fits c.args.row c.loop-other.other (omega arith) c.loop-other-test.true, c.requires.all)

pub overflow_add-row : goal.overflow_add-row
overflow_add-row g c = omega (arith, parts_lie c.args.rows c.args.part c.args.width c.requires.fits c.args.row c.loop-other.other (omega arith) c.loop-other-test.true, c.requires.all)

pub overflow_mul-other-in-loop-other : goal.overflow_mul-other-in-loop-other
overflow_mul-other-in-loop-other g c = omega (arith, parts_lie c.args.rows c.args.part c.args.width c.requires.fits c.args.row c.loop-other.other (omega arith) c.loop-other-test.true, c.requires.all)

pub overflow_mul-row-in-loop-other : goal.overflow_mul-row-in-loop-other
overflow_mul-row-in-loop-other g c = omega (arith, parts_lie c.args.rows c.args.part c.args.width c.requires.fits c.args.row c.loop-other.other (omega arith) c.loop-other-test.true, c.requires.all)

pub overflow_add-other : goal.overflow_add-other
overflow_add-other g c = omega (arith, parts_lie c.args.rows c.args.part c.args.width c.requires.fits c.args.row c.loop-other.other (omega arith) c.loop-other-test.true, c.requires.all)

pub exchange_runs-requires-clause-apart : goal.exchange_runs-requires-clause-apart
exchange_runs-requires-clause-apart g c = omega (arith, parts_lie c.args.rows c.args.part c.args.width c.requires.fits c.args.row c.loop-other.other (omega arith) c.loop-other-test.true, c.requires.all)

pub exchange_runs-requires-clause-within : goal.exchange_runs-requires-clause-within
exchange_runs-requires-clause-within g c = omega (arith, parts_lie c.args.rows c.args.part c.args.width c.requires.fits c.args.row c.loop-other.other (omega arith) c.loop-other-test.true, c.requires.all)
