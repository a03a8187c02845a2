use Rattle.nd_elements.proofs.NamesFromOtherCrates.{◌≡◌, ◌+◌, ◌*◌, subst, arith}
use Rattle.nd_elements.specs.elements.TransposedRowParts.{IsTurnedBelow}
use Rattle.nd_elements.proofs.elements_lemmas.TransposedRowParts.{none_turned}
use Rattle.nd_elements.proofs.elements.to_vec_by_parts_of_rows.exchange_parts.Goals as goal

pub loop-row-init : goal.loop-row-init
loop-row-init g c =
    let none : 0 ≡ 0 * c.args.width = omega arith in
    subst (λ to. IsTurnedBelow c.args.rows c.args.part c.args.width to c.args.items.now c.args.items.now) none (none_turned c.args.rows c.args.part c.args.width c.requires.fits c.args.items.now)

pub loop-row-preserved : goal.loop-row-preserved
loop-row-preserved g c =
    let next : c.loop-row.row * c.args.width + c.args.width ≡ (c.loop-row.row + 1) * c.args.width = omega arith in
    subst (λ to. IsTurnedBelow c.args.rows c.args.part c.args.width to c.args.items.now c.exchange_row.new.items) next (c.exchange_row.ensures.turned c.args.items.now c.loop-row.invariant)

pub returns : goal.returns
returns g c =
    let through : c.loop-row.row ≡ c.args.rows = omega arith in
    record {
      turned = subst (λ r. IsTurnedBelow c.args.rows c.args.part c.args.width (r * c.args.width) c.args.items.now c.loop-row.items) through c.loop-row.invariant;
    }
