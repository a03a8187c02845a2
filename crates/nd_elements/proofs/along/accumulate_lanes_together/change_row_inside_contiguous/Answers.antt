use Rattle.nd_elements.proofs.NamesFromOtherCrates.{refl}
use Rattle.nd_elements.proofs.along_lemmas.RowPairs.{row_asks, row_done}
use Rattle.nd_elements.proofs.along.accumulate_lanes_together.change_row_inside_contiguous.Goals as goal

pub split_with-f-requires-clause-callable : goal.split_with-f-requires-clause-callable
split_with-f-requires-clause-callable g c x y first second =
    let asked = row_asks c.args.p c.args.count _ refl g.F.FnMut c.args.region c.args.q c.requires.apart c.args.f c.requires.holds.0 c.requires.holds.1 c.requires.callable x y first second in
    (asked.0, (asked.1, λ left r now below run v w shows gives. asked.2 left r now below run v w shows gives))

pub returns : goal.returns
returns g c =
    let e = c.split_with-f.ensures in
    row_done c.args.p c.args.count _ refl g.F.FnMut c.args.region c.args.q c.requires.apart c.args.f c.requires.holds.1 e.0 e.1 e.2 e.3 c.split_with-f.result c.split_with-f.new.self e.4 e.5 e.6.2 e.7 e.9
