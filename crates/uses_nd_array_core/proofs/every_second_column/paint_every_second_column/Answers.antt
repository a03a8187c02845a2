use Rattle.std.proofs.Common.{◌≡◌, ◌∙◌, ℕ, true, ap, subst, List}
use Rattle.std.proofs.lemmas.Result.{on_ok_weaker}
use Rattle.std.specs.Prelude.{Some}
use Rattle.nd_array_core.specs.Prelude.{SliceInfoElem}
use Rattle.nd_array_core.specs.ShapesAndIndexOrders.{in_box}
use Rattle.nd_array_core.specs.SliceInfo.{fits_shape, shape_after, index_before}
use Rattle.nd_array_core.specs.ArrayMeaning.{shape_of, element_at}
use Rattle.nd_array_core.specs.scoped.ViewTasks.{OthersKeep}
use Rattle.uses_nd_array_core.proofs.EverySecondColumn.{columns, columns_fit, every_second_of, two_of}
use Rattle.uses_nd_array_core.proofs.every_second_column.paint_every_second_column.Goals as goal

pub fill_slice-requires-clause-fits : goal.fill_slice-requires-clause-fits
fill_slice-requires-clause-fits g c =
    let ns = shape_of c.args.grid.now in
    let two = two_of ns c.requires.two in
    ap (fits_shape ns) c.as_slice.ensures ∙ (ap (λ ns. fits_shape ns columns) two.2 ∙ columns_fit two.0 two.1)

pub returns-clause-painted : goal.returns-clause-painted
returns-clause-painted g c =
    let ns = shape_of c.args.grid.now in
    let new = element_at c.fill_slice.new.self in
    let list : c.as_slice.result.now ≡ columns = c.as_slice.ensures in
    let kept : OthersKeep (shape_after ns columns) (index_before ns columns) (element_at c.args.grid.now) new = subst (λ (es : List SliceInfoElem). OthersKeep (shape_after ns es) (index_before ns es) (element_at c.args.grid.now) new) list c.fill_slice.ensures.kept in
    on_ok_weaker c.fill_slice.result (λ filled. every_second_of ns c.args.colour (element_at c.args.grid.now) new c.requires.two (subst (λ (es : List SliceInfoElem). (i : List ℕ) → in_box (shape_after ns es) i ≡ true → new (index_before ns es i) ≡ Some c.args.colour) list filled) kept) c.fill_slice.ensures.filled
