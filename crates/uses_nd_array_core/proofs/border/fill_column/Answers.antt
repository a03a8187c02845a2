use Rattle.std.proofs.Common.{FitsSigned, w64, rules, arith, ap, slice_index}
use Rattle.std.proofs.lemmas.Bool.Decides.{nat_tests}
use Rattle.std.proofs.lemmas.Int.{to_z-of_z}
use Rattle.std.proofs.lemmas.Result.{on_ok_weaker}
use Rattle.nd_array_core.specs.ArrayMeaning.{shape_of, element_at}
use Rattle.nd_array_core.proofs.AxesOfDimensionTypes.{known_axes, rows_and_columns}
use Rattle.uses_nd_array_core.proofs.RowsAndColumnsByIndex.{column_of, column_filled_of, column_kept_of}
use Rattle.uses_nd_array_core.proofs.border.fill_column.Goals as goal

pub returns-clause-filled : goal.returns-clause-filled
returns-clause-filled g c =
    let k = c.args.column in
    let fits : FitsSigned w64 k = search rules in
    on_ok_weaker c.fill_line.result (λ filled. column_filled_of (slice_index (shape_of c.args.image.now) 0) (slice_index (shape_of c.args.image.now) 1) k (shape_of c.args.image.now) _ c.args.value.now (element_at c.fill_line.new.image) (rows_and_columns c.args.image.now) (ap column_of (to_z-of_z w64 k fits)) c.requires.there filled) c.fill_line.ensures.filled

pub fill_line-requires-clause-fits : goal.fill_line-requires-clause-fits
fill_line-requires-clause-fits g c = grind (arith, nat_tests, known_axes)

pub returns-clause-kept : goal.returns-clause-kept
returns-clause-kept g c =
    let k = c.args.column in
    let fits : FitsSigned w64 k = search rules in
    column_kept_of (slice_index (shape_of c.args.image.now) 0) (slice_index (shape_of c.args.image.now) 1) k (shape_of c.args.image.now) _ (element_at c.args.image.now) (element_at c.fill_line.new.image) (rows_and_columns c.args.image.now) (ap column_of (to_z-of_z w64 k fits)) c.requires.there c.fill_line.ensures.kept
