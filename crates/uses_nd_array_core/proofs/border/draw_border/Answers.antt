use Rattle.std.proofs.Common.{refl}
use Rattle.std.proofs.lemmas.Result.{on_ok_weaker}
use Rattle.nd_array_core.specs.ArrayMeaning.{shape_of, element_at}
use Rattle.uses_nd_array_core.proofs.BorderOfRowsAndColumns.{border_kept, border_drawn}
use Rattle.uses_nd_array_core.proofs.border.draw_border.Goals as goal

pub returns-clause-kept : goal.returns-clause-kept
returns-clause-kept g c = border_kept c.rows_and_columns-rows.result.0 c.rows_and_columns-rows.result.1 _ _ _ _ c.rows_and_columns-rows.ensures c.fill_row.ensures.shape c.fill_row-2.ensures.shape c.fill_column.ensures.shape _ _ _ _ _ c.fill_row.ensures.kept c.fill_row-2.ensures.kept c.fill_column.ensures.kept c.fill_column-2.ensures.kept

pub returns-clause-drawn : goal.returns-clause-drawn
returns-clause-drawn g c = on_ok_weaker c.fill_column-2.result (λ filled. border_drawn c.rows_and_columns-rows.result.0 c.rows_and_columns-rows.result.1 _ _ _ _ c.rows_and_columns-rows.ensures c.fill_row.ensures.shape c.fill_row-2.ensures.shape c.fill_column.ensures.shape (element_at c.args.image.now) _ _ _ _ c.args.value c.in_ok-fill_row.ensures.filled c.in_ok-fill_row-2.ensures.filled c.fill_row-2.ensures.kept c.in_ok-fill_column.ensures.filled c.fill_column.ensures.kept filled c.fill_column-2.ensures.kept) c.fill_column-2.ensures.filled

pub returns-in_err-fill_column-clause-kept : goal.returns-in_err-fill_column-clause-kept
returns-in_err-fill_column-clause-kept g c = border_kept c.rows_and_columns-rows.result.0 c.rows_and_columns-rows.result.1 _ _ _ _ c.rows_and_columns-rows.ensures c.fill_row.ensures.shape c.fill_row-2.ensures.shape c.fill_column.ensures.shape _ _ _ _ _ c.fill_row.ensures.kept c.fill_row-2.ensures.kept c.fill_column.ensures.kept (λ i h. refl)

pub returns-in_err-fill_row-2-clause-kept : goal.returns-in_err-fill_row-2-clause-kept
returns-in_err-fill_row-2-clause-kept g c = border_kept c.rows_and_columns-rows.result.0 c.rows_and_columns-rows.result.1 _ _ _ _ c.rows_and_columns-rows.ensures c.fill_row.ensures.shape c.fill_row-2.ensures.shape refl _ _ _ (element_at c.fill_row-2.new.image) (element_at c.fill_row-2.new.image) c.fill_row.ensures.kept c.fill_row-2.ensures.kept (λ i h. refl) (λ i h. refl)
