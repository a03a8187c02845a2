-- Three images beside one another.
use Rattle.nd_array_core.specs.declared.base.array.ArrayBase.{ArrayBase}
use Rattle.nd_array_core.specs.Prelude.{Table, table_of, joined_right}

module _ {S D A T R : Type 0} {s : _} {d : _} {n : _} {r : _} {t : _} where
  -- Returns the table with the columns of `left`, then those of `middle`, and then those of `right`.
  abbrev pub three_joined : ArrayBase S D T A R s d n r t → ArrayBase S D T A R s d n r t → ArrayBase S D T A R s d n r t → Table A
  three_joined left middle right = joined_right (joined_right (table_of left) (table_of middle)) (table_of right)
