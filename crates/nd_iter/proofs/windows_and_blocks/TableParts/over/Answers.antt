use Rattle.std.proofs.Common.{◌≡◌, ◌*◌, ap, ◌∙◌, arith}
use Rattle.std.specs.Prelude.{slice_index}
use Rattle.std.proofs.lemmas.Grind.{common_steps}
use Rattle.nd_array_core.specs.ArrayMeaning.{meaning_of}
use Rattle.nd_iter.specs.WindowsAndBlocks.{parts_along}
use Rattle.nd_iter.proofs.EqualPartsAlongAxis.{some_across, rows_fit, columns_fit}
use Rattle.nd_iter.proofs.windows_and_blocks.TableParts.over.Goals as goal

pub invariant_of-result : goal.invariant_of-result
invariant_of-result g c =
    let a = c.args in
    let rows = slice_index (meaning_of a.table.now).shape 0 in
    let columns = slice_index (meaning_of a.table.now).shape 1 in
    let in_a_row = c.count_along-across.result in
    let to = c.count_along.result * in_a_row in
    let is : in_a_row ≡ parts_along columns a.width a.right = c.count_along-across.ensures.count ∙ ap (λ n. parts_along n a.width a.right) (ap (λ s. slice_index s 1) c.dim-rows.ensures.lengths) in
    let down : c.count_along.result ≡ parts_along rows a.height a.down = c.count_along.ensures.count ∙ ap (λ n. parts_along n a.height a.down) (ap (λ s. slice_index s 0) c.dim-rows.ensures.lengths) in
    let all : to ≡ parts_along rows a.height a.down * in_a_row = ap (λ n. n * in_a_row) down in
    record {
      across = is;
      ahead = omega arith;
      some_in_row = some_across rows columns a.height a.width a.down a.right in_a_row c.requires.down c.requires.right is 0 to all;
      rows_within = rows_fit rows columns a.height a.width a.down a.right in_a_row c.requires.down c.requires.right is to all;
      columns_within = columns_fit rows columns a.height a.width a.down a.right in_a_row c.requires.down c.requires.right is to all;
    }

pub overflow_mul-result : goal.overflow_mul-result
overflow_mul-result g c = grind (arith, common_steps)
