use Rattle.std.proofs.Common.{sym, ◌∙◌}
use Rattle.nd_array_core.specs.ConcatenationAndSplit.{row_major_elements}
use Rattle.nd_array_core.specs.ArrayMeaning.{meaning_of}
use Rattle.nd_iter.specs.IteratedElements.{with_indexes}
use Rattle.nd_iter.proofs.IndexedElements.{indexed_count}
use Rattle.nd_iter.proofs.ListEndsTaken.{all_taken}
use Rattle.nd_iter.proofs.indexed_elements.indexed_iter.Goals as goal

pub returns : goal.returns
returns g c =
    let m = meaning_of c.args.array.now in
    all_taken (row_major_elements (with_indexes m)) c.len-back.result (indexed_count m c.elements_by_rank.ensures.count c.elements_by_rank.ensures.each ∙ sym c.len-back.ensures.value)
