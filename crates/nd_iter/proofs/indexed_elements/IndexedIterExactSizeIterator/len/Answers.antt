use Rattle.std.proofs.Common.{length, ap, ◌∙◌, arith, sym}
use Rattle.nd_array_core.specs.ConcatenationAndSplit.{row_major_elements}
use Rattle.nd_array_core.specs.ArrayMeaning.{meaning_of}
use Rattle.nd_iter.specs.IteratedElements.{with_indexes}
use Rattle.nd_iter.proofs.IndexedElements.{indexed_count}
use Rattle.nd_iter.proofs.ListEndsTaken.{length_taken}
use Rattle.nd_iter.proofs.indexed_elements.IndexedIterExactSizeIterator.len.Goals as goal

pub returns-clause-value : goal.returns-clause-value
returns-clause-value g c =
    let it = c.self.inside in
    let m = meaning_of it.array.now in
    let whole = indexed_count m c.elements_by_rank.ensures.count c.elements_by_rank.ensures.each in
    let within = c.self.invariant.0.ends_within in
    let left = ap length (sym c.self.view_is) ∙ length_taken (row_major_elements (with_indexes m)) it.front it.back (omega (arith, whole, within)) in
    omega (arith, left)
