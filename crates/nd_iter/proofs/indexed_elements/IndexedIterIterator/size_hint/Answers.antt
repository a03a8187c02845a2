use Rattle.std.proofs.Common.{◌≡◌, ◌-◌, length, ap, ◌∙◌, arith, sym, Some}
use Rattle.std.proofs.lemmas.Grind.{common_steps}
use Rattle.nd_array_core.specs.ConcatenationAndSplit.{row_major_elements}
use Rattle.nd_array_core.specs.ArrayMeaning.{meaning_of}
use Rattle.nd_iter.specs.IteratedElements.{with_indexes}
use Rattle.nd_iter.proofs.IndexedElements.{indexed_count}
use Rattle.nd_iter.proofs.ListEndsTaken.{length_taken}
use Rattle.nd_iter.proofs.indexed_elements.IndexedIterIterator.size_hint.Goals as goal

pub returns-clause-lower : goal.returns-clause-lower
returns-clause-lower g c _ =
    let it = c.self.inside in
    let m = meaning_of it.array.now in
    let whole = indexed_count m c.elements_by_rank.ensures.count c.elements_by_rank.ensures.each in
    let within = c.self.invariant.0.ends_within in
    let left = ap length (sym c.self.view_is) ∙ length_taken (row_major_elements (with_indexes m)) it.front it.back (omega (arith, whole, within)) in
    omega (arith, left)

pub returns-clause-upper : goal.returns-clause-upper
returns-clause-upper g c = grind (arith, common_steps)

pub returns-clause-exact : goal.returns-clause-exact
returns-clause-exact g c =
    let it = c.self.inside in
    let m = meaning_of it.array.now in
    let whole = indexed_count m c.elements_by_rank.ensures.count c.elements_by_rank.ensures.each in
    let within = c.self.invariant.0.ends_within in
    let left = ap length (sym c.self.view_is) ∙ length_taken (row_major_elements (with_indexes m)) it.front it.back (omega (arith, whole, within)) in
    let count : it.back - it.front ≡ length c.args.self.now = sym left in
    (count, ap Some count)
