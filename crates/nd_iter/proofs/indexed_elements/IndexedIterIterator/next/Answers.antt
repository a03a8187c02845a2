use Rattle.std.proofs.Common.{◌∙◌, sym, arith, Some}
use Rattle.std.proofs.lemmas.Grind.{common_steps}
use Rattle.nd_array_core.specs.ConcatenationAndSplit.{row_major_elements}
use Rattle.nd_array_core.specs.ArrayMeaning.{meaning_of}
use Rattle.nd_iter.specs.IteratedElements.{with_indexes}
use Rattle.nd_iter.proofs.IndexedElements.{indexed_count, indexed_there}
use Rattle.nd_iter.proofs.ListEndsTaken.{first_part, first_part_nearer}
use Rattle.nd_iter.proofs.indexed_elements.IndexedIterIterator.next.Goals as goal

pub returns-clause-steps : goal.returns-clause-steps
returns-clause-steps g c =
    let it = c.self.inside in
    let m = meaning_of it.array.now in
    let ranks = c.self.invariant.0 in
    let ahead = ranks.ahead in
    let within = ranks.ends_within in
    let whole = indexed_count m c.elements_by_rank.ensures.count c.elements_by_rank.ensures.each in
    let index = c.into_pattern.ensures ∙ c.index_of-index.ensures in
    first_part (row_major_elements (with_indexes m)) it.front it.back (omega (arith, whole, within)) c.args.self.now (sym c.self.view_is) (omega (arith, ahead, c.if-self.false)) _
    (indexed_there m c.elements_by_rank.ensures.count c.elements_by_rank.ensures.each it.front c.listed_at.result.now (omega (arith, ahead, within, c.if-self.false)) c.listed_at.ensures.listed ∙ (λ t. Some (sym index t, c.listed_at.result.now)))

pub returns-clause-goes : goal.returns-clause-goes
returns-clause-goes g c =
    let it = c.self.inside in
    let m = meaning_of it.array.now in
    let ranks = c.self.invariant.0 in
    let ahead = ranks.ahead in
    let within = ranks.ends_within in
    let whole = indexed_count m c.elements_by_rank.ensures.count c.elements_by_rank.ensures.each in
    record {
      on = λ _. (tt, tt, first_part_nearer (row_major_elements (with_indexes m)) it.front it.back (omega (arith, whole, within)) c.args.self.now (sym c.self.view_is) (omega (arith, ahead, c.if-self.false)) (g.D.IntoPattern.pattern_lengths c.into_pattern.result, c.listed_at.result.now));
      keeps = tt;
      rests = λ _. tt;
    }

pub returns-then-self-clause-steps : goal.returns-then-self-clause-steps
returns-then-self-clause-steps g c = grind (arith, common_steps)

pub invariant_of-self : goal.invariant_of-self
invariant_of-self g c = grind (arith, common_steps)
