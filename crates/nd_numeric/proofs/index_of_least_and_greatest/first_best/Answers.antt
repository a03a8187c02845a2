use Rattle.std.proofs.lemmas.Option.{IfSome_then}
use Rattle.nd_array_core.specs.ArrayMeaning.{meaning_of}
use Rattle.nd_numeric.specs.IndexOfLeastAndGreatest.{beats_by}
use Rattle.nd_numeric.proofs.FoldKeepingTheBest.{beats_strict}
use Rattle.nd_numeric.proofs.FirstBestElement.{best_found, none_found}
use Rattle.nd_numeric.proofs.index_of_least_and_greatest.first_best.Goals as goal

pub returns : goal.returns
returns g c =
    let order = g.A.Ordered.order in
    let beats = beats_by order c.args.greatest in
    let strict = beats_strict order g.met.A.Ordered.order_law c.args.greatest in
    let m = meaning_of c.args.array.now in
    let found = best_found m c.elements_by_rank.ensures.count c.elements_by_rank.ensures.each c.nothing_outside.ensures beats strict c.best_rank.result c.best_rank.ensures in
    record {
      none = none_found m c.elements_by_rank.ensures.count c.elements_by_rank.ensures.each c.nothing_outside.ensures beats strict c.best_rank.result c.best_rank.ensures;
      within = IfSome_then c.best_rank.result found (λ k is. is.0);
      best = IfSome_then c.best_rank.result found (λ k is. is.1);
    }
