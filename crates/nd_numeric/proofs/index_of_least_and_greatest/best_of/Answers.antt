use Rattle.std.proofs.Common.{◌≡◌, subst, sym}
use Rattle.std.specs.List.{reduce}
use Rattle.nd_array_core.specs.ConcatenationAndSplit.{row_major_elements}
use Rattle.nd_array_core.specs.ArrayMeaning.{meaning_of}
use Rattle.nd_numeric.specs.IndexOfLeastAndGreatest.{beats_by, better_by}
use Rattle.nd_numeric.proofs.index_of_least_and_greatest.best_of.Goals as goal

pub returns-then-greatest : goal.returns-then-greatest
returns-then-greatest g c =
    subst (λ t. c.max.result ≡ reduce (better_by (beats_by g.A.Ordered.order t)) (row_major_elements (meaning_of c.args.array.now))) (sym c.if-greatest.true) c.max.ensures

pub returns-else-greatest : goal.returns-else-greatest
returns-else-greatest g c =
    subst (λ t. c.min.result ≡ reduce (better_by (beats_by g.A.Ordered.order t)) (row_major_elements (meaning_of c.args.array.now))) (sym c.if-greatest.false) c.min.ensures
