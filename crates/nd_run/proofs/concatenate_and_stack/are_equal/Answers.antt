use Rattle.std.proofs.Common.{◌≡◌, ◌∙◌, sym, rules}
use Rattle.std.specs.Prelude.{nat_eq}
use Rattle.std.specs.Cmp.Lexicographic.{pointwise}
use Rattle.std.specs.List.{list_all}
use Rattle.std.proofs.lemmas.Iterator.{YieldsList-from_slice}
use Rattle.std.proofs.lemmas.Iterator.Search.{all_from_yields_List}
use Rattle.std.proofs.lemmas.List.Folds.{list_all-map}
use Rattle.nd_array_core.specs.ArrayMeaning.{Meaning, shape_of}
use borrow.Author.Tests.{tests}
use Rattle.nd_run.proofs.concatenate_and_stack.are_equal.Goals as goal

pub returns : goal.returns
returns g c =
    let held = g.T.HoldsArray.held in
    let others = c.args.others.now in
    let ns = shape_of c.args.array.now in
    let all : c.all.result ≡ list_all (λ o. pointwise nat_eq (held o).shape ns) others = all_from_yields_List (λ o. pointwise nat_eq (held o).shape ns) _ _ c.all.result c.all.ensures.ran (YieldsList-from_slice others cc) (λ x b q k. search (rules, tests)) in
    all ∙ sym (list_all-map (λ (n : Meaning g.row.A.Denot). pointwise nat_eq n.shape ns) held others)
