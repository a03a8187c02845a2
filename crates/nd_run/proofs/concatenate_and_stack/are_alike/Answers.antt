use Rattle.std.proofs.Common.{◌≡◌, ◌∙◌, ap, set, sym, rules}
use Rattle.std.specs.Prelude.{nat_eq}
use Rattle.std.specs.Cmp.Lexicographic.{pointwise}
use Rattle.std.specs.List.{list_all}
use Rattle.std.proofs.lemmas.Iterator.{YieldsList-from_slice}
use Rattle.std.proofs.lemmas.Iterator.Search.{all_from_yields_List}
use Rattle.std.proofs.lemmas.List.Folds.{list_all-map}
use Rattle.nd_array_core.specs.ArrayMeaning.{Meaning, shape_of}
use Rattle.nd_stacking.specs.ConcatenateAndStack.{is_alike_but}
use borrow.Author.Tests.{tests}
use Rattle.nd_run.proofs.concatenate_and_stack.are_alike.Goals as goal

pub returns : goal.returns
returns g c =
    let held = g.T.HoldsArray.held in
    let others = c.args.others.now in
    let ns = shape_of c.args.array.now in
    let all : c.all.result ≡ list_all (λ o. pointwise nat_eq (set (held o).shape c.args.axis c.len_of-len.result) ns) others = all_from_yields_List (λ o. pointwise nat_eq (set (held o).shape c.args.axis c.len_of-len.result) ns) _ _ c.all.result c.all.ensures.ran (YieldsList-from_slice others cc) (λ x b q k. search (rules, tests)) in
    all ∙ (ap (λ n. list_all (λ o. pointwise nat_eq (set (held o).shape c.args.axis n) ns) others) c.len_of-len.ensures.value ∙ sym (list_all-map (λ (n : Meaning g.row.A.Denot). is_alike_but c.args.axis ns n.shape) held others))
