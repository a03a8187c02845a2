use Rattle.nd_elements.proofs.NamesFromOtherCrates.{◌/◌, ◌++◌, ◌∙◌, ap, sym, refl, length}
use Rattle.nd_elements.specs.ElementsAtNumberedPlaces.{all_elements_at}
use Rattle.nd_elements.specs.elements.TransposedRowParts.{columns_of_lanes, rows_by_parts}
use Rattle.nd_elements.proofs.elements_lemmas.RowsByParts.{parts_fit, turned_holds, turned_clones, turned_refused, parts_exchanged}
use Rattle.nd_elements.proofs.elements.to_vec_by_parts_of_rows.list_rows.Goals as goal

pub list_by_parts-requires-clause-clones : goal.list_by_parts-requires-clause-clones
list_by_parts-requires-clause-clones g c =
    let rows = length c.args.lanes.now in let part = c.args.width / rows in
    turned_clones rows part c.args.width (parts_fit rows c.args.width c.requires.some) (columns_of_lanes c.args.lanes.now 0 c.args.width).place (g.S.Data.stored c.args.storage.now) g.S.Elem.Clone.is_clone c.requires.clones

pub list_by_parts-requires-clause-holds : goal.list_by_parts-requires-clause-holds
list_by_parts-requires-clause-holds g c =
    let rows = length c.args.lanes.now in let part = c.args.width / rows in
    turned_holds rows part c.args.width (parts_fit rows c.args.width c.requires.some) (columns_of_lanes c.args.lanes.now 0 c.args.width).place (g.S.Data.stored c.args.storage.now) c.requires.holds

pub returns-in-Err-clause-refused : goal.returns-in-Err-clause-refused
returns-in-Err-clause-refused g c =
    let rows = length c.args.lanes.now in let part = c.args.width / rows in let place = (columns_of_lanes c.args.lanes.now 0 c.args.width).place in
    turned_refused rows part c.args.width (parts_fit rows c.args.width c.requires.some) place (g.S.Data.stored c.args.storage.now) g.S.Elem.Clone.is_infallible c.in-Err.ensures.refused

pub returns-clause-items : goal.returns-clause-items
returns-clause-items g c =
    let rows = length c.args.lanes.now in let part = c.args.width / rows in let place = (columns_of_lanes c.args.lanes.now 0 c.args.width).place in
    let found = all_elements_at g.S.Data.stored (rows_by_parts c.args.lanes.now part c.args.width) c.args.storage.now in
    let done = c.exchange_last.ensures.turned c.args.items.now.items found c.in-Ok.ensures.items (sym (c.len-start.ensures ∙ c.args.items.now.ok.0)) in
    done.1 ∙ ap (λ xs. c.args.items.now.items ++ xs) (parts_exchanged rows part c.args.width (parts_fit rows c.args.width c.requires.some) place (g.S.Data.stored c.args.storage.now) c.requires.holds found done.0 refl done.2)
