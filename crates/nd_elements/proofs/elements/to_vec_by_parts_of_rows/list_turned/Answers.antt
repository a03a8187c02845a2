use Rattle.nd_elements.proofs.NamesFromOtherCrates.{◌++◌, ◌∙◌, ap, subst, arith, rules, by_rank, on_ok_weaker, on_err_weaker}
use Rattle.nd_elements.specs.ElementsAtNumberedPlaces.{ranked_by}
use Rattle.nd_elements.specs.elements.TransposedRowParts.{HasRows}
use Rattle.nd_elements.proofs.elements_lemmas.RowsByParts.{rows_long, rows_hold, rows_clones, rows_refused, rows_listed}
use Rattle.nd_elements.proofs.elements.to_vec_by_parts_of_rows.list_turned.Goals as goal

pub list_rows-requires-clause-long : goal.list_rows-requires-clause-long
list_rows-requires-clause-long g c =
    let rows = c.rows_in-rows.result in let lanes = c.rows_in-rows.new.rows in
    let has = subst (λ p. HasRows (by_rank p) c.size.result c.length-width.result lanes rows) c.places.ensures (c.rows_in-rows.ensures (omega (arith, c.if-rows-eq0.false))) in
    rows_long (ranked_by c.args.layout.now) c.size.result c.length-width.result lanes rows has

pub list_rows-requires-clause-clones : goal.list_rows-requires-clause-clones
list_rows-requires-clause-clones g c =
    let rows = c.rows_in-rows.result in let lanes = c.rows_in-rows.new.rows in
    let has = subst (λ p. HasRows (by_rank p) c.size.result c.length-width.result lanes rows) c.places.ensures (c.rows_in-rows.ensures (omega (arith, c.if-rows-eq0.false))) in
    rows_clones (ranked_by c.args.layout.now) c.size.result c.length-width.result lanes rows has c.size.ensures (g.S.Data.stored c.args.storage.now) g.S.Elem.Clone.is_clone c.requires.clones

pub list_rows-requires-clause-holds : goal.list_rows-requires-clause-holds
list_rows-requires-clause-holds g c =
    let rows = c.rows_in-rows.result in let lanes = c.rows_in-rows.new.rows in
    let has = subst (λ p. HasRows (by_rank p) c.size.result c.length-width.result lanes rows) c.places.ensures (c.rows_in-rows.ensures (omega (arith, c.if-rows-eq0.false))) in
    rows_hold (ranked_by c.args.layout.now) c.size.result c.length-width.result lanes rows has c.size.ensures (g.S.Data.stored c.args.storage.now) c.requires.holds

pub returns : goal.returns
returns g c =
    let rows = c.rows_in-rows.result in let lanes = c.rows_in-rows.new.rows in
    let has = subst (λ p. HasRows (by_rank p) c.size.result c.length-width.result lanes rows) c.places.ensures (c.rows_in-rows.ensures (omega (arith, c.if-rows-eq0.false))) in
    let stored = g.S.Data.stored c.args.storage.now in record {
      items = on_ok_weaker c.list_rows.result
          (λ put. put ∙ ap (λ xs. c.args.items.now.items ++ xs) (rows_listed (ranked_by c.args.layout.now) c.size.result c.length-width.result lanes rows has c.size.ensures stored))
          c.list_rows.ensures.items;
      count = search rules;
      room = search rules;
      kept = search rules;
      refused = on_err_weaker c.list_rows.result
          (rows_refused (ranked_by c.args.layout.now) c.size.result c.length-width.result lanes rows has c.size.ensures stored g.S.Elem.Clone.is_infallible)
          c.list_rows.ensures.refused;
    }
