use Rattle.nd_array_core.proofs.NamesFromOtherCrates.{sym, subst, ◌∙◌, Order}
use Rattle.nd_array_core.specs.ArrayMeaning.{shape_of, element_at}
use Rattle.nd_array_core.specs.reshape.ServingStrides.{ListsInOrder}
use Rattle.nd_array_core.proofs.reshape_lemmas.ElementsListedInOrder.{listed_by_rank, listed_column, turned_count}
use Rattle.nd_array_core.proofs.reshape.copies_in_an_order.listed_in.Goals as goal

pub returns-in_ok-rows-in-RowMajor-clause-listed : goal.returns-in_ok-rows-in-RowMajor-clause-listed
returns-in_ok-rows-in-RowMajor-clause-listed g c =
    let items = c.in_ok-rows-in-RowMajor.rows.items in subst (λ (o : Order). ListsInOrder o c.args.array.now items) (sym c.in-RowMajor.is) (listed_by_rank c.args.array.now items c.in_ok-rows-in-RowMajor.ensures.items)

pub returns-in_ok-columns-in-ColumnMajor-clause-count : goal.returns-in_ok-columns-in-ColumnMajor-clause-count
returns-in_ok-columns-in-ColumnMajor-clause-count g c = c.in_ok-columns-in-ColumnMajor.ensures.count ∙ turned_count (shape_of c.args.array.now) (shape_of c.t-turned.result) c.t-turned.ensures.part.0

pub returns-in_ok-columns-in-ColumnMajor-clause-listed : goal.returns-in_ok-columns-in-ColumnMajor-clause-listed
returns-in_ok-columns-in-ColumnMajor-clause-listed g c =
    let array = c.args.array.now in let turned = c.t-turned.result in let items = c.in_ok-columns-in-ColumnMajor.columns.items in
    subst (λ (o : Order). ListsInOrder o array items) (sym c.in-ColumnMajor.is)
    (listed_column (shape_of array) (shape_of turned) (element_at array) (element_at turned) items c.t-turned.ensures.part.0 c.t-turned.ensures.part.2 (listed_by_rank turned items c.in_ok-columns-in-ColumnMajor.ensures.items))
