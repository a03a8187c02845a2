-- The indexes of a shape, numbered by their ranks in an order.
use Rattle.nd_elements.proofs.NamesFromOtherCrates.{ℕ, List, size_of, Order, RowMajor, ColumnMajor, row_rank_below, in_box-index_at, row_rank-index_at, index_at-row_rank, column_rank_below, rank_in, index_in, in_box-column_index, column_rank-column_index, column_index-column_rank}
use Rattle.nd_elements.proofs.CallsInFreeOrder.{IsNumbering}

pub order_numbers : (order : Order) (ns : List ℕ) → IsNumbering ns (size_of ns) (index_in order ns) (rank_in order ns)
order_numbers RowMajor ns = record { inside = in_box-index_at ns; rank_is = row_rank-index_at ns; index_is = index_at-row_rank ns; below = row_rank_below ns }
order_numbers ColumnMajor ns = record { inside = in_box-column_index ns; rank_is = column_rank-column_index ns; index_is = column_index-column_rank ns; below = column_rank_below ns }
