-- Under other lengths each index names the index of its rank.
use Rattle.nd_array_core.proofs.NamesFromOtherCrates.{◌≡◌, ℕ, ◌<◌, true, List, length, reverse, ℤ, pos, ◌+ℤ◌, ap, sym, ◌∙◌, arith, reverse-reverse, length-reverse, Order, RowMajor, ColumnMajor, in_box, size_of, column_rank, HasCheckedSize, displacement_of, IsSeparated, in_box-index_at, row_rank-index_at, length-in_box, rank_in, index_in, Serves, IsStandard, ordered_strides, IsViewStep, IsValid, ReachesPlaces, seen_reaches, in_box-column_index, column_rank-column_index, rank_in-below, in_box-ordered, displacement_of-ordered, rank_in-ordered, ordered_is_ranked, ErrorKind}
use Rattle.nd_array_core.specs.reshape.ReshapeByRank.{regrouped_index, IsInOrder, IsShapeOf, IsRefused, NoShape, NotInOrder, IsOrderTried, Rows, Columns}

-- the index of a rank is in the box, and has that rank
pub index_in_within : (order : Order) (ns : List ℕ) (r : ℕ) → r < size_of ns → in_box ns (index_in order ns r) ≡ true
index_in_within RowMajor ns r below = in_box-index_at ns r below
index_in_within ColumnMajor ns r below = in_box-column_index ns r below

pub rank_of_index_in : (order : Order) (ns : List ℕ) (r : ℕ) → r < size_of ns → rank_in order ns (index_in order ns r) ≡ r
rank_of_index_in RowMajor ns r below = row_rank-index_at ns r below
rank_of_index_in ColumnMajor ns r below = column_rank-column_index ns r below

-- strides that serve give each new index the place of the old one that it names
pub served_seen : (order : Order) (offset : ℕ) (ns : List ℕ) (ss : List ℤ) (ms : List ℕ) (ts : List ℤ) → size_of ms ≡ size_of ns → Serves order ns ss ms ts → IsViewStep offset ns ss offset ms ts (regrouped_index order ns ms)
served_seen order offset ns ss ms ts sizes serves = record {
  within = λ i h. index_in_within order ns (rank_in order ms i) (below i h);
  same = λ i h. ap (λ z. pos offset +ℤ z) (serves.same_displacement (regrouped_index order ns ms i) i (index_in_within order ns (rank_in order ms i) (below i h)) h (rank_of_index_in order ns (rank_in order ms i) (below i h)));
}
  where
    below : (i : List ℕ) → in_box ms i ≡ true → rank_in order ms i < size_of ns
    below i h = omega (arith, sizes, rank_in-below order ms i h)

-- the strides of a new array serve where the elements lie in the order
pub ordered_serves : (order : Order) (ns : List ℕ) (ss : List ℤ) (ms : List ℕ) → HasCheckedSize ms → IsInOrder order ns ss → Serves order ns ss ms (ordered_strides order ms)
ordered_serves order ns ss ms checked laid =
    let ranked = ordered_is_ranked order ms checked in
    record {
      as_many = ranked.as_many;
      same_displacement = λ i j h q same. ranked.at j q ∙ ap pos (sym same) ∙ sym (laid i h);
    }

-- the layout under other lengths
module _ (order : Order) (offset : ℕ) (ns : List ℕ) (ss : List ℤ) (ms : List ℕ) (fits : IsShapeOf ns ms) (laid : IsInOrder order ns ss) where
  pub ordered_seen : IsViewStep offset ns ss offset ms (ordered_strides order ms) (regrouped_index order ns ms)
  ordered_seen = served_seen order offset ns ss ms (ordered_strides order ms) fits.1 (ordered_serves order ns ss ms fits.0 laid)

  pub ordered_valid : ReachesPlaces offset ns ss → IsValid offset ms (ordered_strides order ms)
  ordered_valid reach =
      let ranked = ordered_is_ranked order ms fits.0 in
      record { as_many = ranked.as_many; spread = ranked.spread; checked = fits.0; reach = seen_reaches ordered_seen reach }

pub ordered_apart : (order : Order) (ms : List ℕ) → HasCheckedSize ms → 0 < size_of ms → IsSeparated ms (ordered_strides order ms)
ordered_apart order ms checked some = (ordered_is_ranked order ms checked).apart some

-- ---- column-major order is standard layout with the axes reversed
module _ (ns : List ℕ) (ss : List ℤ) (long : length ss ≡ length ns) where
  pub reversed_in_order : IsStandard (reverse ns) (reverse ss) → IsInOrder ColumnMajor ns ss
  reversed_in_order standard i h =
      let l = length-in_box ns i h in
      let there = in_box-ordered RowMajor ns i l ∙ h in
      let rank = rank_in-ordered RowMajor (reverse ns) (reverse i) (length-reverse i ∙ l ∙ sym (length-reverse ns)) in
      sym (displacement_of-ordered RowMajor ss i (l ∙ sym long))
      ∙ standard (reverse i) there
      ∙ ap pos (sym rank ∙ (λ k. column_rank (reverse-reverse ns k) (reverse-reverse i k)))

  pub in_order_reversed : IsInOrder ColumnMajor ns ss → IsStandard (reverse ns) (reverse ss)
  in_order_reversed laid i h =
      let l = length-in_box (reverse ns) i h in
      let there = ap (λ ms. in_box ms (reverse i)) (sym (reverse-reverse ns)) ∙ in_box-ordered RowMajor (reverse ns) i l ∙ h in
      let rank = rank_in-ordered RowMajor (reverse ns) i l in
      let far = displacement_of-ordered RowMajor (reverse ss) i (l ∙ length-reverse ns ∙ sym long ∙ sym (length-reverse ss)) in
      sym far
      ∙ ap (λ ts. displacement_of ts (reverse i)) (reverse-reverse ss)
      ∙ laid (reverse i) there
      ∙ ap pos (ap (λ ms. column_rank ms (reverse i)) (sym (reverse-reverse ns)) ∙ rank)

-- ---- in the first order in which the elements lie
module _ {ns : List ℕ} {ss : List ℤ} {ms : List ℕ} where
  pub refused_in_both : (order : Order) (e : ErrorKind) → IsOrderTried ns ss order → IsRefused order ns ss ms e → IsRefused RowMajor ns ss ms e × IsRefused ColumnMajor ns ss ms e
  refused_in_both RowMajor e (Rows lie) (NoShape f) = (NoShape f, NoShape f)
  refused_in_both RowMajor e (Rows lie) (NotInOrder f g) = absurd (g lie)
  refused_in_both ColumnMajor e (Columns h) (NoShape f) = (NoShape f, NoShape f)
  refused_in_both ColumnMajor e (Columns h) (NotInOrder f g) = (NotInOrder f h, NotInOrder f g)
