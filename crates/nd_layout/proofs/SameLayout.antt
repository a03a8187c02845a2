-- Layouts of one offset, dimension and strides are one layout.
use Rattle.nd_layout.proofs.NamesFromOtherCrates.{◌≡◌, ℕ, ◌<◌, ◌^◌, true, List, length, props, is_prop→PathP, in_box, nonzero_product, place_of, span_of}
use Rattle.nd_shape_and_slice.specs.declared.dimension.Dimension as dimension
use Rattle.nd_shape_and_slice.specs.declared.dimension.AxisCount as axis_count
use Rattle.nd_shape_and_slice.specs.declared.dimension.StrideList as stride_list
use Rattle.nd_layout.specs.ValidMemoryPlaces.{is_place}
use Rattle.nd_layout.specs.declared.layout.Layout.{Layout}

pub same_layout : {D T R : Type 0} {d : dimension.Ghosts D R} {n : axis_count.Ghosts D} {r : stride_list.Ghosts R} {t : stride_list.Ghosts T} (a b : Layout D T R d n r t)
    → a.offset ≡ b.offset → a.dim ≡ b.dim → a.strides ≡ b.strides → a ≡ b
same_layout {d = d} {t = t} a b o p q = λ k. record {
  offset = o k;
  dim = p k;
  strides = q k;
  as_many = is_prop→PathP (λ j. length (t.strides_of (q j)) ≡ length (d.lengths (p j))) (λ j. hlevel props) a.as_many b.as_many k;
  spread = is_prop→PathP (λ j. span_of (d.lengths (p j)) (t.strides_of (q j)) < 2 ^ 63) (λ j. hlevel props) a.spread b.spread k;
  checked = is_prop→PathP (λ j. nonzero_product (d.lengths (p j)) < 2 ^ 63) (λ j. hlevel props) a.checked b.checked k;
  reach = is_prop→PathP (λ j. (i : List ℕ) → in_box (d.lengths (p j)) i ≡ true → is_place (place_of (o j) (t.strides_of (q j)) i) ≡ true) (λ j. hlevel props) a.reach b.reach k;
}
