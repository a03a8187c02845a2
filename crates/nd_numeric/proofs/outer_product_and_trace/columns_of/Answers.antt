use Rattle.std.proofs.Common.{◌≡◌, ◌∙◌, ◌∷◌, [], ap, arith, refl, reverse, slice_index, sym, true≢false, ℕ}
use Rattle.nd_shape_and_slice.specs.Broadcast.{broadcasts}
use Rattle.nd_array_core.specs.ArrayMeaning.{meaning_of, element_at, shape_of}
use Rattle.nd_array_core.specs.elements.BroadcastPairs.{broadcast_at}
use Rattle.nd_array_core.proofs.AxesOfDimensionTypes.{one_length}
use Rattle.nd_numeric.proofs.FirstAxisBroadcast.{rest_broadcasts}
use Rattle.nd_numeric.proofs.OuterProducts.{cell_is, line_long, test_of, turned_checked}
use Rattle.nd_numeric.proofs.outer_product_and_trace.columns_of.Goals as goal

two_are : (a b x y : ℕ) → a ≡ x → b ≡ y → a ∷ b ∷ [] ≡ x ∷ y ∷ []
two_are a b x y p q = ap (λ k. k ∷ b ∷ []) p ∙ ap (λ k. x ∷ k ∷ []) q

pub unreachable-requires : goal.unreachable-requires
unreachable-requires g c =
    let line = one_length c.args.one.now in
    let other_line = one_length c.args.other.now in
    let n = slice_index (shape_of c.args.one.now) 0 in
    let k = slice_index (shape_of c.args.other.now) 0 in
    let to = two_are c.len.result c.len-2.result k n (c.len.ensures.value ∙ line_long (shape_of c.args.other.now) other_line) (c.len-2.ensures.value ∙ line_long (shape_of c.args.one.now) line) in
    let can = ap (broadcasts (shape_of c.args.one.now)) to ∙ rest_broadcasts (k ∷ n ∷ []) (shape_of c.args.one.now) (turned_checked n k c.requires.checked) (omega arith) line in
    true≢false (sym can ∙ c.in-None.ensures.none.0 refl)

pub returns : goal.returns
returns g c =
    let one = meaning_of c.args.one.now in
    let other = meaning_of c.args.other.now in
    let line = one_length c.args.one.now in
    let other_line = one_length c.args.other.now in
    let n = slice_index one.shape 0 in
    let k = slice_index other.shape 0 in
    let rows = c.in-Some.ensures.part in
    let back = c.reversed_axes.ensures.part.0 in
    let to = two_are c.len.result c.len-2.result k n (c.len.ensures.value ∙ line_long other.shape other_line) (c.len-2.ensures.value ∙ line_long one.shape line) in
    let shape = back.0 ∙ ap reverse (rows.0 ∙ to) in record {
      shape = shape;
      meets = ap (broadcasts other.shape) shape ∙ rest_broadcasts (n ∷ k ∷ []) other.shape c.requires.checked (omega arith) other_line;
      cells = λ h x row column below within. cell_is n k row column (test_of row n below) (test_of column k within) h x one other line other_line c.has_elements.ensures c.has_elements-2.ensures
          (element_at c.in-Some.rows) (element_at c.reversed_axes.result) (shape_of c.in-Some.rows) (rows.0 ∙ to) (λ j. rows.2 j ∙ ap (λ ks. broadcast_at ks one j) to) back.2 (shape_of c.reversed_axes.result) shape;
    }
