-- Memory is lacking for other lengths only where there are elements.
use Rattle.std.proofs.Common.{◌≡◌, ℕ, zero, suc, ◌<◌, List, ℤ, pos, length, replicate, refl, arith}
use Rattle.std.proofs.lemmas.List.{length-replicate}
use Rattle.nd_shape_and_slice.specs.declared.shape_builder.Order.{Order}
use Rattle.nd_shape_and_slice.specs.ShapesAndIndexOrders.{size_of}
use Rattle.nd_shape_and_slice.proofs.RowMajor.{row_rank_below}
use Rattle.nd_array_core.specs.declared.base.array_error.ArrayError.{ArrayError}
use Rattle.nd_array_core.specs.reshape.EitherArray.{IsReshapeRefused, NotAsMany, NotCopied}
use Rattle.nd_array_core.specs.reshape.ReshapeByRank.{IsShapeOf}
use Rattle.nd_array_core.specs.reshape.ServingStrides.{SomeServe}

module _ (order : Order) (ns : List ℕ) (ss : List ℤ) (to : List ℕ) where
  -- without elements any strides serve
  none_serve : size_of to ≡ 0 → SomeServe order ns ss to
  none_serve none = (
    replicate (length to) (pos 0),
    record {
      as_many = length-replicate (length to) (pos 0);
      same_displacement = λ i j inside there same. absurd (omega (arith, row_rank_below to j there, none));
    },
  )

  by_size : (n : ℕ) → size_of to ≡ n → (SomeServe order ns ss to → ⊥) → 0 < size_of to
  by_size zero is never = absurd (never (none_serve is))
  by_size (suc n) is never = omega (arith, is)

  pub copies_some : (error : ArrayError) → IsReshapeRefused order ns ss to error → IsShapeOf ns to → 0 < size_of to
  copies_some _ (NotAsMany unfit) fits = absurd (unfit fits)
  copies_some _ (NotCopied also never) fits = by_size (size_of to) refl never
