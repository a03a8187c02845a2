-- What writes keep, one after another.
use Rattle.nd_array_core.proofs.NamesFromOtherCrates.{◌≡◌, ◌∙◌, ℕ, List, length, refl, sym, arith, slice_get, HasCheckedSize, place_of, ordered_is_ranked, BuiltShape, found_by_rank, inside, stored_at, Owned, stored_list, OwnedRepr}
use Rattle.nd_shape_and_slice.specs.declared.dimension.Dimension as dimension
use Rattle.nd_shape_and_slice.specs.declared.dimension.AxisCount as axis_count
use Rattle.nd_shape_and_slice.specs.declared.dimension.StrideList as stride_list
use Rattle.nd_elements.specs.declared.storage.Data as data_trait
use Rattle.nd_array_core.specs.ArrayMeaning.{meaning_of, memory_layout_of}
use Rattle.nd_array_core.specs.declared.base.array.ArrayBase.{ArrayBase}
use Rattle.nd_array_core.specs.base.NewArrays.{OwnsInOrder}
use Rattle.nd_array_core.specs.base.ArrayWrites.{KeepsFrame}
use Rattle.nd_array_core.proofs.base_lemmas.NewArraysInOrder.{ranked_element}

module _ {S D T A R : Type 0} {s : data_trait.Ghosts S A} {d : dimension.Ghosts D R} {n : axis_count.Ghosts D} {r : stride_list.Ghosts R} {t : stride_list.Ghosts T} where
  -- nothing was written
  pub keeps_itself : {F : Type 0} (frame : S → F) (a : ArrayBase S D T A R s d n r t) → KeepsFrame frame a a
  keeps_itself frame a = (refl, refl, (λ i. refl), (λ p nowhere. refl), refl, refl)

  -- first from a to b, then from b to c
  pub keeps_again : {F : Type 0} (frame : S → F) (a b c : ArrayBase S D T A R s d n r t) → KeepsFrame frame b c → KeepsFrame frame a b → KeepsFrame frame a c
  keeps_again frame a b c later first = (
    later.0 ∙ first.0,
    later.1 ∙ first.1,
    (λ i. later.2 i ∙ first.2 i),
    (λ p nowhere. later.3 p (λ i e. nowhere i (sym (first.2 i) ∙ e)) ∙ first.3 p nowhere),
    later.4 ∙ first.4,
    later.5 ∙ first.5,
  )

module _ {D T A R : Type 0} {s : data_trait.Ghosts (OwnedRepr A) A} {d : dimension.Ghosts D R} {n : axis_count.Ghosts D} {r : stride_list.Ghosts R} {t : stride_list.Ghosts T} where
  -- written in place, what owns its elements in an order still does
  pub owns_still : (built : BuiltShape) (a b : ArrayBase (OwnedRepr A) D T A R s d n r t) → HasCheckedSize built.0 → ((x : OwnedRepr A) (p : ℕ) → s.stored x p ≡ slice_get (stored_list x) p)
      → OwnsInOrder built a → KeepsFrame (λ x. Owned x.items.len x.items.cap) a b → OwnsInOrder built b
  unfolding meaning_of memory_layout_of
  owns_still built a b checked listed owns kept = (kept.0 ∙ owns.0, kept.1 ∙ owns.1, kept.5 ∙ owns.2, long ∙ owns.3, at)
    where
      long : length b.storage.items.items ≡ length a.storage.items.items
      long =
          let count : b.storage.items.len ≡ a.storage.items.len = let frame = kept.4 in cc in
          let of_b = b.storage.items.ok.0 in
          let of_a = a.storage.items.ok.0 in
          omega (arith, count, of_b, of_a)

      at : (i : List ℕ) → inside (d.lengths b.layout.dim) i (stored_at (s.stored b.storage) (place_of b.layout.offset (t.strides_of b.layout.strides) i)) ≡ found_by_rank built (stored_list b.storage) i
      at i =
          (λ k. inside ((kept.0 ∙ owns.0) k) i (stored_at (λ p. listed b.storage p k) (place_of ((kept.5 ∙ owns.2) k) ((kept.1 ∙ owns.1) k) i)))
          ∙ ranked_element (ordered_is_ranked built.1 built.0 checked) (slice_get (stored_list b.storage)) i
