-- Which layouts are standard, by the places of their indexes alone.
use Rattle.nd_array_core.proofs.NamesFromOtherCrates.{◌≡◌, ℕ, ◌+◌, ◌<◌, Bool, true, List, length, replicate, ℤ, pos, refl, ap, sym, ◌∙◌, ◌+ℤ◌, arith, Option, Some, is_some, in_box, size_of, row_rank, place_of, displacement_of, zeros_in_box, displacement_of-origin, sums, IsStandard, inside, place_number, stored_at, HoldsAll, row_rank-origin}
use Rattle.nd_array_core.specs.reshape.ElementsAsSlice.{LiesByRank}
use Rattle.nd_array_core.proofs.reshape_lemmas.MemoryOrder.{is_number}

same_number : {p q : ℕ} → Some p ≡ Some q → p ≡ q
same_number e = cc

rest_of : (o r : ℕ) (z : ℤ) → pos o +ℤ z ≡ pos (o + r) → z ≡ pos r
rest_of o r z e = omega (arith, sums, e)

module _ {A : Type 0} (stored : ℕ → Option A) (offset : ℕ) (ns : List ℕ) (ss : List ℤ) where
  abbrev place : List ℕ → Option ℕ
  place i = inside ns i (place_number (place_of offset ss i))

  at_number : (i : List ℕ) (p : ℕ) → in_box ns i ≡ true → place_of offset ss i ≡ pos p → place i ≡ Some p
  at_number i p h e = rw (h, e) refl

  pub lies_by_rank : IsStandard ns ss → LiesByRank ns place
  lies_by_rank standard i j p q h k at_p at_q =
      let one : place_of offset ss i ≡ pos (offset + row_rank ns i) = omega (arith, sums, standard i h) in
      let other : place_of offset ss j ≡ pos (offset + row_rank ns j) = omega (arith, sums, standard j k) in
      let is : offset + row_rank ns i ≡ p = same_number (sym (at_number i (offset + row_rank ns i) h one) ∙ at_p) in
      let so : offset + row_rank ns j ≡ q = same_number (sym (at_number j (offset + row_rank ns j) k other) ∙ at_q) in
      omega (arith, is, so)

  pub is_standard : HoldsAll stored offset ns ss → LiesByRank ns place → IsStandard ns ss
  is_standard holds lies i h =
      let zeros : List ℕ = replicate (length ns) 0 in
      let k = zeros_in_box ns i h in
      let first : place_of offset ss zeros ≡ pos offset = omega (arith, sums, displacement_of-origin ss (length ns)) in
      let there = is_number stored (place_of offset ss i) (holds i h) in
      let e : there.0 + row_rank ns zeros ≡ offset + row_rank ns i = lies i zeros there.0 offset h k (at_number i there.0 h there.1) (at_number zeros offset k first) in
      let same : there.0 ≡ offset + row_rank ns i = omega (arith, e, row_rank-origin ns) in
      rest_of offset (row_rank ns i) (displacement_of ss i) (there.1 ∙ ap pos same)
