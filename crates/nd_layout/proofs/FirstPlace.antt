-- The place of the first index.
use Rattle.nd_layout.proofs.NamesFromOtherCrates.{◌≡◌, ℕ, Bool, true, false, List, length, ℤ, pos, refl, arith, in_box, size_of, place_of, first_index, row_rank_below, displacement_of-origin}
use Rattle.nd_layout.proofs.Integers.{sums}
use Rattle.nd_layout.proofs.steps.StepsKeepValidLayouts.{origin_in_box}

-- it is the offset
pub first_is_offset : (offset : ℕ) (ns : List ℕ) (ss : List ℤ) → pos offset ≡ place_of offset ss (first_index ns)
first_is_offset offset ns ss = omega (arith, sums, displacement_of-origin ss (length ns))

-- a shape without elements has no index
pub first_outside : (ns : List ℕ) → size_of ns ≡ 0 → in_box ns (first_index ns) ≡ false
first_outside ns none = by_test (in_box ns (first_index ns)) refl
  where
    by_test : (b : Bool) → in_box ns (first_index ns) ≡ b → in_box ns (first_index ns) ≡ false
    by_test true h = absurd (let below = row_rank_below ns (first_index ns) h in omega (arith, below, none))
    by_test false h = h

pub first_inside : (ns : List ℕ) → (size_of ns ≡ 0 → ⊥) → in_box ns (first_index ns) ≡ true
first_inside ns some = origin_in_box ns (omega (arith, some))
