-- What a lender holds once a borrow of a region's elements has ended.
use Rattle.std.specs.Prelude.{ℕ, Bool, List, [], length, slice_set, Option}
use Rattle.std.specs.Borrow.{Fml, RattleType, MutBor, Array, follows, follows_if}
use Rattle.std.specs.Option.{ghost_name_of}
use denote.Follow.{follows_both}
use Rattle.std.specs.Simd.{first_chunks}
use mir.Syntax.{named}
use Rattle.nd_region.specs.declared.divided_mutable_borrow.Region.{Region}
use Rattle.nd_region.specs.Region.{with_items, with_element, with_run}
use Rattle.nd_region.specs.RegionPlaces.{merged_rows, overwritten_items, run_written, written_where}
use Rattle.nd_region.specs.RegionMemory.{ends_as}
use Rattle.nd_region.specs.contracts.divided_mutable_borrow.Region.{the_row}

-- Says that the slice behind `s` ends with the elements that the region `r` ends with.
abbrev pub slice_follows : (R : RattleType) → MutBor (List R.Denot) → Region R.Denot → Fml
slice_follows R s r = follows (Array R 0) (Array R 0) s.ghost_name r.name (λ w. w)

-- Says that the region behind `s` ends as it is now, except that the place `p` has the last value behind `r`.
abbrev pub place_follows : (R : RattleType) → MutBor (Region R.Denot) → ℕ → MutBor R.Denot → Fml
place_follows R s p r = follows (the_row (record { mir = named 1; lft = [] }) R) R s.ghost_name r.ghost_name (with_element s.now p)

-- Says that the borrow of `s` ends with the last elements of `r` at the places of `r`, and with those of `t` elsewhere.
abbrev pub parts_follow : (R : RattleType) → Region R.Denot → Region R.Denot → Region R.Denot → Fml
parts_follow R s r t = follows_both (Array R 0) (Array R 0) (Array R 0) s.name r.name t.name (merged_rows r.held)

-- Says that the region behind `s` ends with the elements that `r`, a reborrow of it, ends with.
abbrev pub region_follows : (R : RattleType) → MutBor (Region R.Denot) → Region R.Denot → Fml
region_follows R s r = follows (the_row (record { mir = named 1; lft = [] }) R) (Array R 0) s.ghost_name r.name (with_items s.now)

-- Says that the borrow of `r` ends with the elements of `r`, except that the place `p` has the last value behind `x`.
abbrev pub borrow_follows : (R : RattleType) → Region R.Denot → ℕ → MutBor R.Denot → Fml
borrow_follows R r p x = follows (Array R 0) R r.name x.ghost_name (λ w. slice_set r.items p w)

-- Says that the borrow of `r` ends with the elements of `r`, except that the place `p` has the last value behind `x`
-- where `x` is a reference and not `None`.
abbrev pub borrow_may_follow : (R : RattleType) → Region R.Denot → ℕ → Option (MutBor R.Denot) → Fml
borrow_may_follow R r p x = follows_if (Array R 0) R r.name (ghost_name_of x) (λ w. slice_set r.items p w) r.items

-- Says that the borrow of `r` ends with the last elements of `x` at the places that pass `test`, and with those of `r`
-- elsewhere.
abbrev pub borrow_part_follows : (R : RattleType) → Region R.Denot → (ℕ → Bool) → Region R.Denot → Fml
borrow_part_follows R r test x = follows (Array R 0) (Array R 0) r.name x.name (written_where test r.items)

-- Says that the region behind `s` ends as it is now, except that the `n` places from `p` on have the last elements of
-- the slice behind `r`.
abbrev pub run_follows : (R : RattleType) → MutBor (Region R.Denot) → ℕ → ℕ → MutBor (List R.Denot) → Fml
run_follows R s p n r = follows (the_row (record { mir = named 1; lft = [] }) R) (Array R 0) s.ghost_name r.ghost_name (with_run s.now p n)

-- Says that the borrow of `r` ends with the elements of `r`, except that the `n` places from `p` on have the last
-- elements of the slice behind `x`.
abbrev pub borrow_run_follows : (R : RattleType) → Region R.Denot → ℕ → ℕ → MutBor (List R.Denot) → Fml
borrow_run_follows R r p n x = follows (Array R 0) (Array R 0) r.name x.ghost_name (λ ws. overwritten_items r.items (run_written r.items p n ws))

-- Says that the arrays of `n` elements behind `s` end with the elements that `r` ends with, `n` in each, in their
-- order.
abbrev pub rows_follow : (R : RattleType) → (n : ℕ) → MutBor (List (List R.Denot)) → Region R.Denot → Fml
rows_follow R n s r = follows (Array (Array R n) 0) (Array R 0) s.ghost_name r.name (first_chunks n (length s.now))

-- Says that the borrow of `r` ends with the elements that `r` has now.
abbrev pub keeps_elements : (R : RattleType) → Region R.Denot → Fml
keeps_elements R r = ends_as R r.name r.items
