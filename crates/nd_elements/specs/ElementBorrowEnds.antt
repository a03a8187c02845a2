-- What a storage holds once a borrow of one of its elements has ended.
use mathlib.Core.Path.{sym, ap, ◌∙◌}
use lib.ListN.{length-set}
use Rattle.std.specs.Prelude.{◌≡◌, ℕ, List, Bool, true, length, replicate, Option, Some, IsSome, is_some, slice_get, slice_set, nat_eq, if◌then◌else◌, IsTrue}
use Rattle.std.specs.Borrow.{Fml, RattleType, MutBor, Lends}
use Rattle.nd_region.specs.RegionPlaces.{stored_in}
use Rattle.nd_region.proofs.RegionContentsForCallers.{whole_got, written_has}
use Rattle.nd_region.proofs.WrittenRegionMap.{written_map}
use Rattle.nd_elements.specs.StoragePlaces.{written_at}

-- Says that the storage behind `s` ends as what `with_last`, which sets one element, gives for the last value behind
-- `r`.
abbrev pub place_ends : (S A : RattleType) {Kept : S.Denot → Type 0} → MutBor S.Denot → MutBor A.Denot → (A.Denot → (t : S.Denot) × Kept t) → Fml
place_ends S A s r with_last = Lends S A s r (λ x. (with_last x).0)

-- Says that `new` has an element at each place at which `old` has one.
abbrev pub KeepsPlaces : {A : Type 0} → (ℕ → Option A) → (ℕ → Option A) → Type 0
KeepsPlaces old new = (p : ℕ) → IsTrue (is_some (old p)) → IsTrue (is_some (new p))

-- A region in which the element at one place is set has an element at each place at which it had one.
pub place_kept : {A : Type 0} (xs : List A) (held : List Bool) (place : ℕ) (x : A) → KeepsPlaces (stored_in xs held) (stored_in (slice_set xs place x) held)
place_kept xs held place x p has = written_has xs held place p x ∙ has

-- A list in which the item at one index is set has an item at each index at which it had one.
pub item_kept : {A : Type 0} (xs : List A) (place : ℕ) (x : A) → KeepsPlaces (slice_get xs) (slice_get (slice_set xs place x))
item_kept xs place x p has =
    let there = replicate (length xs) true in
    ap is_some (sym (whole_got (slice_set xs place x) p) ∙ ap (λ n. stored_in (slice_set xs place x) (replicate n true) p) (length-set xs place x))
    ∙ written_has xs there place p x ∙ ap is_some (whole_got xs p) ∙ has

-- If a list has an item at `place`, then once this is set to `x` the list has `x` there and its old items elsewhere.
pub item_written : {A : Type 0} (xs : List A) (place p : ℕ) (x : A) → IsSome (slice_get xs place) → slice_get (slice_set xs place x) p ≡ written_at (slice_get xs) place x p
item_written xs place p x has =
    let there = replicate (length xs) true in
    sym (whole_got (slice_set xs place x) p)
    ∙ ap (λ n. stored_in (slice_set xs place x) (replicate n true) p) (length-set xs place x)
    ∙ written_map xs there place p x (ap is_some (whole_got xs place) ∙ has)
    ∙ ap (λ o. if nat_eq p place then Some x else o) (whole_got xs p)

-- If a region has an element at `place`, then once this is set to `x` it has `x` there and its old elements elsewhere.
pub place_written : {A : Type 0} (xs : List A) (held : List Bool) (place p : ℕ) (x : A) → IsSome (stored_in xs held place) → stored_in (slice_set xs place x) held p ≡ written_at (stored_in xs held) place x p
place_written xs held place p x has = written_map xs held place p x has
