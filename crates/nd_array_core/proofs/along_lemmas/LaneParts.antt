-- Parts of a lane: where they lie, and what they show.
use Rattle.nd_array_core.proofs.NamesFromOtherCrates.{◌≡◌, ℕ, ◌+◌, ◌-◌, ◌<◌, ◌≤◌, ◌%◌, suc, true, [], ◌∷◌, ap, sym, ◌∙◌, arith, ℤ, pos, negsuc, ◌+ℤ◌, ◌*ℤ◌, w64, of_z, mod-eq_of_lt, add-mod_right, Option, is_some, is_place, sums, add-mul, one-mul, place_below, stored_along, inside, stored_at}
use Rattle.nd_layout.proofs.walk_lemmas.NextIndexOfWalk.{place_number}
use Rattle.nd_array_core.proofs.along_lemmas.LastAxisLanes.{lane_opens}

-- from a place that is so many strides further the places are those from that number on
pub places_from : (place start from : ℕ) (stride : ℤ) → pos start ≡ pos place +ℤ (pos from *ℤ stride) → (k : ℕ) → pos start +ℤ (pos k *ℤ stride) ≡ pos place +ℤ (pos (from + k) *ℤ stride)
places_from place start from stride at k = let more = add-mul from k stride in omega (arith, sums, at, more)

-- where a number that wraps moves from one place to another, it doesn't wrap
moved_on : (p q n : ℕ) → p + n < 9223372036854775808 → q ≡ (p + n) % 18446744073709551616 → q ≡ p + n
moved_on p q n below is = let fits : p + n < 18446744073709551616 = omega (arith, below) in is ∙ mod-eq_of_lt fits

moved_back : (p q n m : ℕ) → p < 9223372036854775808 → pos p +ℤ negsuc n ≡ pos m → m < 9223372036854775808 → q ≡ (p + (18446744073709551616 - suc n)) % 18446744073709551616 → q ≡ m
moved_back p q n m low same below is =
    let back : p + (18446744073709551616 - suc n) ≡ m + 18446744073709551616 = omega (arith, sums, same, low) in
    let fits : m < 18446744073709551616 = omega (arith, below) in
    is ∙ ap (λ x. x % 18446744073709551616) back ∙ add-mod_right m 18446744073709551616 ∙ mod-eq_of_lt fits

pub moved_place : (p q : ℕ) (s : ℤ) → p < 9223372036854775808 → is_place (pos p +ℤ s) ≡ true → q ≡ (p + of_z w64 s) % 18446744073709551616 → pos q ≡ pos p +ℤ s
moved_place p q (pos n) low to is = ap pos (moved_on p q n (place_below (p + n) to) is)
moved_place p q (negsuc n) low to is = let w = place_number (pos p +ℤ negsuc n) to in ap pos (moved_back p q n w.0 low w.1 w.2 is) ∙ sym w.1

-- so the places after a lane's first are its own from 1 on
pub first_left : (place count : ℕ) (stride : ℤ) → (0 < count → place < 9223372036854775808) → ((k : ℕ) → k < count → is_place (pos place +ℤ (pos k *ℤ stride)) ≡ true)
    → (start : ℕ) → start ≡ (place + of_z w64 stride) % 18446744073709551616 → (k : ℕ) → 1 + k < count → pos start +ℤ (pos k *ℤ stride) ≡ pos place +ℤ (pos (1 + k) *ℤ stride)
first_left place count stride from reach start is k below =
    let one = one-mul stride in
    let next : pos place +ℤ stride ≡ pos place +ℤ (pos 1 *ℤ stride) = omega (arith, sums, one) in
    let to : is_place (pos place +ℤ stride) ≡ true = ap is_place next ∙ reach 1 (omega (arith, below)) in
    places_from place start 1 stride (moved_place place start stride (from (omega (arith, below))) to is ∙ next) k

module _ {A : Type 0} (stored : ℕ → Option A) (place count : ℕ) (stride : ℤ) (from start part : ℕ) (step : ℤ)
    (goes : (k : ℕ) → k < part → pos start +ℤ (pos k *ℤ step) ≡ pos place +ℤ (pos (from + k) *ℤ stride)) (within : from + part ≤ count) where
  -- all its places are stored
  pub part_holds : ((k : ℕ) → k < count → is_some (stored_along stored place stride k) ≡ true) → (k : ℕ) → k < part → is_some (stored_along stored start step k) ≡ true
  part_holds holds k below = ap (λ z. is_some (stored_at stored z)) (goes k below) ∙ holds (from + k) (omega (arith, below, within))

  -- it shows what the whole shows there
  pub part_shows : (k : ℕ) → k < part → inside (part ∷ []) (k ∷ []) (stored_along stored start step k) ≡ inside (count ∷ []) ((from + k) ∷ []) (stored_along stored place stride (from + k))
  part_shows k below =
      lane_opens part k (stored_along stored start step k) below
      ∙ ap (stored_at stored) (goes k below)
      ∙ sym (lane_opens count (from + k) (stored_along stored place stride (from + k)) (omega (arith, below, within)))
