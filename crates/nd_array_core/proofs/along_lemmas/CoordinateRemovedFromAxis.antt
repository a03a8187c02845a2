-- One coordinate taken out of an axis: what is left of the axis once it was moved to the end.
use Rattle.nd_array_core.proofs.NamesFromOtherCrates.{◌≡◌, ℕ, ◌+◌, ◌-◌, ◌*◌, ◌<◌, ◌≤◌, Bool, true, false, max, List, length, get_or, set, refl, ap, sym, ◌∙◌, arith, nat_tests, length-set, set-set, set-get_or, get_or-set_same, unwrap_or, ◌&&◌, Option, Some, None, is_some, nat_lt, nat_eq, slice_index, slice_set, if◌then◌else◌, in_box, low_of, high_of, quotient_up, sliced_length, sliced_from, sliced_shape, sliced_index, Slice, coordinate_below, in_box-set, bound_within, inside, removed_shape, removed_index, rotated_index, front_slice, rotated_end}
use Rattle.nd_array_core.specs.ArrayInStorage.{found_at}

-- the slice of all coordinates but the last
module _ (n : ℕ) where
  front_low : low_of n (front_slice (n - 1)) ≡ 0
  front_low = ap (λ o. unwrap_or o 0) (bound_within n 0 (omega arith))

  front_high : high_of n (front_slice (n - 1)) ≡ n - 1
  front_high =
      let most : max 0 (n - 1) ≡ n - 1 = omega arith in
      (λ i. max (front_low i) (unwrap_or (bound_within n (n - 1) (omega arith) i) 0)) ∙ most

  front_length : sliced_length n (front_slice (n - 1)) ≡ n - 1
  front_length =
      let whole : quotient_up (n - 1 - 0) 1 ≡ n - 1 = omega arith in
      (λ i. quotient_up (front_high i - front_low i) 1) ∙ whole

  front_from : (c : ℕ) → sliced_from n (front_slice (n - 1)) c ≡ c
  front_from c = let whole : 0 + c * 1 ≡ c = omega arith in (λ i. front_low i + c * 1) ∙ whole

pub front_by : (n count : ℕ) (slice : Slice) → slice ≡ front_slice (count - 1) → count ≡ n → slice ≡ front_slice (n - 1)
front_by n count slice is same = is ∙ ap (λ m. front_slice (m - 1)) same

module _ (ns : List ℕ) (a : ℕ) where
  abbrev front : List ℕ → List ℕ
  front i = sliced_index ns a (front_slice (slice_index ns a - 1)) i

  pub front_shape : sliced_shape ns a (front_slice (slice_index ns a - 1)) ≡ removed_shape ns a
  front_shape = ap (λ m. set ns a m) (front_length (get_or ns a 0))

  front_index : (i : List ℕ) → front i ≡ i
  front_index i = ap (λ c. set i a c) (front_from (get_or ns a 0) (get_or i a 0)) ∙ set-get_or i a 0

  -- what is shown of the front
  pub front_shown : {X : Type 0} (at new : List ℕ → Option X) → ((i : List ℕ) → new i ≡ inside (sliced_shape ns a (front_slice (slice_index ns a - 1))) i (at (front i))) → (i : List ℕ) → new i ≡ inside (removed_shape ns a) i (at i)
  front_shown at new shows i = shows i ∙ (λ j. inside (front_shape j) i (at (front_index i j)))

  module _ {A : Type 0} (on : a < length ns) (k : ℕ) (within : k < get_or ns a 0) (at turned : List ℕ → Option A) (by_turned : (i : List ℕ) → turned i ≡ inside ns i (at (rotated_index ns a k i))) where
    -- where the coordinate went to the end, and the front is shown
    pub removed_shown : (new : List ℕ → Option A) → ((i : List ℕ) → new i ≡ inside (sliced_shape ns a (front_slice (slice_index ns a - 1))) i (turned (front i))) → (i : List ℕ) → new i ≡ inside (removed_shape ns a) i (at (removed_index a k i))
    removed_shown new shows i = front_shown turned new shows i ∙ by_test (in_box (removed_shape ns a) i) refl
      where
        there : in_box (removed_shape ns a) i ≡ true → turned i ≡ at (removed_index a k i)
        there h =
            let n = get_or ns a 0 in
            let c = get_or i a 0 in
            let long : length (removed_shape ns a) ≡ length ns = length-set ns a (n - 1) in
            let under = coordinate_below (removed_shape ns a) i a h (omega (arith, long, on)) in
            let one : get_or (removed_shape ns a) a 0 ≡ n - 1 = get_or-set_same ns a (n - 1) 0 on in
            let more : nat_lt (c + 1) n ≡ true = grind (arith, nat_tests, under, one) in
            let put = in_box-set (removed_shape ns a) i a n c h (omega (arith, under, one)) in
            let box : in_box ns i ≡ true = (λ j. in_box ((sym (set-set ns a (n - 1) n ∙ set-get_or ns a 0)) j) (sym (set-get_or i a 0) j)) ∙ put in
            by_turned i ∙ ap (λ t. if t then at (rotated_index ns a k i) else None) box
            ∙ ap (λ t. at (set i a (if nat_lt c k then c else (if t then c + 1 else (if nat_eq (c + 1) n then k else c))))) more

        by_test : (t : Bool) → in_box (removed_shape ns a) i ≡ t → inside (removed_shape ns a) i (turned i) ≡ inside (removed_shape ns a) i (at (removed_index a k i))
        by_test true h = ap (inside (removed_shape ns a) i) (there h)
        by_test false h = rw h refl

    -- and the place of a lane's last index holds what lay at the coordinate
    pub removed_stored : (old_place place : List ℕ → Option ℕ) (stored : ℕ → Option A) → ((i : List ℕ) → place i ≡ old_place i) → ((i : List ℕ) → is_some (place i) ≡ in_box ns i) → ((i : List ℕ) → turned i ≡ found_at stored (place i))
        → (i : List ℕ) (p : ℕ) → slice_index i a + 1 ≡ slice_index ns a → old_place i ≡ Some p → stored p ≡ at (slice_set i a k)
    removed_stored old_place place stored same has shows i p last at_p =
        let here : place i ≡ Some p = same i ∙ at_p in
        let box : in_box ns i ≡ true = sym (has i) ∙ ap is_some here in
        let after : k ≤ get_or i a 0 = omega (arith, last, within) in
        sym (shows i ∙ ap (found_at stored) here) ∙ by_turned i ∙ ap (λ t. if t then at (rotated_index ns a k i) else None) box
        ∙ ap (λ c. at (set i a c)) (rotated_end k (get_or ns a 0) (get_or i a 0) after last)

  -- the slice in a caller's words
  pub sliced_through : {X : Type 0} (ms : List ℕ) (slice : Slice) (at new : List ℕ → Option X) → ms ≡ ns → slice ≡ front_slice (slice_index ns a - 1) → ((i : List ℕ) → new i ≡ inside (sliced_shape ms a slice) i (at (sliced_index ms a slice i)))
      → (i : List ℕ) → new i ≡ inside (sliced_shape ns a (front_slice (slice_index ns a - 1))) i (at (front i))
  sliced_through ms slice at new same is shows i = shows i ∙ (λ j. inside (sliced_shape (same j) a (is j)) i (at (sliced_index (same j) a (is j) i)))
