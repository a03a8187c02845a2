-- What is left once the first or the last element is taken.
use Rattle.std.proofs.Common.{◌≡◌, ℕ, ◌+◌, ◌-◌, ◌<◌, List, [], ◌∷◌, ◌++◌, drop, take, ap, sym, ◌∙◌}
use Rattle.std.specs.Prelude.{Some, slice_get}
use Rattle.nd_array_core.specs.ArrayMeaning.{Meaning}
use Rattle.nd_array_core.specs.ConcatenationAndSplit.{row_major_elements}
use Rattle.nd_array_core.specs.declared.along.lane_view.LaneView.{LaneView}
use Rattle.nd_array_core.specs.along.LanesOfLastAxis.{lane_length, lane_element, ListsFrom}
use Rattle.nd_iter.specs.IteratedElements.{elements_left}
use Rattle.nd_iter.proofs.ListEndsTaken.{first_taken, last_taken}

-- the element of a rank
module _ {A : Type 0} (xs : List A) (from to rank : ℕ) (x : A) (there : slice_get xs rank ≡ Some x) (some : from < to) where
  pub first_left : rank ≡ from → (next : ℕ) → next ≡ from + 1 → drop from (take to xs) ≡ x ∷ drop next (take to xs)
  first_left first next is = first_taken xs from to x (ap (slice_get xs) (sym first) ∙ there) some ∙ ap (λ k. x ∷ drop k (take to xs)) (sym is)

  pub last_left : rank ≡ to - 1 → (less : ℕ) → less ≡ to - 1 → drop from (take to xs) ≡ drop from (take less xs) ++ x ∷ []
  last_left last less is = last_taken xs from to x (ap (slice_get xs) (sym last) ∙ there) some ∙ ap (λ k. drop from (take k xs) ++ x ∷ []) (sym is)

-- an element of a lane that lists those of ranks
module _ {A : Type 0} (m : Meaning A) (lane : LaneView A) (start : ℕ) (lists : ListsFrom lane start m) (k : ℕ) (below : k < lane_length lane) (x : A) (is : lane_element lane k ≡ Some x) (from to : ℕ) (some : from < to) where
  there : slice_get (row_major_elements m) (start + k) ≡ Some x
  there = sym (lists k below) ∙ is

  pub first_of_lane : start + k ≡ from → (next : ℕ) → next ≡ from + 1 → elements_left m from to ≡ x ∷ elements_left m next to
  first_of_lane first next same = first_left (row_major_elements m) from to (start + k) x there some first next same

  pub last_of_lane : start + k ≡ to - 1 → (less : ℕ) → less ≡ to - 1 → elements_left m from to ≡ elements_left m from less ++ x ∷ []
  last_of_lane last less same = last_left (row_major_elements m) from to (start + k) x there some last less same
