-- The lanes of an axis handed out, by the indexes of the array.
use Rattle.nd_array_core.proofs.NamesFromOtherCrates.{◌≡◌, ℕ, zero, suc, ◌<◌, Bool, true, false, List, [], ◌∷◌, length, get_or, pos, refl, ap, sym, subst, ◌∙◌, arith, Option, None, Some, nat_lt, slice_get, MutBor, Mut, insert, remove, option_map, nat_tests, same_Some, in_box, size_of, index_at, indexed_shape, place_of, RowMajor, length-in_box, in_box-index_at, row_rank-index_at, insert-removed, LaneMut, Meaning, inside, stored_at, AnswersThere, HasAnswers, found_by_rank, AnswersAt, TakesNumbered, AskableOfAll, paired_at, Placement, LanePlaces, LieAlong, lane_found, lane_held, LeavesLane, MayBeHandedLane, LeavesLanesBy, AnswersHandedLanesBy, lanes_held, AreHandedOut, by_lanes, done_at_each, line_same, indexes_taken, order_numbers}
use Rattle.nd_array_core.specs.along.AxisMaps.{lane_of, lanes_of}
use Rattle.nd_array_core.specs.along.LanesOfArrayWritten.{AreLeftBy}
use Rattle.nd_array_core.proofs.along_lemmas.IndexesByLanePosition.{lane_in, column_in}
use Rattle.nd_array_core.proofs.elements_lemmas.ElementsHandedToBeWritten.{both_is, handed_answered}

-- an item in row-major order, by its rank
pub found_there : {A : Type 0} (ns : List ℕ) (items : List A) (k : ℕ) → k < size_of ns → found_by_rank (ns, RowMajor) items (index_at ns k) ≡ slice_get items k
found_there ns items k below = rw (in_box-index_at ns k below, row_rank-index_at ns k below) refl

-- a list of answers that tell nothing, by its length
pub units_there : (items : List (Unit {0})) (k : ℕ) → k < length items → Some tt ≡ slice_get items k
units_there [] k below = absurd (omega (arith, below))
units_there (u ∷ us) zero below = refl
units_there (u ∷ us) (suc k) below = units_there us k (omega (arith, below))

module _ {layout : Placement} {a : ℕ} {places : LanePlaces} (by : LieAlong a layout places) where
  abbrev outer : List ℕ
  outer = indexed_shape layout.lengths a

  -- what a storage's lanes show is what the array's do
  module _ {A : Type 0} (stored : ℕ → Option A) where
    abbrev held : ℕ → Option (Meaning A)
    held = lanes_held places.place places.lanes places.count stored

    abbrev shown : Meaning A
    shown = record { shape = layout.lengths; at = λ i. inside layout.lengths i (stored_at stored (place_of layout.offset layout.strides i)) }

    lane_shown : (r : ℕ) → r < size_of outer → held r ≡ (lanes_of shown a).at (index_at outer r)
    lane_shown r below =
        let one : r < places.lanes = subst (λ m. r < m) (sym by.lanes) below in
        let test : nat_lt r places.lanes ≡ true = grind (arith, nat_tests, one) in
        rw (test, in_box-index_at outer r below)
        (ap Some (line_same places.count (get_or layout.lengths a 0) by.count (λ k. stored_at stored (places.place r k)) (λ k. shown.at (insert (index_at outer r) a k)) (λ k within. lane_found by stored r k one within)))

  module _ {F A B : Type 0} (g : Mut F (MutBor (LaneMut A) × Unit {0}) (B × (MutBor (LaneMut A) × Unit {0}))) (old : ℕ → Option A) (f : F) where
    pub lanes_taken : AskableOfAll (LeavesLane g) (MayBeHandedLane g) (lanes_of (shown old) a) f → TakesNumbered (LeavesLane g) (MayBeHandedLane g) (held old) f places.lanes
    lanes_taken askable =
        subst (TakesNumbered (LeavesLane g) (MayBeHandedLane g) (held old) f) (sym by.lanes)
        (indexes_taken (LeavesLane g) (order_numbers RowMajor outer) (lanes_of (shown old) a).at (held old) (lane_shown old) (MayBeHandedLane g) f askable)

    pub lanes_answered : (new : ℕ → Option A) (last : F) (items : List B) → AreHandedOut g places.place places.lanes places.count places.lanes old new f (last, items)
        → (seen : List ℕ → Option B) → ((k : ℕ) → k < size_of outer → seen (index_at outer k) ≡ slice_get items k) → HasAnswers (AnswersAt (LeavesLane g) (lanes_of (shown old) a).at) outer f (paired_at (lanes_of (shown new) a).at seen)
    lanes_answered new last items handed seen shows =
        let calls = (subst (λ m. AreHandedOut g places.place places.lanes places.count m old new f (last, items)) by.lanes handed).calls in
        handed_answered (LeavesLane g) (order_numbers RowMajor outer) (λ r. pos r) (held old) (held new) (lanes_of (shown old) a).at (lanes_of (shown new) a).at (lane_shown old) (lane_shown new) f last items calls seen shows

-- where the closure leaves what h gives, and answers what it gives
module _ {F A B : Type 0} (g : Mut F (MutBor (LaneMut A) × Unit {0}) (B × (MutBor (LaneMut A) × Unit {0}))) (old new : Meaning A) (a : ℕ) (on : a < length old.shape) (same : new.shape ≡ old.shape) (seen : List ℕ → Option B) (f : F) (has : HasAnswers (AnswersAt (LeavesLane g) (lanes_of old a).at) (indexed_shape old.shape a) f (paired_at (lanes_of new a).at seen)) where
  abbrev others : List ℕ
  others = indexed_shape old.shape a

  abbrev call : F → List ℕ → F → Type 0
  call = AnswersThere (AnswersAt (LeavesLane g) (lanes_of old a).at) (paired_at (lanes_of new a).at seen)

  pub lanes_seen : (h : Meaning A → B) → AnswersHandedLanesBy g h f → ((i : List ℕ) → in_box others i ≡ false → seen i ≡ None) → (i : List ℕ) → seen i ≡ option_map h ((lanes_of old a).at i)
  lanes_seen h by nothing i = by_box (in_box others i) refl
    where
      does : (j : List ℕ) (q : F) → in_box others j ≡ true → call f j q → (q ≡ f) × (seen j ≡ option_map h ((lanes_of old a).at j))
      does j q inbox c =
          let step = c.2 in
          let gives = by step.0 step.1 c.0.1 q step.4 in
          (gives.0, (both_is ((lanes_of new a).at j) (seen j) c.0 c.1).1 ∙ (ap Some gives.1 ∙ ap (option_map h) (sym step.2)))

      by_box : (b : Bool) → in_box others i ≡ b → seen i ≡ option_map h ((lanes_of old a).at i)
      by_box true e = done_at_each others call f (λ j. seen j ≡ option_map h ((lanes_of old a).at j)) does has.1.0 has.1.1 has.0 has.1.2 i e
      by_box false e = nothing i e ∙ (rw e refl)

  pub lanes_left : (h : Meaning A → ℕ → Option A) → LeavesLanesBy g h f → AreLeftBy h old a new.at
  lanes_left h by i inbox =
      let pairs = by_lanes (size_of others) (get_or old.shape a 0) in
      let j = remove i a in
      let k = get_or i a 0 in
      let long = length-in_box old.shape i inbox in
      let whole : insert (remove i a) a (get_or i a 0) ≡ i = insert-removed i a 0 (omega (arith, on, long)) in
      ap new.at (sym whole) ∙ done_at_each others call f Done does has.1.0 has.1.1 has.0 has.1.2 j (lane_in old.shape a on pairs i inbox) k (column_in old.shape a on pairs i inbox)
    where
      Done : List ℕ → Type 0
      Done j = (k : ℕ) → k < get_or old.shape a 0 → new.at (insert j a k) ≡ h (lane_of old a j) k

      in_line : (m k : ℕ) → k < m → in_box (m ∷ []) (k ∷ []) ≡ true
      in_line m k under = grind (arith, nat_tests, under)

      does : (j : List ℕ) (q : F) → in_box others j ≡ true → call f j q → (q ≡ f) × Done j
      does j q inside_j c =
          let step = c.2 in
          let gives = by step.0 step.1 c.0.1 q step.4 in
          let old_is : lane_of old a j ≡ lane_held step.0 = same_Some (lane_of old a j) (lane_held step.0) ((rw inside_j refl) ∙ step.2) in
          let inside_new : in_box (indexed_shape new.shape a) j ≡ true = ap (λ ms. in_box (indexed_shape ms a) j) same ∙ inside_j in
          let new_is : lane_of new a j ≡ lane_held step.1 = same_Some (lane_of new a j) (lane_held step.1) ((rw inside_new refl) ∙ ((both_is ((lanes_of new a).at j) (seen j) c.0 c.1).0 ∙ ap Some step.3)) in (
            gives.0,
            (λ k within.
                let under : k < get_or new.shape a 0 = subst (λ ms. k < get_or ms a 0) (sym same) within in
                (rw (in_line (get_or new.shape a 0) k under) refl) ∙ (ap (λ m. m.at (k ∷ [])) new_is ∙ (gives.1 k ∙ ap (λ m. h m k) (sym old_is)))),
          )
