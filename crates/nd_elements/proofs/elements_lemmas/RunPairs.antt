-- Elements of two slices in pairs, and of the storages in which they lie.
use Rattle.nd_elements.proofs.NamesFromOtherCrates.{◌≡◌, ℕ, ◌+◌, ◌<◌, List, length, ℤ, pos, ◌+ℤ◌, ◌*ℤ◌, get_or, slice_set, refl, ap, sym, subst, ◌∙◌, arith, inl, inr, Option, Some, slice_get, Result, Ok, Err, OnOk, OnErr, ◌⊎◌, Bor, MutBor, Mut, CalledWithState, slice_get-get_or, set_there, set_elsewhere, along, Lane, sums}
use Rattle.nd_elements.specs.ElementsAtNumberedPlaces.{Holds}
use Rattle.nd_elements.specs.StoragePlaces.{stored_at}
use Rattle.nd_elements.specs.RunBorrowEnds.{HasRunAt, IsRunAt, IsOutsideRun}
use Rattle.nd_elements.specs.elements.AssignedElements.{IsAssignedTo, IsPartlyAssigned}
use Rattle.nd_elements.specs.elements.ElementChanges.{AreDistinct}
use Rattle.nd_elements.specs.elements.PairsWithOneWritten.{IsRewrittenTo, ChangesWith, ChangesWithSomehow, IsZippedTo, TakesBoth, TakesPairs}
use Rattle.nd_elements.proofs.elements_lemmas.AssignedElements.{moved_more}
use Rattle.nd_elements.proofs.elements_lemmas.ElementsCollectedInOrder.{contiguous_has}
use Rattle.nd_elements.proofs.elements_lemmas.PairedElements.{next_zipped}
use Rattle.nd_elements.proofs.NumberedCalls.{ran_weaker}
use Rattle.nd_elements.proofs.RewrittenElements.{rewritten_more}

-- the numbers of a slice's items, as places
abbrev pub number : ℕ → ℤ
number k = pos k

pub numbers_distinct : (n : ℕ) → AreDistinct number n
numbers_distinct n j k below under e = cc

-- the place of the k-th element of a lane with steps of 1
pub side_place : (p k : ℕ) (s : ℤ) → s ≡ pos 1 → pos p +ℤ (pos k *ℤ s) ≡ pos (p + k)
side_place p k s one = ap (λ t. pos p +ℤ (pos k *ℤ t)) one ∙ times_one p k
  where
    times_one : (p k : ℕ) → pos p +ℤ (pos k *ℤ pos 1) ≡ pos (p + k)
    times_one p k = omega (arith, sums)

-- a place that none of the lane's is, is outside of the run
pub outside_lane : (p n : ℕ) (s : ℤ) → s ≡ pos 1 → (q : ℕ) → ((k : ℕ) → k < n → pos p +ℤ (pos k *ℤ s) ≡ pos q → ⊥) → IsOutsideRun p n q
outside_lane p n s one q nowhere k below e = nowhere k below (side_place p k s one ∙ ap pos (sym e))

module _ {A : Type 0} where
  -- what a lane with steps of 1 shows
  pub side_shows : (stored : ℕ → Option A) (p k : ℕ) (s : ℤ) → s ≡ pos 1 → stored_at stored (pos p +ℤ (pos k *ℤ s)) ≡ stored (p + k)
  side_shows stored p k s one = ap (stored_at stored) (side_place p k s one)

-- The slice lent for a lane, as it was and as it was left, and the storage before and after.
pub record IsRunOf {A : Type 0} (lane : Lane) (old new : ℕ → Option A) (xs ws : List A) : Type 0 where
  pub count : length xs ≡ lane.count
  pub same : (k : ℕ) → k < lane.count → slice_get xs k ≡ stored_at old ((along lane).place k)
  pub same_new : (k : ℕ) → k < lane.count → slice_get ws k ≡ stored_at new ((along lane).place k)
  pub left : (p : ℕ) → ((k : ℕ) → k < lane.count → (along lane).place k ≡ pos p → ⊥) → new p ≡ old p

pub run_of : {S A : Type 0} (stored : S → ℕ → Option A) (s t : S) (lane : Lane) → lane.stride ≡ pos 1 → Holds stored (along lane) s → (xs ws : List A) → IsRunAt (stored s) lane.place lane.count xs → length ws ≡ length xs
    → (HasRunAt (stored s) lane.place lane.count → length ws ≡ lane.count → (k : ℕ) → k < lane.count → stored t (lane.place + k) ≡ slice_get ws k)
    → (HasRunAt (stored s) lane.place lane.count → length ws ≡ lane.count → (p : ℕ) → IsOutsideRun lane.place lane.count p → stored t p ≡ stored s p) → IsRunOf lane (stored s) (stored t) xs ws
run_of stored s t lane one holds xs ws values long written kept = record {
  count = values.0;
  same = λ k below. values.1 k below ∙ sym (side_shows (stored s) lane.place k lane.stride one);
  same_new = λ k below. sym (written has (long ∙ values.0) k below) ∙ sym (side_shows (stored t) lane.place k lane.stride one);
  left = λ p nowhere. kept has (long ∙ values.0) p (outside_lane lane.place lane.count lane.stride one p nowhere);
}
  where
    has : HasRunAt (stored s) lane.place lane.count
    has k below = contiguous_has (stored s) lane.place lane.count lane.stride one holds k below

-- the same calls over other storages, which show the same elements at other places
module _ {F A : Type 0} (call later : ℕ → Option A → Option A → F → F → Type 0) (place lane : ℕ → ℤ) (n : ℕ) (old new olds news : ℕ → Option A) (follows : (j : ℕ) (o w : Option A) (p q : F) → j < n → later j o w p q → call j o w p q) (same_old : (j : ℕ) → j < n → stored_at olds (lane j) ≡ stored_at old (place j)) (same_new : (j : ℕ) → j < n → stored_at news (lane j) ≡ stored_at new (place j)) where
  pub rewritten_alike : (first last : F) → ((p : ℕ) → ((k : ℕ) → k < n → place k ≡ pos p → ⊥) → new p ≡ old p) → IsRewrittenTo later lane n olds news first last → IsRewrittenTo call place n old new first last
  rewritten_alike first last left run = record {
    calls = ran_weaker (λ p j q. later j (stored_at olds (lane j)) (stored_at news (lane j)) p q) (λ p j q. call j (stored_at old (place j)) (stored_at new (place j)) p q) first last n
        (λ p j q below step. follows j (stored_at old (place j)) (stored_at new (place j)) p q below (subst (λ w. later j (stored_at old (place j)) w p q) (same_new j below) (subst (λ o. later j o (stored_at news (lane j)) p q) (same_old j below) step)))
        run.calls;
    left = left;
  }

module _ {F A B : Type 0} (g : Mut F (MutBor A × (Bor B × Unit {0})) (Unit {0} × (MutBor A × Unit {0}))) (place other_place : ℕ → ℤ) (n : ℕ) (old : ℕ → Option A) (others : ℕ → Option B) (xs : List A) (shown : ℕ → Option B) (spot : ℕ → ℤ) (same : (k : ℕ) → k < n → slice_get xs k ≡ stored_at old (place k)) (same_other : (k : ℕ) → k < n → stored_at shown (spot k) ≡ stored_at others (other_place k)) where
  -- the calls for two slices may be made where those for the places may
  pub run_takes : (f : F) → TakesPairs g old place others other_place f n → TakesPairs g (slice_get xs) number shown spot f n
  run_takes f takes k now below run x b is is_other =
      takes k now below
      (ran_weaker (λ p j q. ChangesWithSomehow g (stored_at shown (spot j)) (slice_get xs j) p q) (λ p j q. ChangesWithSomehow g (stored_at others (other_place j)) (stored_at old (place j)) p q) f now k
      (λ p j q under step. subst (λ o. ChangesWithSomehow g o (stored_at old (place j)) p q) (same_other j (omega (arith, under, below))) (subst (λ o. ChangesWithSomehow g (stored_at shown (spot j)) o p q) (same j (omega (arith, under, below))) step)) run) x b
      (sym (same k below) ∙ is) (sym (same_other k below) ∙ is_other)

-- what they left in one is what they left at the places
pub run_zipped : {F A B : Type 0} (g : Mut F (MutBor A × (Bor B × Unit {0})) (Unit {0} × (MutBor A × Unit {0}))) {lane : Lane} {old new : ℕ → Option A} {xs ws : List A} → IsRunOf lane old new xs ws → (other_place : ℕ → ℤ) (others shown : ℕ → Option B) (spot : ℕ → ℤ) → ((k : ℕ) → k < lane.count → stored_at shown (spot k) ≡ stored_at others (other_place k)) → (f last : F)
    → IsZippedTo g number shown spot (length xs) (slice_get xs) (slice_get ws) f last → IsZippedTo g (along lane).place others other_place lane.count old new f last
run_zipped g {lane} {old} {new} {xs} {ws} lent other_place others shown spot same_other f last zipped =
    rewritten_alike (λ k o w p q. ChangesWith g (stored_at others (other_place k)) o w p q) (λ k o w p q. ChangesWith g (stored_at shown (spot k)) o w p q) (along lane).place number lane.count old new (slice_get xs) (slice_get ws)
    (λ j o w p q below step. subst (λ b. ChangesWith g b o w p q) (same_other j below) step) lent.same lent.same_new f last lent.left
    (subst (λ n. IsZippedTo g number shown spot n (slice_get xs) (slice_get ws) f last) lent.count zipped)

-- elements written in a slice are written at the places: all of them, or some
module _ {A : Type 0} {lane : Lane} {old new : ℕ → Option A} {xs ws : List A} (lent : IsRunOf lane old new xs ws) (given shown : ℕ → Option A) (same_given : (k : ℕ) → k < lane.count → shown k ≡ given k) where
  pub run_outcome : {E : Type 0} (result : Result (Unit {0}) E) → (OnOk result (IsAssignedTo shown number (length xs) (slice_get xs) (slice_get ws)) × OnErr result (IsPartlyAssigned shown number (length xs) (slice_get xs) (slice_get ws)))
      → (OnOk result (IsAssignedTo given (along lane).place lane.count old new) × OnErr result (IsPartlyAssigned given (along lane).place lane.count old new))
  run_outcome {E} result outcome = by_case result (subst (λ m. OnOk result (IsAssignedTo shown number m (slice_get xs) (slice_get ws)) × OnErr result (IsPartlyAssigned shown number m (slice_get xs) (slice_get ws))) lent.count outcome)
    where
      either : (k : ℕ) → k < lane.count → (slice_get ws k ≡ slice_get xs k) ⊎ (slice_get ws k ≡ shown k) → (stored_at new ((along lane).place k) ≡ stored_at old ((along lane).place k)) ⊎ (stored_at new ((along lane).place k) ≡ given k)
      either k below (inl kept) = inl (sym (lent.same_new k below) ∙ (kept ∙ lent.same k below))
      either k below (inr put) = inr (sym (lent.same_new k below) ∙ (put ∙ same_given k below))

      by_case : (r : Result (Unit {0}) E) → (OnOk r (IsAssignedTo shown number lane.count (slice_get xs) (slice_get ws)) × OnErr r (IsPartlyAssigned shown number lane.count (slice_get xs) (slice_get ws))) → (OnOk r (IsAssignedTo given (along lane).place lane.count old new) × OnErr r (IsPartlyAssigned given (along lane).place lane.count old new))
      by_case (Ok u) run = (record { done = λ k below. sym (lent.same_new k below) ∙ (run.0.done k below ∙ same_given k below); left = lent.left }, tt)
      by_case (Err e) run = (tt, record { each = λ k below. either k below (run.1.each k below); left = lent.left })

-- one more item of a slice: written, or handed out with an element of the other
module _ {A : Type 0} (xs now : List A) (nth : ℕ) (y : A) (long : length now ≡ length xs) (below : nth < length xs) where
  within : nth < length now
  within = subst (λ n. nth < n) (sym long) below

  pub item_assigned : (given : ℕ → Option A) → IsAssignedTo given number nth (slice_get xs) (slice_get now) → Some y ≡ given nth → IsAssignedTo given number (nth + 1) (slice_get xs) (slice_get (slice_set now nth y))
  item_assigned given so_far is =
      moved_more given number nth (length xs) nth below (numbers_distinct (length xs)) refl (slice_get xs) (slice_get now) (slice_get (slice_set now nth y)) so_far
      (set_there now nth y within ∙ is) (λ q apart. set_elsewhere now nth q y apart)

  module _ {F B : Type 0} (g : Mut F (MutBor A × (Bor B × Unit {0})) (Unit {0} × (MutBor A × Unit {0}))) (others : ℕ → Option B) (spot : ℕ → ℤ) (f p : F) (so_far : IsZippedTo g number others spot nth (slice_get xs) (slice_get now) f p) (b : Bor B) (is : stored_at others (spot nth) ≡ Some b.now) (d : A) where
    pub item_takes : TakesPairs g (slice_get xs) number others spot f (length xs) → TakesBoth g (Some b.now) (Some (get_or now nth d)) p
    item_takes takes x c shows other = next_zipped g others number spot (length xs) nth nth b.now below (numbers_distinct (length xs)) refl (sym is) (slice_get xs) (slice_get now) f p so_far takes x c (slice_get-get_or now nth d within ∙ shows) other

    pub item_zipped : (q : F) → CalledWithState g p (get_or now nth d) b tt q y → IsZippedTo g number others spot (nth + 1) (slice_get xs) (slice_get (slice_set now nth y)) f q
    item_zipped q called =
        rewritten_more (λ k o w p q. ChangesWith g (stored_at others (spot k)) o w p q) number nth (length xs) nth below (numbers_distinct (length xs)) refl
        (slice_get xs) (slice_get now) (slice_get (slice_set now nth y)) f p q so_far
        (get_or now nth d, y, b, slice_get-get_or now nth d within, set_there now nth y within, is, called) (λ q apart. set_elsewhere now nth q y apart)
