-- A lane lent as a part of a storage, and the lanes of an axis handed out one after the other.
use Rattle.nd_elements.proofs.NamesFromOtherCrates.{◌≡◌, ℕ, zero, suc, ◌+◌, ◌^◌, ◌<◌, Bool, true, false, List, [], ◌∷◌, ◌++◌, get_or, ℤ, pos, negsuc, ◌+ℤ◌, ◌*ℤ◌, refl, ap, sym, subst, ◌∙◌, arith, Option, None, Some, is_some, nat_eq, nat_lt, if◌then◌else◌, MutBor, Mut, fun_ext, nat_tests, in_box, HasCheckedSize, place_of, sums, Region, names, region_stored, with_element, written_same, written_other, named_at, named_by}
use Rattle.nd_elements.specs.declared.along.lane_mut.LaneMut.{LaneMut}
use Rattle.nd_elements.specs.CollectedElements.{stored_along}
use Rattle.nd_elements.specs.ShapeAndElements.{Meaning, inside}
use Rattle.nd_elements.specs.StoragePlaces.{stored_at, names_place, HoldsAll}
use Rattle.nd_elements.specs.ElementBorrowEnds.{KeepsPlaces}
use Rattle.nd_elements.specs.ScopedStorageCalls.{with_named, IsNamedPart}
use Rattle.nd_elements.specs.along.AxisLanes.{LanesDistinct}
use Rattle.nd_elements.specs.along.LanesWritten.{line_meaning, LeavesLane, MayBeHandedLane, lanes_held, AreHandedOut}
use Rattle.nd_elements.specs.elements.ElementChanges.{AreDistinct}
use Rattle.nd_elements.specs.elements.ElementMaps.{Replaces, RanNumbered, TakesNumbered}
use Rattle.nd_elements.specs.elements.ElementMapsMut.{Collects}
use Rattle.nd_elements.proofs.BoolAndResultCases.{by_bool}
use Rattle.nd_elements.proofs.elements_lemmas.ElementsHandedToBeWritten.{stored_same, changed_none, changed_more}
use Rattle.nd_elements.proofs.elements_lemmas.ReplacedElements.{replaced_ran, still_next}
use Rattle.nd_elements.proofs.elements_lemmas.RunPairs.{number, numbers_distinct}

-- a lane is short enough for a layout
pub lane_checked : (n : ℕ) → n < 2 ^ 63 → HasCheckedSize (n ∷ [])
lane_checked zero small = omega arith
lane_checked (suc n) small = omega (arith, small)

-- the one coordinate of an index of a lane
pub lane_coordinate : (n : ℕ) (k : List ℕ) → in_box (n ∷ []) k ≡ true → get_or k 0 0 < n
lane_coordinate n [] inbox = absurd cc
lane_coordinate n (j ∷ []) inbox = grind (arith, nat_tests, inbox)
lane_coordinate n (j ∷ l ∷ ls) inbox = absurd (grind (arith, nat_tests, inbox))

-- what is the same in a box is the same, seen there
pub seen_inside : {A : Type 0} (shape k : List ℕ) (x y : Option A) → (in_box shape k ≡ true → x ≡ y) → inside shape k x ≡ inside shape k y
seen_inside shape k x y same = by_bool (in_box shape k) (λ e. rw e (same e)) (λ e. rw e refl)

-- calls that collect what they answer, without the answers
pub collects_ran : {P A B : Type 0} (answers : P → Option A → A × B → P → Type 0) (found : ℕ → Option A) (first last : P × List B) (count : ℕ) → RanNumbered (Collects answers) found first count last → RanNumbered answers found first.0 count last.0
collects_ran answers found first last zero run = ap (λ p. p.0) run
collects_ran answers found first last (suc k) run = (run.0.0, collects_ran answers found first run.0 k run.1, ((run.2.0, run.2.1.0), run.2.1.2))

-- what names a place still does where each place holds something
pub kept_places : {A : Type 0} (old now : ℕ → Option A) → KeepsPlaces old now → (z : ℤ) → names_place old z ≡ true → names_place now z ≡ true
kept_places old now keeps (pos p) has = keeps p has
kept_places old now keeps (negsuc p) has = has

-- two lines of the same elements
pub line_same : {A : Type 0} (n m : ℕ) → n ≡ m → (at to : ℕ → Option A) → ((k : ℕ) → k < n → at k ≡ to k) → ◌≡◌ {A = Meaning A} (line_meaning at n) (line_meaning to m)
line_same {A} n m long at to same = λ i. record { shape = long i ∷ []; at = shows i }
  where
    shows : ◌≡◌ {A = List ℕ → Option A} (λ k. inside (n ∷ []) k (at (get_or k 0 0))) (λ k. inside (m ∷ []) k (to (get_or k 0 0)))
    shows = fun_ext (λ k. seen_inside (n ∷ []) k (at (get_or k 0 0)) (to (get_or k 0 0)) (λ within. same (get_or k 0 0) (lane_coordinate n k within)) ∙ (λ i. inside (long i ∷ []) k (to (get_or k 0 0))))

-- a lane by places of its own
pub lane_line : {A : Type 0} (stored : ℕ → Option A) (place : ℕ → ℤ) (p n m : ℕ) (s : ℤ) → ((k : ℕ) → pos p +ℤ (pos k *ℤ s) ≡ place k) → n ≡ m → ◌≡◌ {A = Meaning A} (line_meaning (stored_along stored p s) n) (line_meaning (λ k. stored_at stored (place k)) m)
lane_line stored place p n m s goes long = line_same n m long (stored_along stored p s) (λ k. stored_at stored (place k)) (λ k under. ap (stored_at stored) (goes k))

module _ (place count : ℕ) (s t : ℤ) (strides : t ≡ s) where
  -- its places, as those of a layout with one axis
  lies : (k : ℕ) → place_of place (t ∷ []) (k ∷ []) ≡ pos place +ℤ (pos k *ℤ s)
  lies k = along k ∙ (λ i. pos place +ℤ (pos k *ℤ strides i))
    where
      along : (j : ℕ) → place_of place (t ∷ []) (j ∷ []) ≡ pos place +ℤ (pos j *ℤ t)
      along j = omega (arith, sums)

  in_line : (k : ℕ) → k < count → in_box (count ∷ []) (k ∷ []) ≡ true
  in_line k under = grind (arith, nat_tests, under)

  names_lane : (k p : ℕ) → k < count → pos place +ℤ (pos k *ℤ s) ≡ pos p → names place (count ∷ []) (t ∷ []) p ≡ true
  names_lane k p under at = named_at place (count ∷ []) (t ∷ []) p (k ∷ []) (in_line k under) (lies k ∙ at)

  named_lane : (p : ℕ) → names place (count ∷ []) (t ∷ []) p ≡ true → (k : ℕ) × (k < count) × (pos place +ℤ (pos k *ℤ s) ≡ pos p)
  named_lane p e = let i = named_by place (count ∷ []) (t ∷ []) p e in by_index i.0 i.1 i.2
    where
      by_index : (i : List ℕ) → in_box (count ∷ []) i ≡ true → place_of place (t ∷ []) i ≡ pos p → (k : ℕ) × (k < count) × (pos place +ℤ (pos k *ℤ s) ≡ pos p)
      by_index [] h at = absurd cc
      by_index (k ∷ []) h at = (k, lane_coordinate count (k ∷ []) h, sym (lies k) ∙ at)
      by_index (k ∷ j ∷ js) h at = absurd (grind (arith, nat_tests, h))

  -- what is true of its numbers is true of each index' place
  pub lane_passes : (test : ℤ → Bool) → ((k : ℕ) → k < count → test (pos place +ℤ (pos k *ℤ s)) ≡ true) → (i : List ℕ) → in_box (count ∷ []) i ≡ true → test (place_of place (t ∷ []) i) ≡ true
  lane_passes test passes [] h = absurd cc
  lane_passes test passes (k ∷ []) h = ap test (lies k) ∙ passes k (lane_coordinate count (k ∷ []) h)
  lane_passes test passes (k ∷ j ∷ js) h = absurd (grind (arith, nat_tests, h))

  module _ {A : Type 0} (old : ℕ → Option A) where
    pub lane_held_all : ((k : ℕ) → k < count → names_place old (pos place +ℤ (pos k *ℤ s)) ≡ true) → HoldsAll old place (count ∷ []) (t ∷ [])
    lane_held_all holds = lane_passes (names_place old) holds

    module _ (x : Region A) (part : IsNamedPart old place (count ∷ []) (t ∷ []) x) where
      -- the part shows along the lane what the storage does
      pub lent_alike : (k : ℕ) → k < count → stored_along (region_stored x) place s k ≡ stored_along old place s k
      lent_alike k under = by_sign (pos place +ℤ (pos k *ℤ s)) refl
        where
          by_sign : (z : ℤ) → pos place +ℤ (pos k *ℤ s) ≡ z → stored_at (region_stored x) z ≡ stored_at old z
          by_sign (pos p) at = part p ∙ ap (λ (b : Bool). if b then old p else None) (names_lane k p under at)
          by_sign (negsuc p) at = refl

      pub lent_holds : ((k : ℕ) → k < count → names_place old (pos place +ℤ (pos k *ℤ s)) ≡ true) → (k : ℕ) → k < count → is_some (stored_along (region_stored x) place s k) ≡ true
      lent_holds holds k under = ap is_some (lent_alike k under) ∙ holds k under

      pub lent_line : ◌≡◌ {A = Meaning A} (line_meaning (stored_along (region_stored x) place s) count) (line_meaning (stored_along old place s) count)
      lent_line = line_same count count refl (stored_along (region_stored x) place s) (stored_along old place s) lent_alike

    -- and so once it is back
    module _ (new : ℕ → Option A) (r : Region A) (back : (p : ℕ) → new p ≡ with_named old place (count ∷ []) (t ∷ []) (region_stored r) p) where
      pub back_alike : (k : ℕ) → k < count → stored_along new place s k ≡ stored_along (region_stored r) place s k
      back_alike k under = by_sign (pos place +ℤ (pos k *ℤ s)) refl
        where
          by_sign : (z : ℤ) → pos place +ℤ (pos k *ℤ s) ≡ z → stored_at new z ≡ stored_at (region_stored r) z
          by_sign (pos p) at = back p ∙ ap (λ (b : Bool). if b then region_stored r p else old p) (names_lane k p under at)
          by_sign (negsuc p) at = refl

      pub back_line : ◌≡◌ {A = Meaning A} (line_meaning (stored_along new place s) count) (line_meaning (stored_along (region_stored r) place s) count)
      back_line = line_same count count refl (stored_along new place s) (stored_along (region_stored r) place s) back_alike

      pub lane_left : (p : ℕ) → ((k : ℕ) → k < count → pos place +ℤ (pos k *ℤ s) ≡ pos p → ⊥) → new p ≡ old p
      lane_left p nowhere = back p ∙ by_name (names place (count ∷ []) (t ∷ []) p) refl
        where
          by_name : (b : Bool) → names place (count ∷ []) (t ∷ []) p ≡ b → (if b then region_stored r p else old p) ≡ old p
          by_name true e = let k = named_lane p e in absurd (nowhere k.0 k.1 k.2)
          by_name false e = refl

module _ {F A B : Type 0} (g : Mut F (MutBor (LaneMut A) × Unit {0}) (B × (MutBor (LaneMut A) × Unit {0}))) where
  -- the same call, of lines that are equal
  pub leaves_same : (f last : F) (b : B) (l m n o : Meaning A) → ◌≡◌ {A = Meaning A} l m → ◌≡◌ {A = Meaning A} n o → LeavesLane g f (Some l) (n, b) last → LeavesLane g f (Some m) (o, b) last
  leaves_same f last b l m n o lane left call = (call.0, call.1, ap Some (sym lane) ∙ call.2, sym left ∙ call.3, call.4)

  -- lanes handed out, one after the other
  module _ (place : ℕ → ℕ → ℤ) (lanes count : ℕ) (old : ℕ → Option A) (first : F) where
    pub handed_none : AreHandedOut g place lanes count 0 old old first (first, [])
    handed_none = record { calls = changed_none (Replaces (Collects (LeavesLane g))) number (lanes_held place lanes count old) (first, []); left = λ p nowhere. refl }

    module _ (apart : LanesDistinct place lanes count) (r : ℕ) (on : r < lanes) (now : ℕ → Option A) (mid : F) (items : List B) (so_far : AreHandedOut g place lanes count r old now first (mid, items)) where
      test : nat_lt r lanes ≡ true
      test = grind (arith, nat_tests, on)

      -- the next may be
      pub handed_next : TakesNumbered (LeavesLane g) (MayBeHandedLane g) (lanes_held place lanes count old) first lanes → MayBeHandedLane g mid (Some (line_meaning (λ k. stored_at now (place r k)) count))
      handed_next takes =
          let still : lanes_held place lanes count now r ≡ lanes_held place lanes count old r = still_next (Collects (LeavesLane g)) number lanes r on (numbers_distinct lanes) (lanes_held place lanes count old) (lanes_held place lanes count now) (first, []) (mid, items) so_far.calls in
          let here : lanes_held place lanes count now r ≡ Some (line_meaning (λ k. stored_at now (place r k)) count) = rw test refl in
          subst (MayBeHandedLane g mid) (sym still ∙ here)
          (takes r mid on (collects_ran (LeavesLane g) (lanes_held place lanes count old) (first, []) (mid, items) r (replaced_ran (Collects (LeavesLane g)) number r (lanes_held place lanes count old) (lanes_held place lanes count now) (first, []) (mid, items) so_far.calls)))

      -- and was
      pub handed_more : (new : ℕ → Option A) (last : F) (b : B) → LeavesLane g mid (Some (line_meaning (λ k. stored_at now (place r k)) count)) (line_meaning (λ k. stored_at new (place r k)) count, b) last
          → ((p : ℕ) → ((k : ℕ) → k < count → place r k ≡ pos p → ⊥) → new p ≡ now p) → AreHandedOut g place lanes count (r + 1) old new first (last, items ++ b ∷ [])
      handed_more new last b call left = record {
        calls = changed_more (Replaces (Collects (LeavesLane g))) number r lanes r on (numbers_distinct lanes) refl (lanes_held place lanes count old) (lanes_held place lanes count now) (lanes_held place lanes count new) (first, []) (mid, items) (last, items ++ b ∷ [])
            so_far.calls step others;
        left = λ p nowhere. left p (λ k below. nowhere r k (omega arith) below) ∙ so_far.left p (λ q k earlier below. nowhere q k (omega (arith, earlier)) below);
      }
        where
          line : (ℕ → Option A) → Meaning A
          line stored = line_meaning (λ k. stored_at stored (place r k)) count

          here : (stored : ℕ → Option A) → lanes_held place lanes count stored r ≡ Some (line_meaning (λ k. stored_at stored (place r k)) count)
          here stored = rw test refl

          step : Replaces (Collects (LeavesLane g)) (lanes_held place lanes count now r) (lanes_held place lanes count new r) (mid, items) (last, items ++ b ∷ [])
          step = (line_meaning (λ k. stored_at new (place r k)) count, here new, (b, refl, subst (λ o. LeavesLane g mid o (line_meaning (λ k. stored_at new (place r k)) count, b) last) (sym (here now)) call))

          kept : (q k : ℕ) → q < lanes → (q ≡ r → ⊥) → k < count → stored_at new (place q k) ≡ stored_at now (place q k)
          kept q k on_q other below = stored_same now new (place q k) (λ p e. left p (λ j under f. other (apart q k r j on_q on below under (e ∙ sym f)).0))

          others : (q : ℕ) → (q ≡ r → ⊥) → lanes_held place lanes count new q ≡ lanes_held place lanes count now q
          others q other = by_bool (nat_lt q lanes)
              (λ e.
              let on_q : q < lanes = grind (arith, nat_tests, e) in
              rw e (ap Some (line_same count count refl (λ k. stored_at new (place q k)) (λ k. stored_at now (place q k)) (λ k below. kept q k on_q other below))))
              (λ e. rw e refl)

-- one element of a lane of a region written
module _ {A : Type 0} (r w : Region A) (place count nth p : ℕ) (s : ℤ) (x : A) (written : w ≡ with_element r p x) (apart : AreDistinct (λ k. pos place +ℤ (pos k *ℤ s)) count) (holds : (k : ℕ) → k < count → is_some (stored_along (region_stored r) place s k) ≡ true) (within : nth < count) (at : pos p ≡ pos place +ℤ (pos nth *ℤ s)) where
  there : is_some (region_stored r p) ≡ true
  there = ap (λ z. is_some (stored_at (region_stored r) z)) at ∙ holds nth within

  put_same : stored_along (region_stored w) place s nth ≡ Some x
  put_same = ap (stored_at (region_stored w)) (sym at) ∙ (ap (λ v. region_stored v p) written ∙ written_same r.items r.held p x there)

  put_other : (k : ℕ) → k < count → (k ≡ nth → ⊥) → stored_along (region_stored w) place s k ≡ stored_along (region_stored r) place s k
  put_other k under other = stored_same (region_stored r) (region_stored w) (pos place +ℤ (pos k *ℤ s)) (λ q e. ap (λ v. region_stored v q) written ∙ written_other r.items r.held p q x (λ same. other (apart k nth under within (e ∙ (ap pos same ∙ at)))))

  pub put_holds : (k : ℕ) → k < count → is_some (stored_along (region_stored w) place s k) ≡ true
  put_holds k under = by_bool (nat_eq k nth)
      (λ e. let same : k ≡ nth = grind (arith, nat_tests, e) in ap (λ j. is_some (stored_along (region_stored w) place s j)) same ∙ ap is_some put_same)
      (λ e. ap is_some (put_other k under (λ same. absurd (grind (arith, nat_tests, e, same)))) ∙ holds k under)

  pub put_seen : (k : ℕ) → inside (count ∷ []) (k ∷ []) (stored_along (region_stored w) place s k) ≡ (if nat_eq k nth then Some x else inside (count ∷ []) (k ∷ []) (stored_along (region_stored r) place s k))
  put_seen k = by_test (nat_eq k nth) refl
    where
      in_box_of : (j : ℕ) → j < count → in_box (count ∷ []) (j ∷ []) ≡ true
      in_box_of j under = grind (arith, nat_tests, under)

      by_test : (t : Bool) → nat_eq k nth ≡ t → inside (count ∷ []) (k ∷ []) (stored_along (region_stored w) place s k) ≡ (if t then Some x else inside (count ∷ []) (k ∷ []) (stored_along (region_stored r) place s k))
      by_test true e =
          let same : k ≡ nth = grind (arith, nat_tests, e) in
          let under : k < count = omega (arith, same, within) in
          rw (in_box_of k under) (ap (stored_along (region_stored w) place s) same ∙ put_same)
      by_test false e = seen_inside (count ∷ []) (k ∷ []) (stored_along (region_stored w) place s k) (stored_along (region_stored r) place s k) (λ inbox. put_other k (lane_coordinate count (k ∷ []) inbox) (λ same. absurd (grind (arith, nat_tests, e, same))))

-- and one read
module _ {A : Type 0} (r : Region A) (place count nth p : ℕ) (s : ℤ) (within : nth < count) (at : pos p ≡ pos place +ℤ (pos nth *ℤ s)) where
  pub held_here : ((k : ℕ) → k < count → is_some (stored_along (region_stored r) place s k) ≡ true) → is_some (region_stored r p) ≡ true
  held_here holds = ap (λ z. is_some (stored_at (region_stored r) z)) at ∙ holds nth within

  pub seen_here : (y : A) → region_stored r p ≡ Some y → inside (count ∷ []) (nth ∷ []) (stored_along (region_stored r) place s nth) ≡ Some y
  seen_here y e = rw (let inbox : in_box (count ∷ []) (nth ∷ []) ≡ true = grind (arith, nat_tests, within) in inbox) (ap (stored_at (region_stored r)) (sym at) ∙ e)
