-- Lanes folded, one after the other or in parallel: every call has the number of a lane and a coordinate.
use Rattle.nd_elements.proofs.NamesFromOtherCrates.{◌≡◌, ℕ, zero, suc, ◌+◌, ◌*◌, ◌/◌, ◌%◌, ◌<◌, ◌≤◌, true, false, List, length, slice_set, refl, ap, sym, subst, ◌∙◌, arith, Option, Some, nat_eq, nat_lt, slice_get, if◌then◌else◌, Bor, Mut, nat_tests, set_there, set_elsewhere}
use Rattle.nd_elements.specs.elements.ElementFolds.{RanTo}
use Rattle.nd_elements.specs.along.AxisLanes.{IsPairing}
use Rattle.nd_elements.specs.along.FoldOfLanes.{FoldsBetween, MayFold, FoldsShown, FoldsRun, TakesRun, FoldsInParallel, TakesInParallel, FoldsNumbered, FoldableNumbered, AreFoldedTo}
use Rattle.nd_elements.proofs.BoolAndResultCases.{by_bool}
use Rattle.nd_elements.proofs.along_lemmas.LaneNumbers.{number_lane, lane_number, lane_number_below}
use Rattle.nd_elements.proofs.NumberedCalls.{ran_more, ran_weaker, ran_then}

module _ {F B A : Type 0} (g : Mut F (Bor B × (Bor A × Unit {0})) B) where
  -- the calls of a lane, by its totals
  pub run_totals : (found : ℕ → Option A) (init : B) (f : F) (count : ℕ) (last : F × B) → RanTo (λ p k q. FoldsShown g (found k) p q) (f, init) count last
      → (totals : ℕ → Option B) × (totals 0 ≡ Some init) × (totals count ≡ Some last.1) × RanTo (λ p k q. FoldsBetween g (totals k) (found k) (totals (suc k)) p q) f count last.0
  run_totals found init f zero last run = ((λ k. Some init), refl, ap (λ s. Some s.1) (sym run), ap (λ s. s.0) run)
  run_totals found init f (suc n) last run =
      let so_far = run_totals found init f n run.0 run.1 in (
        totals so_far.0,
        before so_far.0 0 (omega arith) ∙ so_far.1,
        after so_far.0,
        (
          run.0.0,
          ran_weaker (λ p k q. FoldsBetween g (so_far.0 k) (found k) (so_far.0 (suc k)) p q) (λ p k q. FoldsBetween g (totals so_far.0 k) (found k) (totals so_far.0 (suc k)) p q) f run.0.0 n
              (λ p k q below call. subst (λ o. FoldsBetween g o (found k) (totals so_far.0 (suc k)) p q) (sym (before so_far.0 k (omega (arith, below)))) (subst (λ o. FoldsBetween g (so_far.0 k) (found k) o p q) (sym (before so_far.0 (suc k) (omega (arith, below)))) call)) so_far.3,
          subst (λ o. FoldsBetween g o (found n) (totals so_far.0 (suc n)) run.0.0 last.0) (sym (before so_far.0 n (omega arith) ∙ so_far.2)) (subst (λ o. FoldsBetween g (Some run.0.1) (found n) o run.0.0 last.0) (sym (after so_far.0)) run.2),
        ),
      )
    where
      totals : (ℕ → Option B) → ℕ → Option B
      totals earlier k = if nat_lt n k then Some last.1 else earlier k

      before : (earlier : ℕ → Option B) (k : ℕ) → k ≤ n → totals earlier k ≡ earlier k
      before earlier k below = let no : nat_lt n k ≡ false = grind (arith, nat_tests, below) in rw no refl

      after : (earlier : ℕ → Option B) → totals earlier (suc n) ≡ Some last.1
      after earlier = let yes : nat_lt n (suc n) ≡ true = grind (arith, nat_tests) in rw yes refl

  -- one lane after the other
  module _ (lanes n : ℕ) (elements : ℕ → ℕ → Option A) (init : B) (f : F) where
    -- so many lanes
    abbrev pub LanesFolded : ℕ → (ℕ → Option B) → F → Type 0
    LanesFolded done found now = (totals : ℕ → ℕ → Option B) × ((r : ℕ) → totals r 0 ≡ Some init) × ((r : ℕ) → r < done → found r ≡ totals r n) × FoldsNumbered g (λ m. m / n) (λ m. m % n) elements totals f (done * n) now

    pub lanes_none : (found : ℕ → Option B) → LanesFolded 0 found f
    lanes_none found = ((λ r k. Some init), (λ r. refl), (λ r below. absurd (omega (arith, below))), (let none : 0 ≡ 0 * n = omega arith in subst (λ m. FoldsNumbered g (λ i. i / n) (λ i. i % n) elements (λ r k. Some init) f m f) none refl))

    module _ (r : ℕ) (on : r < lanes) (found : ℕ → Option B) (mid : F) (so_far : LanesFolded r found mid) where
      abbrev joined : (ℕ → Option B) → ℕ → ℕ → Option B
      joined here q k = if nat_eq q r then here k else so_far.0 q k

      joined_here : (here : ℕ → Option B) (k : ℕ) → joined here r k ≡ here k
      joined_here here k = let same : nat_eq r r ≡ true = grind (arith, nat_tests) in rw same refl

      joined_there : (here : ℕ → Option B) (q k : ℕ) → q < r → joined here q k ≡ so_far.0 q k
      joined_there here q k earlier = let other : nat_eq q r ≡ false = grind (arith, nat_tests, earlier) in rw other refl

      starts : (here : ℕ → Option B) → here 0 ≡ Some init → (q : ℕ) → joined here q 0 ≡ Some init
      starts here begins q = by_bool (nat_eq q r) (λ e. rw e begins) (λ e. rw e (so_far.1 q))

      -- its calls after those of the others
      after : (here : ℕ → Option B) (count : ℕ) (last : F) → count ≤ n → RanTo (λ p k q. FoldsBetween g (here k) (elements r k) (here (suc k)) p q) mid count last → FoldsNumbered g (λ m. m / n) (λ m. m % n) elements (joined here) f (r * n + count) last
      after here count last within run =
          ran_then (λ p m q. FoldsBetween g (joined here (m / n) (m % n)) (elements (m / n) (m % n)) (joined here (m / n) (suc (m % n))) p q) (λ p k q. FoldsBetween g (here k) (elements r k) (here (suc k)) p q) f mid last (r * n) count
          (λ p k q below call.
          let numbers = lane_number n r k (omega (arith, below, within)) in
          subst (λ m. FoldsBetween g (joined here m ((r * n + k) % n)) (elements m ((r * n + k) % n)) (joined here m (suc ((r * n + k) % n))) p q) (sym numbers.0)
          (subst (λ m. FoldsBetween g (joined here r m) (elements r m) (joined here r (suc m)) p q) (sym numbers.1)
          (subst (λ o. FoldsBetween g o (elements r k) (joined here r (suc k)) p q) (sym (joined_here here k))
          (subst (λ o. FoldsBetween g (here k) (elements r k) o p q) (sym (joined_here here (suc k))) call))))
          (ran_weaker (λ p m q. FoldsBetween g (so_far.0 (m / n) (m % n)) (elements (m / n) (m % n)) (so_far.0 (m / n) (suc (m % n))) p q)
          (λ p m q. FoldsBetween g (joined here (m / n) (m % n)) (elements (m / n) (m % n)) (joined here (m / n) (suc (m % n))) p q) f mid (r * n)
          (λ p m q below call.
          let lane = number_lane r n m below in
          subst (λ o. FoldsBetween g o (elements (m / n) (m % n)) (joined here (m / n) (suc (m % n))) p q) (sym (joined_there here (m / n) (m % n) lane.0))
          (subst (λ o. FoldsBetween g (so_far.0 (m / n) (m % n)) (elements (m / n) (m % n)) o p q) (sym (joined_there here (m / n) (suc (m % n)) lane.0)) call)) so_far.3)
          run

      pub lanes_more : (later : ℕ → Option B) (y : B) (last : F) → ((q : ℕ) → q < r → later q ≡ found q) → later r ≡ Some y → FoldsRun g (elements r) n init mid y last → LanesFolded (r + 1) later last
      lanes_more later y last kept new run =
          let seen = run_totals (elements r) init mid n (last, y) run in
          let many : r * n + n ≡ (r + 1) * n = omega arith in (
            joined seen.0,
            starts seen.0 seen.1,
            ends seen.0 seen.2,
            subst (λ m. FoldsNumbered g (λ m. m / n) (λ m. m % n) elements (joined seen.0) f m last) many (after seen.0 n last (omega arith) seen.3),
          )
        where
          ends : (here : ℕ → Option B) → here n ≡ Some y → (q : ℕ) → q < r + 1 → later q ≡ joined here q n
          ends here answers q below = by_bool (nat_eq q r)
              (λ e. let same : q ≡ r = grind (arith, nat_tests, e) in rw e (ap later same ∙ (new ∙ sym answers)))
              (λ e. let earlier : q < r = grind (arith, nat_tests, e, below) in rw e (kept q earlier ∙ so_far.2 q earlier))

      -- the next lane may be folded
      pub lane_takes : FoldableNumbered g (λ m. m / n) (λ m. m % n) lanes (lanes * n) elements (λ q. Some init) f → TakesRun g (elements r) n init mid
      lane_takes takes k state below run b x total is =
          let seen = run_totals (elements r) init mid k state run in
          let numbers = lane_number n r k below in
          takes (joined seen.0) (r * n + k) state.0 (lane_number_below lanes n r k on below) (λ q on_q. starts seen.0 seen.1 q) (after seen.0 k state.0 (omega (arith, below)) seen.3) b x
          ((λ t. joined seen.0 (numbers.0 t) (numbers.1 t)) ∙ (joined_here seen.0 k ∙ (seen.2 ∙ total)))
          ((λ t. elements (numbers.0 t) (numbers.1 t)) ∙ is)

    pub lanes_all : (found : ℕ → Option B) (last : F) → LanesFolded lanes found last → AreFoldedTo g (λ m. m / n) (λ m. m % n) lanes n (lanes * n) elements (λ r. Some init) f found
    lanes_all found last done = (done.0, (λ r below. done.1 r), done.2, (last, done.3))

  -- one coordinate after the other, for lanes that are folded in parallel
  module _ (lanes n : ℕ) (elements : ℕ → ℕ → Option A) (start : ℕ → Option B) (f : F) where
    -- so many coordinates
    abbrev pub FoldedBelow : ℕ → (ℕ → Option B) → F → Type 0
    FoldedBelow k found now = (totals : ℕ → ℕ → Option B) × ((r : ℕ) → totals r 0 ≡ start r) × ((r : ℕ) → r < lanes → found r ≡ totals r k) × FoldsNumbered g (λ m. m % lanes) (λ m. m / lanes) elements totals f (k * lanes) now

    pub below_none : (found : ℕ → Option B) → ((r : ℕ) → r < lanes → found r ≡ start r) → FoldedBelow 0 found f
    below_none found same = ((λ r k. start r), (λ r. refl), same, (let none : 0 ≡ 0 * lanes = omega arith in subst (λ m. FoldsNumbered g (λ i. i % lanes) (λ i. i / lanes) elements (λ r k. start r) f m f) none refl))

    module _ (k : ℕ) (under : k < n) (found : ℕ → Option B) (mid : F) (so_far : FoldedBelow k found mid) where
      abbrev continued : (ℕ → Option B) → ℕ → ℕ → Option B
      continued next r j = if nat_eq j (suc k) then next r else so_far.0 r j

      kept_next : (next : ℕ → Option B) (r : ℕ) → continued next r (suc k) ≡ next r
      kept_next next r = let same : nat_eq (suc k) (suc k) ≡ true = grind (arith, nat_tests) in rw same refl

      kept_before : (next : ℕ → Option B) (r j : ℕ) → j ≤ k → continued next r j ≡ so_far.0 r j
      kept_before next r j low = let other : nat_eq j (suc k) ≡ false = grind (arith, nat_tests, low) in rw other refl

      row_after : (next : ℕ → Option B) (count : ℕ) (last : F) → count ≤ lanes → RanTo (λ p r q. FoldsBetween g (found r) (elements r k) (next r) p q) mid count last → FoldsNumbered g (λ m. m % lanes) (λ m. m / lanes) elements (continued next) f (k * lanes + count) last
      row_after next count last within run =
          ran_then (λ p m q. FoldsBetween g (continued next (m % lanes) (m / lanes)) (elements (m % lanes) (m / lanes)) (continued next (m % lanes) (suc (m / lanes))) p q) (λ p r q. FoldsBetween g (found r) (elements r k) (next r) p q) f mid last (k * lanes) count
          (λ p r q below call.
          let on : r < lanes = omega (arith, below, within) in
          let numbers = lane_number lanes k r on in
          subst (λ m. FoldsBetween g (continued next ((k * lanes + r) % lanes) m) (elements ((k * lanes + r) % lanes) m) (continued next ((k * lanes + r) % lanes) (suc m)) p q) (sym numbers.0)
          (subst (λ m. FoldsBetween g (continued next m k) (elements m k) (continued next m (suc k)) p q) (sym numbers.1)
          (subst (λ o. FoldsBetween g o (elements r k) (continued next r (suc k)) p q) (so_far.2 r on ∙ sym (kept_before next r k (omega arith)))
          (subst (λ o. FoldsBetween g (found r) (elements r k) o p q) (sym (kept_next next r)) call))))
          (ran_weaker (λ p m q. FoldsBetween g (so_far.0 (m % lanes) (m / lanes)) (elements (m % lanes) (m / lanes)) (so_far.0 (m % lanes) (suc (m / lanes))) p q)
          (λ p m q. FoldsBetween g (continued next (m % lanes) (m / lanes)) (elements (m % lanes) (m / lanes)) (continued next (m % lanes) (suc (m / lanes))) p q) f mid (k * lanes)
          (λ p m q below call.
          let column = (number_lane k lanes m below).0 in
          subst (λ o. FoldsBetween g o (elements (m % lanes) (m / lanes)) (continued next (m % lanes) (suc (m / lanes))) p q) (sym (kept_before next (m % lanes) (m / lanes) (omega (arith, column))))
          (subst (λ o. FoldsBetween g (so_far.0 (m % lanes) (m / lanes)) (elements (m % lanes) (m / lanes)) o p q) (sym (kept_before next (m % lanes) (suc (m / lanes)) (omega (arith, column)))) call)) so_far.3)
          run

      pub below_more : (next : ℕ → Option B) (last : F) → RanTo (λ p r q. FoldsBetween g (found r) (elements r k) (next r) p q) mid lanes last → FoldedBelow (k + 1) next last
      below_more next last run =
          let many : k * lanes + lanes ≡ (k + 1) * lanes = omega arith in (
            continued next,
            (λ r. kept_before next r 0 (omega arith) ∙ so_far.1 r),
            (λ r on. sym (kept_next next r) ∙ ap (continued next r) (omega arith)),
            subst (λ m. FoldsNumbered g (λ m. m % lanes) (λ m. m / lanes) elements (continued next) f m last) many (row_after next lanes last (omega arith) run),
          )

      -- the next call at this coordinate may be made
      pub next_takes : FoldableNumbered g (λ m. m % lanes) (λ m. m / lanes) lanes (n * lanes) elements start f → (next : ℕ → Option B) (r : ℕ) (now : F) → r < lanes → RanTo (λ p j q. FoldsBetween g (found j) (elements j k) (next j) p q) mid r now → MayFold g (found r) (elements r k) now
      next_takes takes next r now on run b x total is =
          let numbers = lane_number lanes k r on in
          takes (continued next) (k * lanes + r) now (lane_number_below n lanes k r under on) (λ q on_q. kept_before next q 0 (omega arith) ∙ so_far.1 q) (row_after next r now (omega (arith, on)) run) b x
          ((λ t. continued next (numbers.1 t) (numbers.0 t)) ∙ (kept_before next r k (omega arith) ∙ (sym (so_far.2 r on) ∙ total)))
          ((λ t. elements (numbers.1 t) (numbers.0 t)) ∙ is)

    pub below_all : (found : ℕ → Option B) (last : F) → FoldedBelow n found last → AreFoldedTo g (λ m. m % lanes) (λ m. m / lanes) lanes n (n * lanes) elements start f found
    below_all found last done = (done.0, (λ r below. done.1 r), done.2, (last, done.3))

  -- the same calls where other words say what the first totals are
  module _ (lanes count all : ℕ) (lane column : ℕ → ℕ) (elements : ℕ → ℕ → Option A) (start first : ℕ → Option B) (same : (r : ℕ) → r < lanes → first r ≡ start r) (f : F) where
    pub started : FoldableNumbered g lane column lanes all elements start f → FoldableNumbered g lane column lanes all elements first f
    started takes totals m now below begins run = takes totals m now below (λ r on. begins r on ∙ same r on) run

    pub started_done : (found : ℕ → Option B) → AreFoldedTo g lane column lanes count all elements first f found → AreFoldedTo g lane column lanes count all elements start f found
    started_done found done = (done.0, (λ r on. done.1 r on ∙ same r on), done.2, done.3)

  -- the same calls where other words say what the elements are
  module _ (lanes count : ℕ) {all : ℕ} {lane column : ℕ → ℕ} {number : ℕ → ℕ → ℕ} (pairs : IsPairing lanes count all lane column number) (elements others : ℕ → ℕ → Option A) (same : (r k : ℕ) → r < lanes → k < count → elements r k ≡ others r k) (start : ℕ → Option B) (f : F) where
    pub numbered_alike : (totals : ℕ → ℕ → Option B) (m : ℕ) (last : F) → m ≤ all → FoldsNumbered g lane column elements totals f m last → FoldsNumbered g lane column others totals f m last
    numbered_alike totals m last within run =
        ran_weaker (λ p j q. FoldsBetween g (totals (lane j) (column j)) (elements (lane j) (column j)) (totals (lane j) (suc (column j))) p q) (λ p j q. FoldsBetween g (totals (lane j) (column j)) (others (lane j) (column j)) (totals (lane j) (suc (column j))) p q) f last m
        (λ p j q below call.
        let on : j < all = omega (arith, below, within) in
        subst (λ o. FoldsBetween g (totals (lane j) (column j)) o (totals (lane j) (suc (column j))) p q) (same (lane j) (column j) (pairs.lane_below j on) (pairs.column_below j on)) call) run

    pub foldable_alike : FoldableNumbered g lane column lanes all others start f → FoldableNumbered g lane column lanes all elements start f
    foldable_alike takes totals m now below begins run b x total is =
        takes totals m now below begins (numbered_alike totals m now (omega (arith, below)) run) b x total (sym (same (lane m) (column m) (pairs.lane_below m below) (pairs.column_below m below)) ∙ is)

    pub folded_alike : (found : ℕ → Option B) → AreFoldedTo g lane column lanes count all elements start f found → AreFoldedTo g lane column lanes count all others start f found
    folded_alike found done = (done.0, done.1, done.2, (done.3.0, numbered_alike done.0 all done.3.0 (omega arith) done.3.1))

module _ {F B A : Type 0} (g : Mut F (Bor B × (Bor A × Unit {0})) B) where
  -- the same of two lanes with the same elements
  module _ (found other : ℕ → Option A) (n m : ℕ) (long : n ≡ m) (same : (k : ℕ) → k < n → found k ≡ other k) (init start : B) (starts : start ≡ init) (f : F) where
    pub takes_same : TakesRun g other m init f → TakesRun g found n start f
    takes_same takes k now below run b x total is =
        takes k now (subst (λ p. k < p) long below)
        (subst (λ v. RanTo (λ p j q. FoldsShown g (other j) p q) (f, v) k now) starts
        (ran_weaker (λ p j q. FoldsShown g (found j) p q) (λ p j q. FoldsShown g (other j) p q) (f, start) now k (λ p j q under call. subst (λ o. FoldsShown g o p q) (same j (omega (arith, under, below))) call) run))
        b x total (sym (same k below) ∙ is)

    pub folds_same : (y : B) (f' : F) → FoldsRun g found n start f y f' → FoldsRun g other m init f y f'
    folds_same y f' run =
        subst (λ p. RanTo (λ p j q. FoldsShown g (other j) p q) (f, init) p (f', y)) long
        (subst (λ v. RanTo (λ p j q. FoldsShown g (other j) p q) (f, v) n (f', y)) starts
        (ran_weaker (λ p j q. FoldsShown g (found j) p q) (λ p j q. FoldsShown g (other j) p q) (f, start) (f', y) n (λ p j q under call. subst (λ o. FoldsShown g o p q) (same j under) call) run))

module _ {F B A : Type 0} (g : Mut F (Bor B × (Bor A × Unit {0})) B) (elements : ℕ → Option A) (old now : List B) (f : F) (nth : ℕ) (y : B) (kept : (j : ℕ) → nth ≤ j → slice_get now j ≡ slice_get old j) where
  -- one more call, whose answer takes the total's place
  pub parallel_more : (p q : F) → nth < length now → FoldsInParallel g (slice_get old) elements (slice_get now) f nth p → FoldsBetween g (slice_get now nth) (elements nth) (Some y) p q → FoldsInParallel g (slice_get old) elements (slice_get (slice_set now nth y)) f (nth + 1) q
  parallel_more p q below run call =
      let new = slice_get (slice_set now nth y) in
      ran_more (λ p r q. FoldsBetween g (slice_get old r) (elements r) (new r) p q) f p q nth
      (ran_weaker (λ p r q. FoldsBetween g (slice_get old r) (elements r) (slice_get now r) p q) (λ p r q. FoldsBetween g (slice_get old r) (elements r) (new r) p q) f p nth
      (λ p j q under step. subst (λ o. FoldsBetween g (slice_get old j) (elements j) o p q) (sym (set_elsewhere now nth j y (λ e. absurd (omega (arith, under, e))))) step) run)
      (subst (λ o. FoldsBetween g (slice_get old nth) (elements nth) o p q) (sym (set_there now nth y below)) (subst (λ o. FoldsBetween g o (elements nth) (Some y) p q) (kept nth (omega arith)) call))

  pub parallel_kept : (j : ℕ) → nth + 1 ≤ j → slice_get (slice_set now nth y) j ≡ slice_get old j
  parallel_kept j later = set_elsewhere now nth j y (λ e. absurd (omega (arith, later, e))) ∙ kept j (omega (arith, later))

-- the same calls where other words say what the elements are
pub parallel_same : {F B A : Type 0} (g : Mut F (Bor B × (Bor A × Unit {0})) B) (elements others : ℕ → Option A) (before afterwards : ℕ → Option B) (f last : F) (n m : ℕ) → n ≡ m → ((r : ℕ) → r < n → elements r ≡ others r) → FoldsInParallel g before elements afterwards f n last → FoldsInParallel g before others afterwards f m last
parallel_same g elements others before afterwards f last n m long same run =
    subst (λ c. FoldsInParallel g before others afterwards f c last) long
    (ran_weaker (λ p r q. FoldsBetween g (before r) (elements r) (afterwards r) p q) (λ p r q. FoldsBetween g (before r) (others r) (afterwards r) p q) f last n
    (λ p r q below call. subst (λ o. FoldsBetween g (before r) o (afterwards r) p q) (same r below) call) run)

pub outside_taken : {F B A : Type 0} (g : Mut F (Bor B × (Bor A × Unit {0})) B) (elements others : ℕ → Option A) (before : ℕ → Option B) (f : F) (n m : ℕ) → m ≡ n → ((r : ℕ) → r < n → others r ≡ elements r) → TakesInParallel g before elements n f → TakesInParallel g before others m f
outside_taken g elements others before f n m long same takes afterwards r now below run b x total is =
    let under : r < n = subst (λ c. r < c) long below in
    takes afterwards r now under (parallel_same g others elements before afterwards f now r r refl (λ j before_r. same j (omega (arith, before_r, under))) run) b x total (sym (same r under) ∙ is)
