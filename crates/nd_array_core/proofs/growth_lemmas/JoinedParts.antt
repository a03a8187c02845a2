-- The parts of a split, one after the other, are the array.
use Rattle.nd_array_core.proofs.NamesFromOtherCrates.{◌≡◌, refl, ℕ, ◌+◌, ◌-◌, ◌<◌, ◌≤◌, true, cond, ltb, List, length, get_or, set, ap, ◌∙◌, subst, arith, ⊎_elim, lt-ltb, le-ltb, cases_lt, get_or-set_same, length-set, set-get_or, set-set, length-in_box, coordinate_below, in_box, lower_shape, upper_shape, upper_index, in_box-set, upper_index-lowered, Meaning, inside}
use Rattle.nd_array_core.specs.LayoutLaws.{NothingOutside}
use Rattle.nd_array_core.specs.ConcatenationAndSplit.{lower_of, upper_of, concatenated_shape, concatenated, SplitAndJoined}
use Rattle.nd_array_core.specs.growth.Append.{IsAlikeOnOtherAxes}
use Rattle.nd_array_core.proofs.law_lemmas.LayoutLaws.{same_meaning, inside_here, inside_kept, inside_box}
use Rattle.nd_array_core.proofs.growth_lemmas.BroadcastAppends.{with_after, with_itself}

-- the axis is as long as both parts
parts_shape : (ns : List ℕ) (a k : ℕ) → a < length ns → k ≤ get_or ns a 0 → concatenated_shape (lower_shape ns a k) (upper_shape ns a k) a ≡ ns
parts_shape ns a k on within =
    let n = get_or ns a 0 in
    set-set ns a k (get_or (set ns a k) a 0 + get_or (set ns a (n - k)) a 0)
    ∙ (ap (λ c. set ns a (c + get_or (set ns a (n - k)) a 0)) (get_or-set_same ns a k 0 on)
    ∙ (ap (λ c. set ns a (k + c)) (get_or-set_same ns a (n - k) 0 on)
    ∙ (ap (set ns a) (omega (arith, within)) ∙ set-get_or ns a 0)))

module _ {A : Type 0} (m : Meaning A) (a k : ℕ) (on : a < length m.shape) (within : k ≤ get_or m.shape a 0) where
  either_part : (i : List ℕ) → in_box m.shape i ≡ true →
      cond (ltb (get_or i a 0) (get_or (lower_shape m.shape a k) a 0)) ((lower_of a k m).at i) ((upper_of a k m).at (set i a (get_or i a 0 - get_or (lower_shape m.shape a k) a 0))) ≡ m.at i
  either_part i h =
      let c = get_or i a 0 in
      let n = get_or m.shape a 0 in
      let here = get_or-set_same m.shape a k 0 on in
      let below = coordinate_below m.shape i a h on in
      let wide : a < length i = omega (arith, length-in_box m.shape i h, on) in
      ap (λ q. cond (ltb c q) (inside (set m.shape a k) i (m.at i)) (inside (set m.shape a (n - k)) (set i a (c - q)) (m.at (upper_index a k (set i a (c - q)))))) here
      ∙ ⊎_elim
      (λ (low : c < k).
      ap (λ b. cond b (inside (set m.shape a k) i (m.at i)) (inside (set m.shape a (n - k)) (set i a (c - k)) (m.at (upper_index a k (set i a (c - k)))))) (lt-ltb c k low)
      ∙ inside_box (set m.shape a k) i (m.at i) (subst (λ j. in_box (set m.shape a k) j ≡ true) (set-get_or i a 0) (in_box-set m.shape i a k c h low)))
      (λ (high : k ≤ c).
      ap (λ b. cond b (inside (set m.shape a k) i (m.at i)) (inside (set m.shape a (n - k)) (set i a (c - k)) (m.at (upper_index a k (set i a (c - k)))))) (le-ltb c k high)
      ∙ (inside_box (set m.shape a (n - k)) (set i a (c - k)) (m.at (upper_index a k (set i a (c - k)))) (in_box-set m.shape i a (n - k) (c - k) h (omega (arith, below, high)))
      ∙ ap m.at (upper_index-lowered i a k wide high)))
      (cases_lt c k)

  parts_alike : IsAlikeOnOtherAxes (lower_shape m.shape a k) (upper_shape m.shape a k) a
  parts_alike =
      let n = get_or m.shape a 0 in
      let long = length-set m.shape a k in (
        omega (arith, long, on),
        set-set m.shape a (n - k) (get_or (set m.shape a k) a 0) ∙ ap (set m.shape a) (get_or-set_same m.shape a k 0 on),
      )

  pub split_and_joined_at : NothingOutside m → concatenated a (lower_of a k m) (upper_of a k m) ≡ m
  split_and_joined_at nothing =
      let shape = parts_shape m.shape a k on within in
      with_itself a (lower_of a k m) (upper_of a k m) parts_alike (λ i outside. rw outside refl)
      ∙ same_meaning m (concatenated_shape (lower_of a k m).shape (upper_of a k m).shape a) (with_after a (lower_of a k m) (get_or (upper_of a k m).shape a 0) (upper_of a k m)).at shape
      (λ i.
      let x = cond (ltb (get_or i a 0) (get_or (lower_shape m.shape a k) a 0)) ((lower_of a k m).at i) ((upper_of a k m).at (set i a (get_or i a 0 - get_or (lower_shape m.shape a k) a 0))) in
      ap (λ l. inside l i x) shape ∙ (inside_here m.shape i x (m.at i) (either_part i) ∙ inside_kept m.shape i (m.at i) (nothing i)))

pub split_and_joined : {A : Type 0} → SplitAndJoined A
split_and_joined m a k nothing on within = split_and_joined_at m a k on within nothing
