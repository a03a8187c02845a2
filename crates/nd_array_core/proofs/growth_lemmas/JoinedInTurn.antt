-- Arrays of a list after one, taken one more at a time.
use Rattle.nd_array_core.proofs.NamesFromOtherCrates.{◌≡◌, ℕ, zero, suc, ◌+◌, ◌<◌, ◌≤◌, max, true, List, [], ◌∷◌, ◌++◌, length, get_or, set, take, refl, ap, sym, subst, ◌∙◌, arith, ⊎_elim, Some, map, slice_get, cases_eq, remove, mul-le-mul_right, length-set, set-set, set-get_or, get_or-set_same, sum_by-cons, sum_by_more, sum_by_more_le, get_or_from_slice_get, slice_get_within, same_Some, HasCheckedSize, in_box, nonzero_product, ErrorKind, take_next, grown_shape, in_box-longer, nonzero_product-set, Meaning}
use Rattle.nd_array_core.specs.declared.base.array_error.ArrayError.{ArrayError}
use Rattle.nd_array_core.specs.declared.base.array_error.ArrayError.TheVariants.{Shape, NoMemory}
use Rattle.nd_array_core.specs.ConcatenationAndSplit.{concatenated, concatenated_alike}
use Rattle.nd_array_core.specs.LayoutLaws.{NothingOutside}
use Rattle.nd_array_core.specs.growth.Append.{FitsAfter, IsAlikeOnOtherAxes, IsAppendRefused, IsJoiningRefused, NotFitting, TooLarge}
use Rattle.nd_array_core.specs.growth.AppendEach.{alike_in_turn, joined_in_turn, lengths_along, AreAlikeOnOtherAxes}
use Rattle.nd_array_core.proofs.growth_lemmas.BroadcastAppends.{fits_grown, fits_ungrown, with_itself}

grown_twice : (ns : List ℕ) (a x y : ℕ) → (0 < length ns → a < length ns) → grown_shape (grown_shape ns a x) a y ≡ grown_shape ns a (x + y)
grown_twice [] a x y on = refl
grown_twice (n ∷ ns) a x y on =
    let more = get_or (n ∷ ns) a 0 + x in
    ap (λ k. set (set (n ∷ ns) a more) a (k + y)) (get_or-set_same (n ∷ ns) a more 0 (on (omega arith)))
    ∙ (set-set (n ∷ ns) a more (more + y)
    ∙ ap (set (n ∷ ns) a) (omega arith))

-- a shape with more lengths of an axis has the indexes from before
pub in_box-grown : (ns i : List ℕ) (a x : ℕ) → (0 < length ns → a < length ns) → in_box ns i ≡ true → in_box (grown_shape ns a x) i ≡ true
in_box-grown [] i a x on h = h
in_box-grown (n ∷ ns) i a x on h = in_box-longer (n ∷ ns) i a (get_or (n ∷ ns) a 0 + x) (on (omega arith)) (omega arith) h

module _ {A : Type 0} where
  joined_last : (a : ℕ) (m n : Meaning A) (ms : List (Meaning A)) → joined_in_turn a m (ms ++ n ∷ []) ≡ concatenated a (joined_in_turn a m ms) n
  joined_last a m n [] = refl
  joined_last a m n (k ∷ ks) = joined_last a (concatenated a m k) n ks

  pub joined_more : (a : ℕ) (m n : Meaning A) (ms : List (Meaning A)) (nth : ℕ) → slice_get ms nth ≡ Some n → joined_in_turn a m (take (nth + 1) ms) ≡ concatenated a (joined_in_turn a m (take nth ms)) n
  joined_more a m n ms nth e = ap (joined_in_turn a m) (take_next ms nth n e) ∙ joined_last a m n (take nth ms)

  -- the axis is as long as all together
  pub shape_in_turn : (a : ℕ) (m : Meaning A) (ms : List (Meaning A)) → (0 < length m.shape → a < length m.shape) → (joined_in_turn a m ms).shape ≡ grown_shape m.shape a (lengths_along a ms)
  shape_in_turn a m [] on = sym (ap (set m.shape a) (omega arith) ∙ set-get_or m.shape a 0)
  shape_in_turn a m (n ∷ ns) on =
      let more = get_or m.shape a 0 + get_or n.shape a 0 in
      let long = length-set m.shape a more in
      shape_in_turn a (concatenated a m n) ns (λ some. let here = on (omega (arith, long, some)) in omega (arith, long, here))
      ∙ (grown_twice m.shape a (get_or n.shape a 0) (lengths_along a ns) on
      ∙ ap (grown_shape m.shape a) (sym (sum_by-cons (λ k. get_or k.shape a 0) n ns)))

  pub lengths_more : (a : ℕ) (n : Meaning A) (ms : List (Meaning A)) (nth : ℕ) → slice_get ms nth ≡ Some n → lengths_along a (take (nth + 1) ms) ≡ lengths_along a (take nth ms) + get_or n.shape a 0
  lengths_more a n ms nth e =
      sum_by_more (λ m. get_or m.shape a 0) ms nth n (slice_get_within ms nth n e)
      ∙ ap (λ m. lengths_along a (take nth ms) + get_or m.shape a 0) (get_or_from_slice_get ms nth n n e)

  pub lengths_within : (a : ℕ) (n : Meaning A) (ms : List (Meaning A)) (nth : ℕ) → slice_get ms nth ≡ Some n → lengths_along a (take nth ms) + get_or n.shape a 0 ≤ lengths_along a ms
  lengths_within a n ms nth e =
      subst (λ m. lengths_along a (take nth ms) + get_or m.shape a 0 ≤ lengths_along a ms) (get_or_from_slice_get ms nth n n e)
      (sum_by_more_le (λ m. get_or m.shape a 0) ms nth n (slice_get_within ms nth n e))

-- a shorter axis has a checked size too
checked_within : (ns : List ℕ) (a few many : ℕ) → a < length ns → few ≤ many → HasCheckedSize (set ns a many) → HasCheckedSize (set ns a few)
checked_within ns a few many on fewer checked =
    let wide = nonzero_product-set ns a many on in
    let narrow = nonzero_product-set ns a few on in
    let less = mul-le-mul_right {m = max 1 few} {n = max 1 many} (nonzero_product (remove ns a)) (omega arith) in
    let limit : nonzero_product (set ns a many) < 9223372036854775808 = checked in
    omega (arith, wide, narrow, less, limit)

-- so only want of memory is left
pub only_memory : (ns ms shape : List ℕ) (a taken all : ℕ) (e : ArrayError) → shape ≡ grown_shape ns a taken → a < length ns → FitsAfter ns ms a → taken + get_or ms a 0 ≤ all → HasCheckedSize (grown_shape ns a all) → IsAppendRefused shape ms a e → e ≡ NoMemory
only_memory ns ms shape a taken all NoMemory is on fits within checked refused = refl
only_memory ns ms shape a taken all (Shape kind) is on fits within checked refused = absurd (by_kind kind (subst (λ s. IsJoiningRefused s ms a kind) is refused))
  where
    by_kind : (kind : ErrorKind) → IsJoiningRefused (grown_shape ns a taken) ms a kind → ⊥
    by_kind kind (NotFitting other) = other (fits_grown ns ms a (get_or ns a 0 + taken) fits)
    by_kind kind (TooLarge there large) =
        large
        (subst HasCheckedSize
        (sym (ap (λ n. set (grown_shape ns a taken) a (n + get_or ms a 0)) (get_or-set_same ns a (get_or ns a 0 + taken) 0 on)
        ∙ set-set ns a (get_or ns a 0 + taken) (get_or ns a 0 + taken + get_or ms a 0)))
        (checked_within ns a (get_or ns a 0 + taken + get_or ms a 0) (get_or ns a 0 + all) on (omega (arith, within)) checked))

-- the first so many arrays of a list fit after a shape
abbrev pub FirstFit : {A : Type 0} → ℕ → ℕ → List ℕ → List (Meaning A) → Type 0
FirstFit {A} count a ns ms = (nth : ℕ) (m : Meaning A) → nth < count → slice_get ms nth ≡ Some m → FitsAfter ns m.shape a

module _ {A : Type 0} where
  pub none_fit : (a : ℕ) (ns : List ℕ) (ms : List (Meaning A)) → FirstFit 0 a ns ms
  none_fit a ns ms nth m below is = absurd (omega (arith, below))

  pub one_more_fits : (count a taken : ℕ) (ns shape : List ℕ) (n : Meaning A) (ms : List (Meaning A)) → FirstFit count a ns ms → slice_get ms count ≡ Some n → shape ≡ grown_shape ns a taken → FitsAfter shape n.shape a → FirstFit (count + 1) a ns ms
  one_more_fits count a taken ns shape n ms fit get is fits nth m below there =
      ⊎_elim
      (λ (last : nth ≡ count). let same = same_Some m n (sym there ∙ (ap (slice_get ms) last ∙ get)) in
      subst (λ k. FitsAfter ns k.shape a) (sym same) (fits_ungrown ns n.shape a (get_or ns a 0 + taken) (subst (λ s. FitsAfter s n.shape a) is fits)))
      (λ (other : nth ≡ count → ⊥). fit nth m (omega (arith, below, other)) there)
      (cases_eq nth count)

  pub all_fit : (a : ℕ) (ns : List ℕ) (ms : List (Meaning A)) (count : ℕ) → FirstFit count a ns ms → length ms ≤ count → (nth : ℕ) (m : Meaning A) → slice_get ms nth ≡ Some m → FitsAfter ns m.shape a
  all_fit a ns ms count fit all nth m is = fit nth m (let below = slice_get_within ms nth m is in omega (arith, below, all)) is

  below_count : (ms : List (Meaning A)) (count nth : ℕ) (m : Meaning A) → slice_get (take count ms) nth ≡ Some m → (nth < count) × (slice_get ms nth ≡ Some m)
  below_count [] zero nth m is = absurd cc
  below_count [] (suc count) nth m is = absurd cc
  below_count (k ∷ ks) zero nth m is = absurd cc
  below_count (k ∷ ks) (suc count) zero m is = (omega arith, is)
  below_count (k ∷ ks) (suc count) (suc nth) m is = let next = below_count ks count nth m is in (let less = next.0 in omega (arith, less), next.1)

  pub taken_fit : (a : ℕ) (ns : List ℕ) (ms : List (Meaning A)) (count : ℕ) → FirstFit count a ns ms → (nth : ℕ) (m : Meaning A) → slice_get (take count ms) nth ≡ Some m → FitsAfter ns m.shape a
  taken_fit a ns ms count fit nth m is = let there = below_count ms count nth m is in fit nth m there.0 there.1

-- ---- arrays that needn't be broadcast
-- the lengths of the axis that have come don't matter
alike_longer : (ns ms : List ℕ) (a x : ℕ) → a < length ns → IsAlikeOnOtherAxes ns ms a → IsAlikeOnOtherAxes (set ns a x) ms a
alike_longer ns ms a x on alike =
    let long = length-set ns a x in (
      omega (arith, long, on),
      ap (set ms a) (get_or-set_same ns a x 0 on) ∙ (sym (set-set ms a (get_or ns a 0) x) ∙ ap (λ s. set s a x) alike.1),
    )

pub each_mapped : {X Y : Type 0} (f : X → Y) (P : Y → Type 0) (xs : List X) → ((x : X) → P (f x)) → (nth : ℕ) (y : Y) → slice_get (map f xs) nth ≡ Some y → P y
each_mapped f P [] all nth y is = absurd cc
each_mapped f P (x ∷ xs) all zero y is = subst P (same_Some (f x) y is) (all x)
each_mapped f P (x ∷ xs) all (suc nth) y is = each_mapped f P xs all nth y is

module _ {A : Type 0} where
  each_longer : (ns : List ℕ) (a x : ℕ) (ms : List (Meaning A)) → a < length ns → AreAlikeOnOtherAxes a ns ms → AreAlikeOnOtherAxes a (set ns a x) ms
  each_longer ns a x [] on alike = alike
  each_longer ns a x (m ∷ ms) on alike = (alike_longer ns m.shape a x on alike.0, each_longer ns a x ms on alike.1)

  pub turn_alike : (a : ℕ) (m : Meaning A) (ns : List (Meaning A)) → (0 < length m.shape → a < length m.shape) → ((nth : ℕ) (n : Meaning A) → slice_get ns nth ≡ Some n → NothingOutside n) → AreAlikeOnOtherAxes a m.shape ns → joined_in_turn a m ns ≡ alike_in_turn a m ns
  turn_alike a m [] on nothing alike = refl
  turn_alike a m (n ∷ ns) on nothing alike =
      let more = get_or m.shape a 0 + get_or n.shape a 0 in
      let here = on alike.0.0 in
      let long = length-set m.shape a more in
      ap (λ k. joined_in_turn a k ns) (with_itself a m n alike.0 (nothing 0 n refl))
      ∙ turn_alike a (concatenated_alike a m n) ns (λ _. omega (arith, long, here)) (λ nth k is. nothing (suc nth) k is) (each_longer m.shape a more ns here alike.1)
