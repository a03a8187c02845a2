-- Arrays of a list after one another: which fit, and what the first one, without elements, becomes.
use Rattle.std.proofs.Common.{◌≡◌, ℕ, zero, suc, ◌+◌, ◌-◌, ◌*◌, ◌<◌, ◌≤◌, ◌^◌, Bool, true, false, cond, ltb, ◌&&◌, List, [], ◌∷◌, ◌++◌, length, get_or, set, take, map, Option, None, Some, refl, ap, sym, subst, ◌∙◌, arith, ⊎_elim}
use Rattle.std.specs.Prelude.{nat_eq, nat_lt, slice_get}
use Rattle.std.specs.List.{list_all}
use Rattle.std.specs.Cmp.{unsigned_Decides}
use Rattle.std.proofs.Math.Nat.{mul-le-mul_left, mul-le-mul_right}
use Rattle.std.proofs.lemmas.Bool.{cases_lt, lt-ltb, le-ltb, ltb-true}
use Rattle.std.proofs.lemmas.List.{length-set, map-append, set-set, set-get_or, get_or-set_same}
use Rattle.std.proofs.lemmas.List.Folds.{list_all_more, list_all_at}
use Rattle.std.proofs.lemmas.List.Sums.{sum_by_more, sum_by_more_le}
use Rattle.std.proofs.lemmas.Option.{get_or_from_slice_get, slice_get_within, same_Some}
use Rattle.std.proofs.lemmas.Slice.Eq.{slice_eq-Decides}
use Rattle.nd_shape_and_slice.specs.ShapesAndIndexOrders.{HasCheckedSize, in_box, nonzero_product, size_of}
use Rattle.nd_shape_and_slice.proofs.NonzeroProducts.{length_within}
use Rattle.nd_shape_and_slice.specs.declared.errors.ErrorKind.{ErrorKind}
use Rattle.nd_shape_and_slice.specs.declared.errors.ErrorKind.TheVariants.{IncompatibleShape, OutOfBounds, Overflow, Unsupported}
use Rattle.nd_shape_and_slice.proofs.ListEdits.{take_next}
use Rattle.nd_array_core.specs.ConcatenationAndSplit.{concatenated_shape}
use Rattle.nd_array_core.specs.LayoutLaws.{NothingOutside}
use Rattle.nd_array_core.specs.ArrayMeaning.{Meaning, inside}
use Rattle.nd_array_core.specs.growth.AppendEach.{FitInTurn, joined_in_turn, lengths_along}
use Rattle.nd_stacking.proofs.EqualShapesConcatenated.{fits_alike, same_meaning, unbroadcast}
use Rattle.nd_stacking.specs.ConcatenateAndStack.{concatenation_refusal, concatenation_shape, followed_by, is_checked_size, is_alike_but, two_after, AreLengthsTogether, IsConcatenation}

-- the first cause of three, where tests fail
abbrev pub cause : Bool → Bool → Bool → Option ErrorKind
cause on alike fits = cond on (cond alike (cond fits None (Some Overflow)) (Some IncompatibleShape)) (Some OutOfBounds)

pub false_from_not : (a b : ℕ) → (a < b → ⊥) → ltb a b ≡ false
false_from_not a b above = by_test (ltb a b) refl
  where
    by_test : (t : Bool) → ltb a b ≡ t → t ≡ false
    by_test true e = absurd (above (ltb-true a b e))
    by_test false e = refl

-- a test that passed before the others
pub passed : (t : Bool) (kind : ErrorKind) (rest : Option ErrorKind) → cond t rest (Some kind) ≡ None → (t ≡ true) × (rest ≡ None)
passed true kind rest e = (refl, e)
passed false kind rest e = absurd cc

-- what holds of all items below one, and of that one
pub next_below : {X : Type 0} (P : X → Type 0) (xs : List X) (n : ℕ) (x : X) → slice_get xs n ≡ Some x → P x → ((k : ℕ) (y : X) → k < n → slice_get xs k ≡ Some y → P y) → (k : ℕ) (y : X) → k < n + 1 → slice_get xs k ≡ Some y → P y
next_below {X} P xs n x at here before k y below there =
    ⊎_elim
    (λ (low : k < n). before k y low there)
    (λ (high : n ≤ k).
    let same : n ≡ k = omega (arith, below, high) in
    subst P (same_Some x y (sym at ∙ (ap (slice_get xs) same ∙ there))) here)
    (cases_lt k n)

-- an item of a list through a map is made of one of the list
pub mapped_back : {X Y : Type 0} (f : X → Y) (xs : List X) (n : ℕ) (y : Y) → slice_get (map f xs) n ≡ Some y → (x : X) × (slice_get xs n ≡ Some x) × (y ≡ f x)
mapped_back f [] n y e = absurd cc
mapped_back f (x ∷ xs) zero y e = (x, refl, cc)
mapped_back f (x ∷ xs) (suc n) y e = mapped_back f xs n y e

-- one more item
pub all_more : {X : Type 0} (p : X → Bool) (xs : List X) (n : ℕ) (x : X) → slice_get xs n ≡ Some x → list_all p (take n xs) ≡ true → p x ≡ true → list_all p (take (n + 1) xs) ≡ true
all_more p xs n x at before here =
    list_all_more p xs n x (slice_get_within xs n x at)
    ∙ (ap (λ b. b && p (get_or xs n x)) before ∙ (ap p (get_or_from_slice_get xs n x x at) ∙ here))

pub all_fails : {X : Type 0} (p : X → Bool) (xs : List X) (n : ℕ) (x : X) → slice_get xs n ≡ Some x → p x ≡ false → list_all p xs ≡ false
all_fails p xs n x at here = list_all_at p xs n x (slice_get_within xs n x at) (ap p (get_or_from_slice_get xs n x x at) ∙ here)

-- what stands for the items so far, and for one more
pub pushed_more : {X Y Z : Type 0} (f : X → Y) (g : Z → Y) (vs : List X) (v : X) (zs : List Z) (n : ℕ) (z : Z) → slice_get zs n ≡ Some z → map f vs ≡ map g (take n zs) → f v ≡ g z → map f (vs ++ v ∷ []) ≡ map g (take (n + 1) zs)
pushed_more f g vs v zs n z at before is =
    map-append f vs (v ∷ [])
    ∙ (ap (λ l. l ++ f v ∷ []) before
    ∙ (ap (λ y. map g (take n zs) ++ y ∷ []) is
    ∙ (sym (map-append g (take n zs) (z ∷ [])) ∙ ap (map g) (sym (take_next zs n z at)))))

-- no vector of no elements is refused for a shape of which an axis has length 0
shrunk : (ns : List ℕ) (a : ℕ) → nonzero_product (set ns a 0) ≤ nonzero_product ns
shrunk [] a = omega arith
shrunk (zero ∷ ns) zero = omega arith
shrunk (suc n ∷ ns) zero = let p = nonzero_product ns in let more : 1 * p ≤ suc n * p = mul-le-mul_right p (omega arith) in omega (arith, more)
shrunk (zero ∷ ns) (suc a) = shrunk ns a
shrunk (suc n ∷ ns) (suc a) = mul-le-mul_left (suc n) (shrunk ns a)

emptied : (ns : List ℕ) (a : ℕ) → a < length ns → size_of (set ns a 0) ≡ 0
emptied [] a on = absurd (omega (arith, on))
emptied (n ∷ ns) zero on = omega arith
emptied (n ∷ ns) (suc a) on = let rest = emptied ns a (omega (arith, on)) in ap (λ s. n * s) rest ∙ omega arith

no_refusal : (t : Bool) (n s : ℕ) (large short long : ErrorKind) → t ≡ true → n ≡ 0 → s ≡ 0 → cond t (cond (ltb n s) (Some short) (cond (ltb s n) (Some long) None)) (Some large) ≡ None
no_refusal t n s large short long checked none empty =
    ap (λ t. cond t (cond (ltb n s) (Some short) (cond (ltb s n) (Some long) None)) (Some large)) checked
    ∙ (ap (λ n. cond (ltb n s) (Some short) (cond (ltb s n) (Some long) None)) none ∙ ap (λ s. cond (ltb 0 s) (Some short) (cond (ltb s 0) (Some long) None)) empty)

pub takes_none : (ns ls : List ℕ) (a n : ℕ) (e large short long : ErrorKind) → a < length ns → HasCheckedSize ns → ls ≡ set ns a 0 → n ≡ 0
    → cond (ltb (nonzero_product ls) (2 ^ 63)) (cond (ltb n (size_of ls)) (Some short) (cond (ltb (size_of ls) n) (Some long) None)) (Some large) ≡ Some e → ⊥
takes_none ns ls a n e large short long on checked are none refused =
    let less : nonzero_product ls ≤ nonzero_product ns = subst (λ l. nonzero_product l ≤ nonzero_product ns) (sym are) (shrunk ns a) in
    let limit : nonzero_product ns < 9223372036854775808 = checked in
    let small : nonzero_product ls < 2 ^ 63 = let s : nonzero_product ls < 9223372036854775808 = omega (arith, less, limit) in s in
    let is = no_refusal (ltb (nonzero_product ls) (2 ^ 63)) n (size_of ls) large short long (lt-ltb (nonzero_product ls) (2 ^ 63) small) none (ap size_of are ∙ emptied ns a on) in
    not_some e (sym is ∙ refused)
  where
    not_some : (e : ErrorKind) → ◌≡◌ {A = Option ErrorKind} None (Some e) → ⊥
    not_some e same = cc

-- a vector of as many elements as the shape has isn't refused either
pub takes_all : (ls : List ℕ) (n : ℕ) (e large short long : ErrorKind) → HasCheckedSize ls → n ≡ size_of ls
    → cond (ltb (nonzero_product ls) (2 ^ 63)) (cond (ltb n (size_of ls)) (Some short) (cond (ltb (size_of ls) n) (Some long) None)) (Some large) ≡ Some e → ⊥
takes_all ls n e large short long checked count refused =
    let s = size_of ls in
    let is : cond (ltb (nonzero_product ls) (2 ^ 63)) (cond (ltb n s) (Some short) (cond (ltb s n) (Some long) None)) (Some large) ≡ None =
    ap (λ t. cond t (cond (ltb n s) (Some short) (cond (ltb s n) (Some long) None)) (Some large)) (lt-ltb (nonzero_product ls) (2 ^ 63) checked)
    ∙ (ap (λ t. cond t (Some short) (cond (ltb s n) (Some long) None)) (le-ltb n s (omega (arith, count)))
    ∙ ap (λ t. cond t (Some long) None) (le-ltb s n (omega (arith, count)))) in
    not_some e (sym is ∙ refused)
  where
    not_some : (e : ErrorKind) → ◌≡◌ {A = Option ErrorKind} None (Some e) → ⊥
    not_some e same = cc

-- so many lengths have no checked size
pub too_long : (s : List ℕ) (axis n : ℕ) → axis < length s → 2 ^ 64 ≤ n → HasCheckedSize (set s axis n) → ⊥
too_long s axis n on many checked =
    let within = length_within (set s axis n) axis in
    let here = get_or-set_same s axis n 0 on in
    let limit : nonzero_product (set s axis n) < 9223372036854775808 = checked in
    let long : 18446744073709551616 ≤ n = many in
    omega (arith, within, here, limit, long)

-- a list that a test found not to be empty
pub nonempty : (n : ℕ) (b : Bool) → b ≡ nat_eq n 0 → b ≡ false → 0 < n
nonempty zero b is other = absurd cc
nonempty (suc n) b is other = omega arith

-- a shape that is alike but for the axis
pub alike_is : (axis : ℕ) (ns ms : List ℕ) → is_alike_but axis ns ms ≡ true → set ms axis (get_or ns axis 0) ≡ ns
alike_is axis ns ms same = (slice_eq-Decides unsigned_Decides (set ms axis (get_or ns axis 0)) ns (is_alike_but axis ns ms) refl).0 same

-- so it is with any length of the axis
pub alike_with : (axis n : ℕ) (ns ms : List ℕ) → is_alike_but axis ns ms ≡ true → set ms axis n ≡ set ns axis n
alike_with axis n ns ms same = sym (set-set ms axis (get_or ns axis 0) n) ∙ ap (λ s. set s axis n) (alike_is axis ns ms same)

module _ {A : Type 0} where
  -- the facts of a list that fits
  pub record Fit (axis : ℕ) (m : Meaning A) (all : List (Meaning A)) : Type 0 where
    pub on : axis < length m.shape
    pub alike : (nth : ℕ) (n : Meaning A) → slice_get all nth ≡ Some n → is_alike_but axis m.shape n.shape ≡ true
    pub checked : HasCheckedSize (set m.shape axis (lengths_along axis all))

  pub all_pass : (p : Meaning A → Bool) (ms : List (Meaning A)) (nth : ℕ) (n : Meaning A) → list_all p ms ≡ true → slice_get ms nth ≡ Some n → p n ≡ true
  all_pass p ms nth n all at = by_test (p n) refl
    where
      by_test : (t : Bool) → p n ≡ t → t ≡ true
      by_test true e = refl
      by_test false e =
          let fails = list_all_at p ms nth n (slice_get_within ms nth n at) (ap p (get_or_from_slice_get ms nth n n at) ∙ e) in
          absurd cc

  pub fit : (axis : ℕ) (m : Meaning A) (ms : List (Meaning A)) → concatenation_refusal axis (m ∷ ms) ≡ None → Fit axis m (m ∷ ms)
  fit axis m ms e =
      let on = passed (nat_lt axis (length m.shape)) OutOfBounds _ e in
      let alike = passed (list_all (λ n. is_alike_but axis m.shape n.shape) (m ∷ ms)) IncompatibleShape _ on.1 in
      let size = passed (is_checked_size (concatenation_shape axis (m ∷ ms))) Overflow None alike.1 in record {
        on = ltb-true axis (length m.shape) on.0;
        alike = λ nth n at. all_pass (λ n. is_alike_but axis m.shape n.shape) (m ∷ ms) nth n alike.0 at;
        checked = ltb-true (nonzero_product (set m.shape axis (lengths_along axis (m ∷ ms)))) (2 ^ 63) size.0;
      }

  -- ---- lengths, one array at a time
  pub lengths_more : (axis : ℕ) (ms : List (Meaning A)) (nth : ℕ) (n : Meaning A) → slice_get ms nth ≡ Some n → lengths_along axis (take (nth + 1) ms) ≡ lengths_along axis (take nth ms) + get_or n.shape axis 0
  lengths_more axis ms nth n at =
      sum_by_more (λ m. get_or m.shape axis 0) ms nth n (slice_get_within ms nth n at)
      ∙ ap (λ m. lengths_along axis (take nth ms) + get_or m.shape axis 0) (get_or_from_slice_get ms nth n n at)

  pub lengths_within : (axis : ℕ) (ms : List (Meaning A)) (nth : ℕ) (n : Meaning A) → slice_get ms nth ≡ Some n → lengths_along axis (take nth ms) + get_or n.shape axis 0 ≤ lengths_along axis ms
  lengths_within axis ms nth n at =
      subst (λ m. lengths_along axis (take nth ms) + get_or m.shape axis 0 ≤ lengths_along axis ms) (get_or_from_slice_get ms nth n n at)
      (sum_by_more_le (λ m. get_or m.shape axis 0) ms nth n (slice_get_within ms nth n at))

  -- ---- the first array, and what is against the concatenation
  first_shape : (k : Meaning A) (ks : List (Meaning A)) (m : Meaning A) (s : List ℕ) → slice_get (k ∷ ks) 0 ≡ Some m → s ≡ m.shape → s ≡ k.shape
  first_shape k ks m s at is = let e : k ≡ m = cc in is ∙ ap (λ z. z.shape) (sym e)

  pub no_axis : (axis : ℕ) (ms : List (Meaning A)) (m : Meaning A) (s : List ℕ) → slice_get ms 0 ≡ Some m → s ≡ m.shape → length s ≤ axis → concatenation_refusal axis ms ≡ Some OutOfBounds
  no_axis axis [] m s at is above = absurd cc
  no_axis axis (k ∷ ks) m s at is above =
      let same = first_shape k ks m s at is in
      ap (λ t. cause t (list_all (λ n. is_alike_but axis k.shape n.shape) (k ∷ ks)) (is_checked_size (concatenation_shape axis (k ∷ ks)))) (le-ltb axis (length k.shape) (subst (λ l. length l ≤ axis) same above))

  pub unlike : (axis : ℕ) (ms : List (Meaning A)) (m : Meaning A) (s : List ℕ) → slice_get ms 0 ≡ Some m → s ≡ m.shape → axis < length s → list_all (λ n. is_alike_but axis s n.shape) ms ≡ false → concatenation_refusal axis ms ≡ Some IncompatibleShape
  unlike axis [] m s at is on other = absurd cc
  unlike axis (k ∷ ks) m s at is on other =
      let same = first_shape k ks m s at is in
      ap (λ t. cause t (list_all (λ n. is_alike_but axis k.shape n.shape) (k ∷ ks)) (is_checked_size (concatenation_shape axis (k ∷ ks)))) (lt-ltb axis (length k.shape) (subst (λ l. axis < length l) same on))
      ∙ ap (λ t. cause true t (is_checked_size (concatenation_shape axis (k ∷ ks)))) (subst (λ l. list_all (λ n. is_alike_but axis l n.shape) (k ∷ ks) ≡ false) same other)

  passing : (axis : ℕ) (ms : List (Meaning A)) (m : Meaning A) (s : List ℕ) (t : Bool) → slice_get ms 0 ≡ Some m → s ≡ m.shape → axis < length s → list_all (λ n. is_alike_but axis s n.shape) ms ≡ true
      → is_checked_size (set s axis (lengths_along axis ms)) ≡ t → concatenation_refusal axis ms ≡ cond t None (Some Overflow)
  passing axis [] m s t at is on all size = absurd cc
  passing axis (k ∷ ks) m s t at is on all size =
      let same = first_shape k ks m s at is in
      ap (λ t. cause t (list_all (λ n. is_alike_but axis k.shape n.shape) (k ∷ ks)) (is_checked_size (concatenation_shape axis (k ∷ ks)))) (lt-ltb axis (length k.shape) (subst (λ l. axis < length l) same on))
      ∙ (ap (λ t. cause true t (is_checked_size (concatenation_shape axis (k ∷ ks)))) (subst (λ l. list_all (λ n. is_alike_but axis l n.shape) (k ∷ ks) ≡ true) same all)
      ∙ ap (cause true true) (ap (λ l. is_checked_size (set l axis (lengths_along axis (k ∷ ks)))) (sym same) ∙ size))

  pub joined_lengths : (axis : ℕ) (ms : List (Meaning A)) (m : Meaning A) (s ls : List ℕ) → slice_get ms 0 ≡ Some m → s ≡ m.shape → axis < length s → list_all (λ n. is_alike_but axis s n.shape) ms ≡ true
      → ls ≡ set s axis (lengths_along axis ms) → HasCheckedSize ls → AreLengthsTogether axis ms ls
  joined_lengths axis [] m s ls at is on all are checked = absurd cc
  joined_lengths axis (k ∷ ks) m s ls at is on all are checked = (
    passing axis (k ∷ ks) m s true at is on all (ap is_checked_size (sym are) ∙ lt-ltb (nonzero_product ls) (2 ^ 63) checked),
    are ∙ ap (λ l. set l axis (lengths_along axis (k ∷ ks))) (first_shape k ks m s at is),
  )

  pub too_large : (axis : ℕ) (ms : List (Meaning A)) (m : Meaning A) (s : List ℕ) → slice_get ms 0 ≡ Some m → s ≡ m.shape → axis < length s → list_all (λ n. is_alike_but axis s n.shape) ms ≡ true
      → (HasCheckedSize (set s axis (lengths_along axis ms)) → ⊥) → concatenation_refusal axis ms ≡ Some Overflow
  too_large axis ms m s at is on all large = passing axis ms m s false at is on all (false_from_not (nonzero_product (set s axis (lengths_along axis ms))) (2 ^ 63) large)

  -- ---- after an array of the same lengths, but that the axis has length 0
  module _ (axis : ℕ) (m none : Meaning A) (on : axis < length m.shape) (empty : none.shape ≡ set m.shape axis 0) where
    -- the first array is itself
    first_after : NothingOutside m → two_after axis none m ≡ m
    first_after nothing =
        let len = get_or m.shape axis 0 in
        let zero_there : get_or none.shape axis 0 ≡ 0 = ap (λ s. get_or s axis 0) empty ∙ get_or-set_same m.shape axis 0 0 on in
        let shape : concatenated_shape none.shape m.shape axis ≡ m.shape =
        ap (λ s. set s axis (get_or none.shape axis 0 + len)) empty
        ∙ (set-set m.shape axis 0 (get_or none.shape axis 0 + len)
        ∙ (ap (λ n. set m.shape axis (n + len)) zero_there ∙ (ap (set m.shape axis) (omega arith) ∙ set-get_or m.shape axis 0))) in
        same_meaning (two_after axis none m) m shape
        (λ i.
        ap (λ s. inside s i (cond (ltb (get_or i axis 0) (get_or none.shape axis 0)) (none.at i) (m.at (set i axis (get_or i axis 0 - get_or none.shape axis 0))))) shape
        ∙ (ap (λ n. inside m.shape i (cond (ltb (get_or i axis 0) n) (none.at i) (m.at (set i axis (get_or i axis 0 - n))))) zero_there
        ∙ (ap (λ b. inside m.shape i (cond b (none.at i) (m.at (set i axis (get_or i axis 0 - 0))))) (le-ltb (get_or i axis 0) 0 (omega arith))
        ∙ (ap (λ c. inside m.shape i (m.at (set i axis c))) (omega arith)
        ∙ (ap (λ j. inside m.shape i (m.at j)) (set-get_or i axis 0) ∙ by_box i (in_box m.shape i) refl)))))
      where
        by_box : (i : List ℕ) (b : Bool) → in_box m.shape i ≡ b → inside m.shape i (m.at i) ≡ m.at i
        by_box i true h = rw h refl
        by_box i false h = rw h (sym (nothing i h))

    fits_in_turn : (all : List (Meaning A)) → Fit axis m all → FitInTurn axis none.shape all
    fits_in_turn all f =
        let zero_there : get_or none.shape axis 0 ≡ 0 = ap (λ s. get_or s axis 0) empty ∙ get_or-set_same m.shape axis 0 0 on in
        let total = lengths_along axis all in (
          λ nth n at. fits_alike axis none.shape n.shape
              (let long = ap length empty ∙ length-set m.shape axis 0 in omega (arith, long, on))
              (ap (set n.shape axis) zero_there ∙ (alike_with axis 0 m.shape n.shape (f.alike nth n at) ∙ sym empty)),
          subst HasCheckedSize
              (sym (ap (λ s. set s axis (get_or none.shape axis 0 + total)) empty
              ∙ (set-set m.shape axis 0 (get_or none.shape axis 0 + total) ∙ ap (λ n. set m.shape axis n) (ap (λ z. z + total) zero_there ∙ omega arith))))
              f.checked,
        )

  -- of arrays that are alike, what `append_each` makes is that
  pub in_turn_is : (axis : ℕ) (m : Meaning A) (ms : List (Meaning A)) → axis < length m.shape → ((nth : ℕ) (n : Meaning A) → slice_get ms nth ≡ Some n → set n.shape axis (get_or m.shape axis 0) ≡ m.shape) → joined_in_turn axis m ms ≡ followed_by axis m ms
  in_turn_is axis m [] on alike = refl
  in_turn_is axis m (n ∷ ns) on alike =
      let more = get_or m.shape axis 0 + get_or n.shape axis 0 in
      let long = length-set m.shape axis more in
      let here = get_or-set_same m.shape axis more 0 on in
      ap (λ k. joined_in_turn axis k ns) (unbroadcast axis m n on (alike 0 n refl))
      ∙ in_turn_is axis (two_after axis m n) ns (omega (arith, long, on))
      (λ nth k at. ap (set k.shape axis) here ∙ (sym (set-set k.shape axis (get_or m.shape axis 0) more) ∙ ap (λ s. set s axis more) (alike (suc nth) k at)))

  -- ---- a list of which the concatenation has these lengths
  pub there_is_one : {X : Type 0} (axis : ℕ) (f : X → Meaning A) (xs : List X) → concatenation_refusal axis (map f xs) ≡ None → 0 < length xs
  there_is_one axis f [] e = absurd cc
  there_is_one axis f (x ∷ xs) e = omega arith

  pub has_axis_and_size : (axis : ℕ) (ms : List (Meaning A)) (ls : List ℕ) → AreLengthsTogether axis ms ls → (axis < length ls) × HasCheckedSize ls
  has_axis_and_size axis [] ls are = absurd (not_none are.0)
    where
      not_none : Some Unsupported ≡ None → ⊥
      not_none e = cc
  has_axis_and_size axis (m ∷ ms) ls are =
      let f = fit axis m ms are.0 in
      let long = ap length are.1 ∙ length-set m.shape axis (lengths_along axis (m ∷ ms)) in
      (omega (arith, long, f.on), subst HasCheckedSize (sym are.1) f.checked)

  pub in_room : (axis : ℕ) (ms : List (Meaning A)) (none : Meaning A) → concatenation_refusal axis ms ≡ None → none.shape ≡ set (concatenation_shape axis ms) axis 0 → FitInTurn axis none.shape ms
  in_room axis [] none e empty = absurd cc
  in_room axis (m ∷ ms) none e empty =
      let f = fit axis m ms e in
      fits_in_turn axis m none f.on (empty ∙ set-set m.shape axis (lengths_along axis (m ∷ ms)) 0) (m ∷ ms) f

  pub in_room_is : (axis : ℕ) (ms : List (Meaning A)) (none joined : Meaning A) → concatenation_refusal axis ms ≡ None → ((m : Meaning A) → slice_get ms 0 ≡ Some m → NothingOutside m) → none.shape ≡ set (concatenation_shape axis ms) axis 0 → joined ≡ joined_in_turn axis none ms → IsConcatenation axis ms joined
  in_room_is axis [] none joined e nothing empty is = absurd cc
  in_room_is axis (m ∷ ms) none joined e nothing empty is =
      let f = fit axis m ms e in
      let shape : none.shape ≡ set m.shape axis 0 = empty ∙ set-set m.shape axis (lengths_along axis (m ∷ ms)) 0 in
      let long = ap length shape ∙ length-set m.shape axis 0 in
      let on = f.on in
      let zero_there : get_or none.shape axis 0 ≡ 0 = ap (λ s. get_or s axis 0) shape ∙ get_or-set_same m.shape axis 0 0 f.on in
      is ∙ (in_turn_is axis none (m ∷ ms) (omega (arith, long, on)) (λ nth n at. ap (set n.shape axis) zero_there ∙ (alike_with axis 0 m.shape n.shape (f.alike nth n at) ∙ sym shape))
      ∙ ap (λ k. followed_by axis k ms) (first_after axis m none f.on (empty ∙ set-set m.shape axis (lengths_along axis (m ∷ ms)) 0) (nothing m refl)))
