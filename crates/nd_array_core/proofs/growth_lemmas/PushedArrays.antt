-- An array of one axis fewer after another.
use Rattle.nd_array_core.proofs.NamesFromOtherCrates.{◌≡◌, ℕ, ◌+◌, ◌-◌, ◌<◌, ◌≤◌, Bool, true, false, ◌&&◌, eqb, leb, ltb, [], ◌∷◌, List, length, get_or, set, take, drop, ap, refl, sym, ◌∙◌, arith, length-append, length-drop, insert, Option, None, and_parts, eqb-true, lt-ltb, le-ltb, length-take, length-set, get_or-insert_at, inserted_shape, IncompatibleShape, MayLackForClone, Meaning, in_box}
use Rattle.nd_array_core.specs.declared.base.array_error.ArrayError.{ArrayError}
use Rattle.nd_array_core.specs.declared.base.array_error.ArrayError.TheVariants.{Shape, NoMemory}
use Rattle.nd_array_core.specs.growth.StorageOfAppend.{IsNotForMemory}
use Rattle.nd_array_core.specs.growth.Append.{IsAlikeOnOtherAxes, IsJoiningRefused, NotFitting, PushesAlike}
use Rattle.nd_array_core.specs.ConcatenationAndSplit.{concatenated_alike}
use Rattle.nd_array_core.specs.LayoutLaws.{NothingOutside, with_axis_inserted}
use Rattle.nd_array_core.proofs.growth_lemmas.BroadcastAppends.{stretches_long}

length-inserted : (ms : List ℕ) (a : ℕ) → length (insert ms a 1) ≡ length ms + 1
length-inserted ms a =
    let whole = length-append (take a ms) (1 ∷ drop a ms) in
    let front = length-take a ms in
    let back = length-drop a ms in
    omega (arith, whole, front, back)

abbrev pushed_alike : {A : Type 0} → ℕ → Meaning A → Meaning A → Meaning A
pushed_alike axis m n = concatenated_alike axis m (with_axis_inserted axis n)

-- an array of one axis fewer
pub axis_within : (few all axis : ℕ) → few + 1 ≡ all → (0 < all → axis < all) → axis ≤ few
axis_within few all axis one on = let below = on (omega (arith, one)) in omega (arith, below, one)

pub one_fewer : (few all : ℕ) → few + 1 ≡ all → all ≤ 32 → few < 32
one_fewer few all one within = omega (arith, one, within)

-- an array of another number of axes doesn't fit
pub other_axes : (ns ms : List ℕ) (a : ℕ) → (length ms + 1 ≡ length ns → ⊥) → IsJoiningRefused ns (inserted_shape ms a) a IncompatibleShape
other_axes ns ms a other =
    NotFitting
    (λ fits. other (let long = stretches_long (insert ms a 1) (set ns a (get_or (insert ms a 1) a 0)) fits.1 in let kept = length-set ns a (get_or (insert ms a 1) a 0) in let more = length-inserted ms a in omega (arith, long, kept, more)))

module _ (ns ms view : List ℕ) (a : ℕ) (on : 0 < length ns → a < length ns) (axes : length ms + 1 ≡ length ns) (is : view ≡ inserted_shape ms a) where
  within : a ≤ length ms
  within = let below = on (omega (arith, axes)) in omega (arith, below, axes)

  pub one_pushed : get_or view a 0 ≡ 1
  one_pushed = ap (λ s. get_or s a 0) is ∙ get_or-insert_at ms a 1 0 within

-- the number of axes, as `ndim` has it
pub two_axes : (n axes : ℕ) → axes ≡ n → (eqb axes 2 && leb axes 32) ≡ true → n ≡ 2
two_axes n axes is number = sym is ∙ eqb-true axes 2 (and_parts (eqb axes 2) (leb axes 32) number).0

two_lengths : (ns : List ℕ) → length ns ≡ 2 → ns ≡ get_or ns 0 0 ∷ get_or ns 1 0 ∷ []
two_lengths [] e = absurd cc
two_lengths (n ∷ []) e = absurd cc
two_lengths (n ∷ k ∷ []) e = refl
two_lengths (n ∷ k ∷ j ∷ ns) e = absurd cc

-- ---- a line after the rows of a table, and after its columns
module _ {A : Type 0} (r k : ℕ) (f g : List ℕ → Option A) where
  row_at : ((j : ℕ) → ltb j k ≡ false → g (j ∷ []) ≡ None) → (j : ℕ) → (pushed_alike 0 (record { shape = r ∷ k ∷ []; at = f }) (record { shape = k ∷ []; at = g })).at (r ∷ j ∷ []) ≡ g (j ∷ [])
  row_at nothing j = by_test (ltb j k) refl
    where
      by_test : (b : Bool) → ltb j k ≡ b → (pushed_alike 0 (record { shape = r ∷ k ∷ []; at = f }) (record { shape = k ∷ []; at = g })).at (r ∷ j ∷ []) ≡ g (j ∷ [])
      by_test true h = rw (lt-ltb r (r + 1) (omega arith), le-ltb r r (omega arith), lt-ltb (r - r) 1 (omega arith), h) refl
      by_test false h = rw (lt-ltb r (r + 1) (omega arith), h) (sym (nothing j h))

  column_at : ((i : ℕ) → ltb i r ≡ false → g (i ∷ []) ≡ None) → (i : ℕ) → (pushed_alike 1 (record { shape = r ∷ k ∷ []; at = f }) (record { shape = r ∷ []; at = g })).at (i ∷ k ∷ []) ≡ g (i ∷ [])
  column_at nothing i = by_test (ltb i r) refl
    where
      by_test : (b : Bool) → ltb i r ≡ b → (pushed_alike 1 (record { shape = r ∷ k ∷ []; at = f }) (record { shape = r ∷ []; at = g })).at (i ∷ k ∷ []) ≡ g (i ∷ [])
      by_test true h = rw (h, lt-ltb k (k + 1) (omega arith), le-ltb k k (omega arith), lt-ltb (k - k) 1 (omega arith)) refl
      by_test false h = rw h (sym (nothing i h))

-- a table's meaning, by its lengths
module _ {A : Type 0} (m n joined : Meaning A) (two : length m.shape ≡ 2) (nothing : NothingOutside n) where
  outside : (k : ℕ) → n.shape ≡ k ∷ [] → (j : ℕ) → ltb j k ≡ false → n.at (j ∷ []) ≡ None
  outside k long j h = nothing (j ∷ []) (ap (λ s. in_box s (j ∷ [])) long ∙ ap (λ b. b && true) h)

  pub row_after : PushesAlike 0 m n joined → n.shape ≡ get_or m.shape 1 0 ∷ [] → (j : ℕ) → joined.at (get_or m.shape 0 0 ∷ j ∷ []) ≡ n.at (j ∷ [])
  row_after is long j =
      let r = get_or m.shape 0 0 in
      let k = get_or m.shape 1 0 in
      let shape = two_lengths m.shape two in
      let alike : IsAlikeOnOtherAxes m.shape (inserted_shape n.shape 0) 0 = (omega (arith, two), ap (λ s. set (inserted_shape s 0) 0 r) long ∙ sym shape) in
      ap (λ (x : Meaning A). x.at (r ∷ j ∷ [])) (is alike)
      ∙ ((λ i. (pushed_alike 0 (record { shape = shape i; at = m.at }) (record { shape = long i; at = n.at })).at (r ∷ j ∷ []))
      ∙ row_at r k m.at n.at (outside k long) j)

  pub column_after : PushesAlike 1 m n joined → n.shape ≡ get_or m.shape 0 0 ∷ [] → (i : ℕ) → joined.at (i ∷ get_or m.shape 1 0 ∷ []) ≡ n.at (i ∷ [])
  column_after is long i =
      let r = get_or m.shape 0 0 in
      let k = get_or m.shape 1 0 in
      let shape = two_lengths m.shape two in
      let alike : IsAlikeOnOtherAxes m.shape (inserted_shape n.shape 1) 1 = (omega (arith, two), ap (λ s. set (inserted_shape s 1) 1 k) long ∙ sym shape) in
      ap (λ (x : Meaning A). x.at (i ∷ k ∷ [])) (is alike)
      ∙ ((λ h. (pushed_alike 1 (record { shape = shape h; at = m.at }) (record { shape = long h; at = n.at })).at (i ∷ k ∷ []))
      ∙ column_at r k m.at n.at (outside r long) i)

pub for_part : {A : Type 0} (is_infallible : A → Type 0) (part whole : List ℕ → Option A) → (MayLackForClone is_infallible part → MayLackForClone is_infallible whole) → (e : ArrayError) → IsNotForMemory is_infallible part e → IsNotForMemory is_infallible whole e
for_part is_infallible part whole f (Shape kind) p = p
for_part is_infallible part whole f NoMemory p = f p
