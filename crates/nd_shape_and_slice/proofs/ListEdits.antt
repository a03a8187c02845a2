-- Lists: an item put in, taken out, written, put after and read.
use Rattle.nd_shape_and_slice.proofs.NamesFromOtherCrates.{◌≡◌, ◌⊎◌, inl, inr, ℕ, zero, suc, ◌+◌, ◌<◌, ◌≤◌, true, List, [], ◌∷◌, ◌++◌, length, get_or, set, slice_set, map, take, drop, refl, ap, sym, ◌∙◌, arith, add-one, drop-cons, Some, slice_get, insert, remove, option_map, take_more, slice_get_within, slice_get-get_or, slice_get-map, get_or_from_slice_get}
use Rattle.std.specs.Prelude.{is_some}

pub first_same : {A : Type 0} (x y : A) (xs ys : List A) → x ∷ xs ≡ y ∷ ys → x ≡ y
first_same x y xs ys e = cc

pub others_same : {A : Type 0} (x y : A) (xs ys : List A) → x ∷ xs ≡ y ∷ ys → xs ≡ ys
others_same x y xs ys e = cc

-- ---- an item put in at a place, and taken out
pub remove-inserted : {A : Type 0} (xs : List A) (a : ℕ) (x : A) → a ≤ length xs → remove (insert xs a x) a ≡ xs
remove-inserted xs zero x h = refl
remove-inserted [] (suc a) x h = absurd (omega (arith, h))
remove-inserted (y ∷ xs) (suc a) x h = ap (λ l. y ∷ l) (remove-inserted xs a x (omega (arith, h)))

pub insert-removed : {A : Type 0} (xs : List A) (a : ℕ) (d : A) → a < length xs → insert (remove xs a) a (get_or xs a d) ≡ xs
insert-removed [] a d h = absurd (omega (arith, h))
insert-removed (x ∷ xs) zero d h = refl
insert-removed (x ∷ xs) (suc a) d h = ap (λ l. x ∷ l) (insert-removed xs a d (omega (arith, h)))

pub set-inserted : {A : Type 0} (xs : List A) (a : ℕ) (x y : A) → a ≤ length xs → set (insert xs a x) a y ≡ insert xs a y
set-inserted xs zero x y h = refl
set-inserted [] (suc a) x y h = absurd (omega (arith, h))
set-inserted (z ∷ xs) (suc a) x y h = ap (λ l. z ∷ l) (set-inserted xs a x y (omega (arith, h)))

-- ---- what stands at a number
pub there_is_some : {A : Type 0} (xs : List A) (k : ℕ) → k < length xs → is_some (slice_get xs k) ≡ true
there_is_some [] k below = absurd (omega (arith, below))
there_is_some (x ∷ xs) zero below = refl
there_is_some (x ∷ xs) (suc k) below = there_is_some xs k (omega (arith, below))

pub set_there : {A : Type 0} (xs : List A) (k : ℕ) (y : A) → k < length xs → slice_get (slice_set xs k y) k ≡ Some y
set_there [] k y below = absurd (omega (arith, below))
set_there (x ∷ xs) zero y below = refl
set_there (x ∷ xs) (suc k) y below = set_there xs k y (omega (arith, below))

pub set_elsewhere : {A : Type 0} (xs : List A) (k q : ℕ) (y : A) → (q ≡ k → ⊥) → slice_get (slice_set xs k y) q ≡ slice_get xs q
set_elsewhere [] k q y apart = refl
set_elsewhere (x ∷ xs) zero zero y apart = absurd (apart refl)
set_elsewhere (x ∷ xs) zero (suc q) y apart = refl
set_elsewhere (x ∷ xs) (suc k) zero y apart = refl
set_elsewhere (x ∷ xs) (suc k) (suc q) y apart = set_elsewhere xs k q y (λ e. apart (ap suc e))

-- in a list before another one, in the one after it, and the last item
pub got_before : {A : Type 0} (xs ys : List A) (k : ℕ) → k < length xs → slice_get (xs ++ ys) k ≡ slice_get xs k
got_before [] ys k below = absurd (omega (arith, below))
got_before (x ∷ xs) ys zero below = refl
got_before (x ∷ xs) ys (suc k) below = got_before xs ys k (omega (arith, below))

pub got_still : {A : Type 0} (xs ys : List A) (k : ℕ) (y : A) → slice_get xs k ≡ Some y → slice_get (xs ++ ys) k ≡ Some y
got_still xs ys k y e = got_before xs ys k (slice_get_within xs k y e) ∙ e

pub got_after : {A : Type 0} (xs ys : List A) (n k : ℕ) → length xs ≡ n → slice_get (xs ++ ys) (n + k) ≡ slice_get ys k
got_after [] ys n k long = let same : n + k ≡ k = omega (arith, long) in ap (slice_get ys) same
got_after (x ∷ xs) ys zero k long = absurd (omega (arith, long))
got_after (x ∷ xs) ys (suc n) k long =
    let next : suc n + k ≡ suc (n + k) = omega arith in
    ap (slice_get (x ∷ (xs ++ ys))) next ∙ got_after xs ys n k (omega (arith, long))

pub got_last : {A : Type 0} (xs : List A) (y : A) (k : ℕ) → length xs ≡ k → slice_get (xs ++ y ∷ []) k ≡ Some y
got_last xs y k long = let same : k ≡ k + 0 = omega arith in ap (slice_get (xs ++ y ∷ [])) same ∙ got_after xs (y ∷ []) k 0 long

-- in the first so many, and in what is left after them
pub got_taken : {A : Type 0} (xs : List A) (n k : ℕ) → k < n → slice_get (take n xs) k ≡ slice_get xs k
got_taken [] zero k below = refl
got_taken [] (suc n) k below = refl
got_taken (x ∷ xs) zero k below = absurd (omega (arith, below))
got_taken (x ∷ xs) (suc n) zero below = refl
got_taken (x ∷ xs) (suc n) (suc k) below = got_taken xs n k (omega (arith, below))

pub got_dropped : {A : Type 0} (xs : List A) (n k : ℕ) → slice_get (drop n xs) k ≡ slice_get xs (n + k)
got_dropped [] zero k = refl
got_dropped [] (suc n) k = refl
got_dropped (x ∷ xs) zero k = ap (λ j. slice_get (x ∷ xs) j) (omega arith)
got_dropped (x ∷ xs) (suc n) k = let next : suc (n + k) ≡ suc n + k = omega arith in got_dropped xs n k ∙ ap (λ j. slice_get (x ∷ xs) j) next

-- through a map
pub got_mapped : {X Y : Type 0} (f : X → Y) (xs : List X) (n : ℕ) (x : X) → n < length xs → x ≡ get_or xs n x → slice_get (map f xs) n ≡ Some (f x)
got_mapped f xs n x below is = slice_get-map f xs n ∙ (ap (option_map f) (slice_get-get_or xs n x below) ∙ ap (λ y. Some (f y)) (sym is))

-- ---- what is left after a place
pub drop-next : {A : Type 0} (xs : List A) (k : ℕ) (d : A) → k < length xs → drop k xs ≡ get_or xs k d ∷ drop (k + 1) xs
drop-next xs k d below = rw add-one (drop-cons xs k d below)

-- one item more
pub take_next : {A : Type 0} (xs : List A) (n : ℕ) (x : A) → slice_get xs n ≡ Some x → take (n + 1) xs ≡ take n xs ++ x ∷ []
take_next xs n x at = take_more xs n x (slice_get_within xs n x at) ∙ ap (λ z. take n xs ++ z ∷ []) (get_or_from_slice_get xs n x x at)
