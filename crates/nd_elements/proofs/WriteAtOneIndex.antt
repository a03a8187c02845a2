-- A write at the place of an index changes the element at that index alone.
use Rattle.nd_elements.proofs.NamesFromOtherCrates.{◌≡◌, ℕ, ◌<◌, Bool, true, false, List, [], ◌∷◌, length, ℤ, pos, negsuc, refl, ap, sym, ◌∙◌, arith, Option, Some, nat_eq, if◌then◌else◌, unsigned_Decides, and_parts, and_from, in_box, size_of, place_of, IsSeparated, row_rank_below, sums, same_index}
use Rattle.nd_elements.specs.StoragePlaces.{stored_at, written_at, swapped_at}
use Rattle.nd_elements.specs.ShapeAndElements.{inside}
use Rattle.nd_elements.specs.WritesByIndex.{is_index, with_element_at, with_swapped_at}
use Rattle.nd_elements.proofs.BoolAndResultCases.{by_value}

pub is_index_refl : (i : List ℕ) → is_index i i ≡ true
is_index_refl [] = refl
is_index_refl (x ∷ i) = and_from (nat_eq x x) (is_index i i) ((unsigned_Decides x x).1 refl) (is_index_refl i)

pub is_index_same : (i j : List ℕ) → is_index i j ≡ true → i ≡ j
is_index_same [] [] e = refl
is_index_same [] (y ∷ j) e = cc
is_index_same (x ∷ i) [] e = cc
is_index_same (x ∷ i) (y ∷ j) e =
    let both = and_parts (nat_eq x y) (is_index i j) e in
    (λ k. (unsigned_Decides x y).0 both.0 k ∷ is_index_same i j both.1 k)

-- two indexes of the box of one place are one index
pub one_index : (ns : List ℕ) (ss : List ℤ) (offset : ℕ) (i j : List ℕ) → length ss ≡ length ns → (0 < size_of ns → IsSeparated ns ss) → in_box ns i ≡ true → in_box ns j ≡ true → place_of offset ss i ≡ place_of offset ss j → i ≡ j
one_index ns ss offset i j as_many apart h q e = same_index ns ss i j as_many (apart (omega (arith, row_rank_below ns i h))) h q (omega (arith, sums, e))

module _ {A : Type 0} (stored new : ℕ → Option A) where
  elsewhere : (z : ℤ) (p : ℕ) (x : A) → (z ≡ pos p → ⊥) → ((q : ℕ) → new q ≡ written_at stored p x q) → stored_at new z ≡ stored_at stored z
  elsewhere (negsuc n) p x ne is = refl
  elsewhere (pos q) p x ne is = is q ∙ by_value (λ t. (if t then Some x else stored q) ≡ stored q) (nat_eq q p) (λ e. absurd (ne (ap pos ((unsigned_Decides q p).0 e)))) (λ e. refl)

  pub written_there : (p : ℕ) (x : A) → ((q : ℕ) → new q ≡ written_at stored p x q) → new p ≡ Some x
  written_there p x is = is p ∙ ap (λ t. if t then Some x else stored p) ((unsigned_Decides p p).1 refl)

  -- the array shows the new element at the index, and at every other what it showed
  pub written_element : (ns : List ℕ) (ss : List ℤ) (offset : ℕ) (index : List ℕ) (p : ℕ) (x : A) → length ss ≡ length ns → (0 < size_of ns → IsSeparated ns ss) → in_box ns index ≡ true → pos p ≡ place_of offset ss index
      → ((q : ℕ) → new q ≡ written_at stored p x q) → (i : List ℕ)
      → inside ns i (stored_at new (place_of offset ss i)) ≡ with_element_at (λ k. inside ns k (stored_at stored (place_of offset ss k))) index x i
  written_element ns ss offset index p x as_many apart within at_p is i = by_case (in_box ns i) (is_index i index) refl refl
    where
      by_case : (b t : Bool) → in_box ns i ≡ b → is_index i index ≡ t
          → inside ns i (stored_at new (place_of offset ss i)) ≡ (if t then Some x else inside ns i (stored_at stored (place_of offset ss i)))
      by_case b true h e =
          let same : i ≡ index = is_index_same i index e in
          rw (ap (in_box ns) same ∙ within) (ap (stored_at new) (ap (place_of offset ss) same ∙ sym at_p) ∙ written_there p x is)
      by_case true false h e =
          rw h (elsewhere (place_of offset ss i) p x (λ z. let yes : is_index i index ≡ true = ap (is_index i) (sym (one_index ns ss offset i index as_many apart h within (z ∙ at_p))) ∙ is_index_refl i in cc) is)
      by_case false false h e = rw h refl

  swapped_elsewhere : (z : ℤ) (p q : ℕ) → (z ≡ pos p → ⊥) → (z ≡ pos q → ⊥) → ((r : ℕ) → new r ≡ swapped_at stored p q r) → stored_at new z ≡ stored_at stored z
  swapped_elsewhere (negsuc n) p q no_p no_q is = refl
  swapped_elsewhere (pos r) p q no_p no_q is = is r ∙ by_test (nat_eq r q) (nat_eq r p) refl refl
    where
      by_test : (t u : Bool) → nat_eq r q ≡ t → nat_eq r p ≡ u → (if t then stored p else (if u then stored q else stored r)) ≡ stored r
      by_test true u e f = absurd (no_q (ap pos ((unsigned_Decides r q).0 e)))
      by_test false true e f = absurd (no_p (ap pos ((unsigned_Decides r p).0 f)))
      by_test false false e f = refl

  -- the array shows at each of the two indexes what it showed at the other
  pub swapped_element : (ns : List ℕ) (ss : List ℤ) (offset : ℕ) (a b : List ℕ) (p q : ℕ) → length ss ≡ length ns → (0 < size_of ns → IsSeparated ns ss) → in_box ns a ≡ true → in_box ns b ≡ true → pos p ≡ place_of offset ss a → pos q ≡ place_of offset ss b
      → ((r : ℕ) → new r ≡ swapped_at stored p q r) → (i : List ℕ)
      → inside ns i (stored_at new (place_of offset ss i)) ≡ with_swapped_at (λ k. inside ns k (stored_at stored (place_of offset ss k))) a b i
  swapped_element ns ss offset a b p q as_many apart in_a in_b at_p at_q is i = by_case (in_box ns i) (is_index i b) (is_index i a) refl refl refl
    where
      shown : List ℕ → Option A
      shown k = inside ns k (stored_at stored (place_of offset ss k))

      shows : (k : List ℕ) (r : ℕ) → in_box ns k ≡ true → pos r ≡ place_of offset ss k → stored r ≡ shown k
      shows k r h e = rw h (ap (stored_at stored) e)

      no_index : (k : List ℕ) → in_box ns i ≡ true → in_box ns k ≡ true → is_index i k ≡ false → place_of offset ss i ≡ place_of offset ss k → ⊥
      no_index k h in_k e z = let yes : is_index i k ≡ true = ap (is_index i) (sym (one_index ns ss offset i k as_many apart h in_k z)) ∙ is_index_refl i in cc

      by_case : (c t u : Bool) → in_box ns i ≡ c → is_index i b ≡ t → is_index i a ≡ u
          → inside ns i (stored_at new (place_of offset ss i)) ≡ (if t then shown a else (if u then shown b else shown i))
      by_case c true u h e f =
          let same : i ≡ b = is_index_same i b e in
          let there : in_box ns i ≡ true = ap (in_box ns) same ∙ in_b in
          rw there (ap (stored_at new) (ap (place_of offset ss) same ∙ sym at_q) ∙ is q ∙ ap (λ t. if t then stored p else (if nat_eq q p then stored q else stored q)) ((unsigned_Decides q q).1 refl) ∙ shows a p in_a at_p)
      by_case c false true h e f =
          let same : i ≡ a = is_index_same i a f in
          let there : in_box ns i ≡ true = ap (in_box ns) same ∙ in_a in
          let other : nat_eq p q ≡ false = by_test (nat_eq p q) refl in
          rw there (ap (stored_at new) (ap (place_of offset ss) same ∙ sym at_p) ∙ is p ∙ (λ k. if other k then stored p else (if (unsigned_Decides p p).1 refl k then stored q else stored p)) ∙ shows b q in_b at_q)
        where
          by_test : (t : Bool) → nat_eq p q ≡ t → nat_eq p q ≡ false
          by_test false z = z
          by_test true z = absurd (no_index b (ap (in_box ns) (is_index_same i a f) ∙ in_a) in_b e (ap (place_of offset ss) (is_index_same i a f) ∙ sym at_p ∙ ap pos ((unsigned_Decides p q).0 z) ∙ at_q))
      by_case true false false h e f =
          rw h (swapped_elsewhere (place_of offset ss i) p q (λ z. no_index a h in_a f (z ∙ at_p)) (λ z. no_index b h in_b e (z ∙ at_q)) is)
      by_case false false false h e f = rw h refl
