-- A fold over the indexes of a box comes out the same in every order, where the order of two of them doesn't matter.
use Rattle.nd_elements.proofs.NamesFromOtherCrates.{◌≡◌, ℕ, zero, suc, ◌+◌, ◌<◌, Bool, true, false, List, [], ◌∷◌, ◌++◌, length, get_or, refl, ap, sym, ◌∙◌, arith, cond, Option, None, Some, nat_lt, nat_tests, fold, filter_map, cons_option, ext_get_or, get_or_push, get_or-append, size_of, index_at, indexes_of, RowMajor, length-indexes_of, get_or-indexes_of}
use Rattle.nd_elements.specs.WritesByIndex.{is_index}
use Rattle.nd_elements.specs.CallsInFreeOrder.{ListsBox}
use Rattle.nd_elements.specs.elements.ElementFolds.{IsOrderFree}
use Rattle.nd_elements.proofs.WriteAtOneIndex.{is_index_same, is_index_refl}
use Rattle.nd_elements.proofs.CallsInFreeOrder.{times, times_head, once_if, listed, listed_all}
use Rattle.nd_elements.proofs.IndexesNumberedInOrder.{order_numbers}

-- a list of indexes without the first that is i
abbrev taken : List ℕ → List (List ℕ) → List (List ℕ)
taken i [] = []
taken i (j ∷ js) = cond (is_index i j) js (j ∷ taken i js)

times_taken : (i k : List ℕ) (js : List (List ℕ)) → 0 < times i js → times k (taken i js) + once_if (is_index k i) ≡ times k js
times_taken i k [] some = absurd (omega (arith, some))
times_taken i k (j ∷ js) some = by_test (is_index i j) refl (times_taken i k js)
  where
    by_test : (t : Bool) → is_index i j ≡ t → (0 < times i js → times k (taken i js) + once_if (is_index k i) ≡ times k js) → times k (cond t js (j ∷ taken i js)) + once_if (is_index k i) ≡ times k (j ∷ js)
    by_test true e later = let same : i ≡ j = is_index_same i j e in rw same (omega (arith, times_head k j js))
    by_test false e later =
        let more : 0 < times i js = omega (arith, times_head i j js, ap once_if e, some) in
        omega (arith, times_head k j js, times_head k j (taken i js), later more)

module _ {B : Type 0} (step : B → List ℕ → B) (free : (b : B) (i j : List ℕ) → step (step b i) j ≡ step (step b j) i) where
  fold_taken : (i : List ℕ) (js : List (List ℕ)) → 0 < times i js → (b : B) → fold step b js ≡ fold step (step b i) (taken i js)
  fold_taken i [] some b = absurd (omega (arith, some))
  fold_taken i (j ∷ js) some b = by_test (is_index i j) refl (λ more. fold_taken i js more (step b j))
    where
      by_test : (t : Bool) → is_index i j ≡ t → (0 < times i js → fold step (step b j) js ≡ fold step (step (step b j) i) (taken i js)) → fold step (step b j) js ≡ fold step (step b i) (cond t js (j ∷ taken i js))
      by_test true e later = let same : i ≡ j = is_index_same i j e in rw same refl
      by_test false e later =
          let more : 0 < times i js = omega (arith, times_head i j js, ap once_if e, some) in
          later more ∙ ap (λ c. fold step c (taken i js)) (free b j i)

  -- two lists with each index as often
  pub fold_same : (xs ys : List (List ℕ)) → ((i : List ℕ) → times i xs ≡ times i ys) → (b : B) → fold step b xs ≡ fold step b ys
  fold_same [] [] same b = refl
  fold_same [] (y ∷ ys) same b =
      absurd (omega (arith, same y, times_head y y ys, ap once_if (is_index_refl y)))
  fold_same (x ∷ xs) ys same b =
      let some : 0 < times x ys = omega (arith, same x, times_head x x xs, ap once_if (is_index_refl x)) in
      fold_same xs (taken x ys) (λ i. omega (arith, same i, times_head i x xs, times_taken x i ys some)) (step b x) ∙ sym (fold_taken x ys some b)

pub length-listed : (index : ℕ → List ℕ) (n : ℕ) → length (listed index n) ≡ n
length-listed index zero = refl
length-listed index (suc n) = longer (listed index n) ∙ ap suc (length-listed index n)
  where
    longer : (xs : List (List ℕ)) → length (xs ++ index n ∷ []) ≡ suc (length xs)
    longer [] = refl
    longer (x ∷ xs) = ap suc (longer xs)

get_or-listed : (index : ℕ → List ℕ) (n k : ℕ) → k < n → get_or (listed index n) k [] ≡ index k
get_or-listed index zero k below = absurd (omega (arith, below))
get_or-listed index (suc n) k below = by_test (nat_lt k n) refl (get_or-listed index n k)
  where
    by_test : (t : Bool) → nat_lt k n ≡ t → (k < n → get_or (listed index n) k [] ≡ index k) → get_or (listed index n ++ index n ∷ []) k [] ≡ index k
    by_test true e later = let under : k < n = grind (arith, nat_tests, e) in get_or-append (listed index n) (index n ∷ []) [] k (omega (arith, under, length-listed index n)) ∙ later under
    by_test false e later = let same : n ≡ k = grind (arith, nat_tests, e, below) in get_or_push (listed index n) (index n) [] k (length-listed index n ∙ same) ∙ ap index same

-- the indexes of a shape in row-major order are those of the ranks, one after the other
pub indexes_listed : (ns : List ℕ) → indexes_of ns ≡ listed (index_at ns) (size_of ns)
indexes_listed ns =
    ext_get_or [] (indexes_of ns) (listed (index_at ns) (size_of ns)) (length-indexes_of ns ∙ sym (length-listed (index_at ns) (size_of ns)))
    (λ k below. let under : k < size_of ns = omega (arith, below, length-indexes_of ns) in get_or-indexes_of ns k under ∙ sym (get_or-listed (index_at ns) (size_of ns) k under))

indexes_box : (ns : List ℕ) → ListsBox ns (indexes_of ns)
indexes_box ns i = ap (times i) (indexes_listed ns) ∙ listed_all (order_numbers RowMajor ns) i

module _ {A B : Type 0} (h : B → A → B) (free : IsOrderFree h) where
  -- the total with an element more, where there is one
  abbrev pub folded : B → Option A → B
  folded b None = b
  folded b (Some x) = h b x

  folded_free : (b : B) (u v : Option A) → folded (folded b u) v ≡ folded (folded b v) u
  folded_free b None None = refl
  folded_free b None (Some y) = refl
  folded_free b (Some x) None = refl
  folded_free b (Some x) (Some y) = free b x y

  fold_gathered : (at : List ℕ → Option A) (is : List (List ℕ)) (b : B) → fold h b (filter_map at is) ≡ fold (λ c i. folded c (at i)) b is
  fold_gathered at [] b = refl
  fold_gathered at (i ∷ is) b = by_element (at i) (fold_gathered at is)
    where
      by_element : (o : Option A) → ((c : B) → fold h c (filter_map at is) ≡ fold (λ d j. folded d (at j)) c is) → fold h b (cons_option o (filter_map at is)) ≡ fold (λ d j. folded d (at j)) (folded b o) is
      by_element None later = later b
      by_element (Some x) later = later (h b x)

  -- along any listing of the box the total is that of the elements in row-major order
  pub fold_any_order : (shape : List ℕ) (at : List ℕ → Option A) (listing : List (List ℕ)) → ListsBox shape listing → (b : B) → fold (λ c i. folded c (at i)) b listing ≡ fold h b (filter_map at (indexes_of shape))
  fold_any_order shape at listing box b =
      fold_same (λ c i. folded c (at i)) (λ c i j. folded_free c (at i) (at j)) listing (indexes_of shape) (λ i. box i ∙ sym (indexes_box shape i)) b ∙ sym (fold_gathered at (indexes_of shape) b)
