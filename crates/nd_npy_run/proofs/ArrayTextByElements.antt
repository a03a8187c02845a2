-- The text of an array is known where that of each element is.
use Rattle.std.proofs.Common.{◌≡◌, ◌∙◌, ℕ, zero, suc, ◌+◌, ◌-◌, ◌/◌, ◌<◌, ◌≤◌, ◌==◌, ◌++◌, Bool, true, false, List, [], ◌∷◌, length, Option, Some, None, refl, sym, ap, subst, arith, if◌then◌else◌}
use Rattle.std.specs.Fmt.{◌++?◌}
use Rattle.std.specs.Option.{option_map}
use Rattle.std.specs.Prelude.{is_some, nat_lt, nat_le, slice_get, codes}
use Rattle.std.proofs.lemmas.Bool.{and_from, lt-ltb, leb-false}
use Rattle.nd_shape_and_slice.specs.ShapesAndIndexOrders.{in_box, size_of, row_rank}
use Rattle.nd_elements.specs.ShapeAndElements.{Meaning, inside}
use Rattle.nd_array_core.specs.printing.ArrayTexts.{separator_text, limit_of, shows_all, run_text, ends_text, entries_text, element_text, axes_text, array_text}

-- both are known, and the same
abbrev pub BothKnown : Option (List ℕ) → Option (List ℕ) → Type 0
BothKnown o p = (t : List ℕ) × (o ≡ Some t) × (p ≡ Some t)

both_text : (t : List ℕ) → BothKnown (Some t) (Some t)
both_text t = (t, refl, refl)

both_then : {o p q r : Option (List ℕ)} → BothKnown o p → BothKnown q r → BothKnown (o ++? q) (p ++? r)
both_then a b = (a.0 ++ b.0, rw (a.1, b.1) refl, rw (a.2, b.2) refl)

-- ---- Entries one after another

module _ (between : List ℕ) (e f : ℕ → Option (List ℕ)) where
  run_known : (from n : ℕ) → ((k : ℕ) → k < from + n → BothKnown (e k) (f k)) → BothKnown (run_text between e from n) (run_text between f from n)
  run_known from zero h = both_text []
  run_known from (suc n) h = both_then (run_known from n (λ k lt. h k (omega (arith, lt)))) (both_then (both_text (if (from + n) == 0 then [] else between)) (h (from + n) (omega arith)))

  ends_known : (edge count : ℕ) → edge ≤ count → ((k : ℕ) → k < count → BothKnown (e k) (f k)) → BothKnown (ends_text between e edge count) (ends_text between f edge count)
  ends_known edge count few h = both_then (run_known 0 edge (λ k lt. h k (omega (arith, lt, few)))) (both_then (both_text (between ++ codes "...")) (run_known (count - edge) edge (λ k lt. h k (omega (arith, lt, few)))))

  edge_few : (t : Bool) (count : ℕ) → nat_le count (if t then 11 else 6) ≡ false → (if t then 11 else 6) / 2 ≤ count
  edge_few true count many = omega (arith, leb-false count 11 many)
  edge_few false count many = omega (arith, leb-false count 6 many)

  few_shown : (whole : Bool) (inner count : ℕ) → shows_all whole inner count ≡ false → limit_of inner / 2 ≤ count
  few_shown true inner count hidden = absurd cc
  few_shown false inner count hidden = edge_few (nat_lt inner 2) count hidden

  entries_known : (whole : Bool) (inner count : ℕ) → ((k : ℕ) → k < count → BothKnown (e k) (f k)) → BothKnown (entries_text between e whole inner count) (entries_text between f whole inner count)
  entries_known whole inner count h = by_test (shows_all whole inner count) refl
    where
      by_test : (t : Bool) → shows_all whole inner count ≡ t → BothKnown (entries_text between e whole inner count) (entries_text between f whole inner count)
      by_test true is = rw is (run_known 0 count (λ k lt. h k (omega (arith, lt))))
      by_test false is = rw is (ends_known (limit_of inner / 2) count (few_shown whole inner count is) h)

-- ---- Elements that are values of items

module _ {A : Type 0} (f : A → Option (List ℕ)) (value : List ℕ → A) (known : (x : A) → is_some (f x) ≡ true) where
  abbrev of_item : List ℕ → Option (List ℕ)
  of_item item = f (value item)

  some_text : (r : Option (List ℕ)) → is_some r ≡ true → BothKnown r r
  some_text None is = absurd cc
  some_text (Some t) is = both_text t

  element_known : (item : Option (List ℕ)) (x : Option A) → is_some item ≡ true → x ≡ option_map value item → BothKnown (element_text f x) (element_text of_item item)
  element_known None x some is = absurd cc
  element_known (Some item) x some is = let r = some_text (f (value item)) (known (value item)) in (r.0, ap (element_text f) is ∙ r.1, r.2)

  part_same : (t : Bool) (x : Option A) (item : Option (List ℕ)) → x ≡ option_map value item → (if t then x else None) ≡ option_map value (if t then item else None)
  part_same true x item is = is
  part_same false x item is = refl

  axes_known : (whole : Bool) (depth : ℕ) (ns : List ℕ) (xs : List ℕ → Option A) (items : List ℕ → Option (List ℕ)) → ((i : List ℕ) → xs i ≡ option_map value (items i)) → ((i : List ℕ) → in_box ns i ≡ true → is_some (items i) ≡ true)
      → BothKnown (axes_text f whole depth (length ns) (record { shape = ns; at = xs })) (axes_text of_item whole depth (length ns) (record { shape = ns; at = items }))
  axes_known whole depth [] xs items same full = element_known (items []) (xs []) (full [] refl) (same [])
  axes_known whole depth (n ∷ ns) xs items same full =
      both_then (both_text (codes "["))
      (both_then
      (entries_known (separator_text (depth + 1) (length ns)) (λ k. axes_text f whole (depth + 1) (length ns) (record { shape = ns; at = λ i. inside ns i (xs (k ∷ i)) }))
      (λ k. axes_text of_item whole (depth + 1) (length ns) (record { shape = ns; at = λ i. inside ns i (items (k ∷ i)) })) whole (length ns) n
      (λ k lt. axes_known whole (depth + 1) ns (λ i. inside ns i (xs (k ∷ i))) (λ i. inside ns i (items (k ∷ i))) (λ i. part_same (in_box ns i) (xs (k ∷ i)) (items (k ∷ i)) (same (k ∷ i)))
      (λ i h. rw h (full (k ∷ i) (and_from (nat_lt k n) (in_box ns i) (lt-ltb k n lt) h)))))
      (both_text (codes "]")))

  shown_known : (ns : List ℕ) (xs : List ℕ → Option A) (items : List ℕ → Option (List ℕ)) → ((i : List ℕ) → xs i ≡ option_map value (items i)) → ((i : List ℕ) → in_box ns i ≡ true → is_some (items i) ≡ true)
      → BothKnown (array_text f false (record { shape = ns; at = xs })) (array_text of_item false (record { shape = ns; at = items }))
  shown_known ns xs items same full = by_test (size_of ns == 0) refl
    where
      by_test : (t : Bool) → (size_of ns == 0) ≡ t → BothKnown (array_text f false (record { shape = ns; at = xs })) (array_text of_item false (record { shape = ns; at = items }))
      by_test true is = rw is (both_text _)
      by_test false is = rw is (axes_known (nat_lt (size_of ns) 500) 0 ns xs items same full)

  -- the text of an array of values is that of the array of their items
  pub text_known : (xs : Meaning A) (items : Meaning (List ℕ)) → xs.shape ≡ items.shape → ((i : List ℕ) → xs.at i ≡ option_map value (items.at i)) → ((i : List ℕ) → in_box items.shape i ≡ true → is_some (items.at i) ≡ true)
      → BothKnown (array_text f false xs) (array_text of_item false items)
  text_known xs items shape same full = subst (λ ns. BothKnown (array_text f false (record { shape = ns; at = xs.at })) (array_text of_item false items)) (sym shape) (shown_known items.shape xs.at items.at same full)

-- each index of an array has an element
some_there : {X : Type 0} (xs : List X) (k : ℕ) → k < length xs → is_some (slice_get xs k) ≡ true
some_there [] k lt = absurd (omega arith)
some_there (x ∷ xs) zero lt = refl
some_there (x ∷ xs) (suc k) lt = some_there xs k (omega (arith, lt))

pub each_some : {X : Type 0} (m : Meaning X) (listed : List X) → length listed ≡ size_of m.shape → ((i : List ℕ) → in_box m.shape i ≡ true → row_rank m.shape i < size_of m.shape) → ((i : List ℕ) → in_box m.shape i ≡ true → slice_get listed (row_rank m.shape i) ≡ m.at i)
    → (i : List ℕ) → in_box m.shape i ≡ true → is_some (m.at i) ≡ true
each_some m listed count below each i h = ap is_some (sym (each i h)) ∙ some_there listed (row_rank m.shape i) (omega (arith, below i h, count))
