-- The pieces that a loop has appended, one after another.
use Rattle.std.proofs.Common.{◌≡◌, ◌∙◌, ◌<◌, ◌≤◌, ◌+◌, ℕ, zero, suc, List, [], ◌∷◌, ◌++◌, length, take, take_all, slice_index_or, sym, ap, append_assoc, append-nil, arith}
use Rattle.std.specs.List.{flat_map}

module _ {X A : Type 0} (f : X → List A) where
  next : (xs : List X) (i : ℕ) (d : X) → i < length xs → flat_map f (take i xs) ++ f (slice_index_or xs i d) ≡ flat_map f (take (suc i) xs)
  next [] i d below = absurd (omega (arith, below))
  next (y ∷ ys) zero d below = sym (append-nil (f y))
  next (y ∷ ys) (suc i) d below = append_assoc (f y) (flat_map f (take i ys)) (f (slice_index_or ys i d)) ∙ ap (λ l. f y ++ l) (next ys i d (omega (arith, below)))

  -- the piece of one item more of a slice
  pub pieces_more : (xs : List X) (i : ℕ) (d : X) (start old new : List A) → i < length xs → old ≡ start ++ flat_map f (take i xs) → new ≡ old ++ f (slice_index_or xs i d) → new ≡ start ++ flat_map f (take (i + 1) xs)
  pieces_more xs i d start old new below so more =
      let one : suc i ≡ i + 1 = omega arith in
      more ∙ ap (λ l. l ++ f (slice_index_or xs i d)) so ∙ append_assoc start (flat_map f (take i xs)) (f (slice_index_or xs i d)) ∙ ap (λ l. start ++ l) (next xs i d below) ∙ ap (λ n. start ++ flat_map f (take n xs)) one

  -- one item more, where the code names the item and what it appends
  pub item_more : (xs : List X) (i : ℕ) (x : X) (piece start old new : List A) → i < length xs → x ≡ slice_index_or xs i x → piece ≡ f x → old ≡ start ++ flat_map f (take i xs) → new ≡ old ++ piece → new ≡ start ++ flat_map f (take (i + 1) xs)
  item_more xs i x piece start old new below is same so more = pieces_more xs i x start old new below so (more ∙ ap (λ l. old ++ l) (same ∙ ap f is))

  -- those of all items
  pub pieces_all : (xs : List X) (i : ℕ) (start new : List A) → length xs ≤ i → new ≡ start ++ flat_map f (take i xs) → new ≡ start ++ flat_map f xs
  pieces_all xs i start new end so = so ∙ ap (λ l. start ++ flat_map f l) (take_all i xs end)
