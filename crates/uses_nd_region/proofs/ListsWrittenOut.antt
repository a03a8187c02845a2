-- A list of a known length, written out.
use mathlib.Core.Path.{◌≡◌, refl, ap, ◌∙◌}
use Rattle.std.specs.Prelude.{ℕ, suc, ◌+◌, List, [], ◌∷◌, length}
use Rattle.std.proofs.lemmas.List.{nil_from_length}
use native.Mathlib.Omega.{arith}
use native.Mathlib.Nat.{not-suc-le-zero}

module _ {A : Type 0} where
  more : (xs : List A) (n : ℕ) → length xs ≡ suc n → (x : A) × (ys : List A) × (xs ≡ x ∷ ys) × (length ys ≡ n)
  more [] n e = let bad : 0 ≡ suc n = e in absurd (not-suc-le-zero {n = 0} (omega arith))
  more (x ∷ xs) n e = let good : suc (length xs) ≡ suc n = e in (x, xs, refl, omega arith)

  -- six elements and the rest
  pub first_six : (xs : List A) (n : ℕ) → length xs ≡ 6 + n → (a : A) × (b : A) × (c : A) × (d : A) × (e : A) × (f : A) × (ys : List A) × (xs ≡ a ∷ b ∷ c ∷ d ∷ e ∷ f ∷ ys) × (length ys ≡ n)
  first_six xs n l =
      let r = more xs (5 + n) (omega (arith, l)) in let s = more r.1 (4 + n) (omega (arith, r.3)) in let t = more s.1 (3 + n) (omega (arith, s.3)) in
      let u = more t.1 (2 + n) (omega (arith, t.3)) in let v = more u.1 (1 + n) (omega (arith, u.3)) in let w = more v.1 n (omega (arith, v.3)) in
      (r.0, s.0, t.0, u.0, v.0, w.0, w.1, r.2 ∙ ap (λ l. r.0 ∷ l) (s.2 ∙ ap (λ l. s.0 ∷ l) (t.2 ∙ ap (λ l. t.0 ∷ l) (u.2 ∙ ap (λ l. u.0 ∷ l) (v.2 ∙ ap (λ l. v.0 ∷ l) w.2)))), w.3)

  pub six : (xs : List A) → length xs ≡ 6 → (a : A) × (b : A) × (c : A) × (d : A) × (e : A) × (f : A) × (xs ≡ a ∷ b ∷ c ∷ d ∷ e ∷ f ∷ [])
  six xs l = let w = first_six xs 0 l in (w.0, w.1, w.2, w.3, w.4, w.5, w.7 ∙ ap (λ l. w.0 ∷ w.1 ∷ w.2 ∷ w.3 ∷ w.4 ∷ w.5 ∷ l) (nil_from_length w.6 w.8))

  pub twelve : (xs : List A) → length xs ≡ 12
      → (a : A) × (b : A) × (c : A) × (d : A) × (e : A) × (f : A) × (g : A) × (h : A) × (i : A) × (j : A) × (k : A) × (l : A) × (xs ≡ a ∷ b ∷ c ∷ d ∷ e ∷ f ∷ g ∷ h ∷ i ∷ j ∷ k ∷ l ∷ [])
  twelve xs l =
      let w = first_six xs 6 l in let v = six w.6 w.8 in
      (w.0, w.1, w.2, w.3, w.4, w.5, v.0, v.1, v.2, v.3, v.4, v.5, w.7 ∙ ap (λ l. w.0 ∷ w.1 ∷ w.2 ∷ w.3 ∷ w.4 ∷ w.5 ∷ l) v.6)
