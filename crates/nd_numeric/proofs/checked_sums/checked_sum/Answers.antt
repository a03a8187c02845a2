use mir.Syntax.{w128}
use Rattle.std.proofs.Common.{◌≡◌, ◌+◌, ◌*◌, ◌^◌, ◌+ℤ◌, ◌≤ℤ◌, ℕ, ℤ, suc, pos, negsuc, List, ◌∷◌, length, arith, rules, ap, subst, ◌∙◌, refl}
use Rattle.std.proofs.lemmas.Int.{to_z-of_z}
use Rattle.std.specs.List.{fold}
use Rattle.nd_array_core.specs.ConcatenationAndSplit.{row_major_elements}
use Rattle.nd_array_core.specs.ArrayMeaning.{meaning_of}
use Rattle.nd_numeric.proofs.checked_sums.checked_sum.Goals as goal

-- an item moves the sum by k at most, so a bound that leaves k for each item left still holds after it
less_by : (a k n : ℕ) (s t : ℤ) → (s +ℤ pos (a + k)) ≤ℤ pos n → t ≤ℤ (s +ℤ pos k) → (t +ℤ pos a) ≤ℤ pos n
less_by a k n (pos s) (pos t) h e = grind (arith, h, e)
less_by a k n (pos s) (negsuc t) h e = grind (arith, h, e)
less_by a k n (negsuc s) (pos t) h e = grind (arith, h, e)
less_by a k n (negsuc s) (negsuc t) h e = grind (arith, h, e)

less_left : (k r n : ℕ) (s t : ℤ) → (s +ℤ pos (k * suc r)) ≤ℤ pos n → t ≤ℤ (s +ℤ pos k) → (t +ℤ pos (k * r)) ≤ℤ pos n
less_left k r n s t h e = let more : k * suc r ≡ k * r + k = grind arith in less_by (k * r) k n s t (rw more at h) e

more_left : (k r n : ℕ) (s t : ℤ) → pos (k * suc r) ≤ℤ (s +ℤ pos n) → s ≤ℤ (t +ℤ pos k) → pos (k * r) ≤ℤ (t +ℤ pos n)
more_left k r n s t h e = let more : k * suc r ≡ k * r + k = grind arith in grind (arith, more, h, e)

module _ {A : Type 0} (value : A → ℤ) (k : ℕ) where
  -- what is known of a sum so far and of the items that are left
  abbrev IsOnTheWay : List A → ℤ → List A → Type 0
  IsOnTheWay all sum rest =
      ((sum +ℤ pos (k * length rest)) ≤ℤ pos (k * length all))
      × (pos (k * length rest) ≤ℤ (sum +ℤ pos (k * length all)))
      × (fold (λ sum x. sum +ℤ value x) sum rest ≡ fold (λ sum x. sum +ℤ value x) (pos 0) all)

  starts : (all xs : List A) → xs ≡ all → IsOnTheWay all (pos 0) xs
  starts all xs e = rw e (below (k * length all), above (k * length all), refl)
    where
      below : (n : ℕ) → (pos 0 +ℤ pos n) ≤ℤ pos n
      below n = grind arith

      above : (n : ℕ) → pos n ≤ℤ (pos 0 +ℤ pos n)
      above n = grind arith

  goes_on : (all xs rest : List A) (x : A) (s t : ℤ) → xs ≡ x ∷ rest → t ≡ s +ℤ value x → t ≤ℤ (s +ℤ pos k) → s ≤ℤ (t +ℤ pos k) → IsOnTheWay all s xs → IsOnTheWay all t rest
  goes_on all xs rest x s t is sum most least way =
      let here = subst (IsOnTheWay all s) is way in (
        less_left k (length rest) (k * length all) s t here.0 most,
        more_left k (length rest) (k * length all) s t here.1 least,
        ap (λ z. fold (λ sum x. sum +ℤ value x) z rest) sum ∙ here.2,
      )

-- src/checked_sums.rt:33:5
pub loop-x-init : goal.loop-x-init
loop-x-init g c =
    let way = starts g.A.Whole.value (2 ^ 64) (row_major_elements (meaning_of c.args.array.now)) c.into_iter-x-iterator.result (c.into_iter-x-iterator.ensures.into_iter_gives ∙ c.iter-x-items.ensures.rest) in
    (tt, tt, way.0, way.1, way.2)

-- src/checked_sums.rt:33:5
pub loop-x-preserved : goal.loop-x-preserved
loop-x-preserved g c =
    let way = goes_on g.A.Whole.value (2 ^ 64) (row_major_elements (meaning_of c.args.array.now)) c.loop-x.x-iterator c.next.new.self c.in-Some.x.now _ c.added-sum.result c.in-Some.ensures.steps c.added-sum.ensures.value c.added-sum.ensures.most c.added-sum.ensures.least (c.loop-x.invariant.2, c.loop-x.invariant.3, c.loop-x.invariant.4) in
    let same = to_z-of_z w128 c.added-sum.result (search rules) in
    rw same (tt, tt, way.0, way.1, way.2)
