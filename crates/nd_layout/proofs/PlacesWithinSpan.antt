-- Where the indexes of a box lie: between the lowest and the highest place, and within the span.
use Rattle.nd_layout.proofs.NamesFromOtherCrates.{ℕ, suc, ◌+◌, ◌-◌, ◌*◌, ◌<◌, ◌≤◌, ◌≡◌, List, [], ◌∷◌, ltb, true, arith, refl, ℤ, pos, negsuc, ◌+ℤ◌, ltb-true, and_parts, false≢true, mul-le-mul_right, in_box, displacement_of, place_of, span_of}
use borrow.Author.Differences.{up, down}
use Rattle.nd_layout.specs.StridesAfterLayoutCalls.{reach_up, reach_down}
use Rattle.nd_layout.proofs.Integers.{sums}

-- the two reaches are the span
pub span_of-reaches : (ns : List ℕ) (ss : List ℤ) → span_of ns ss ≡ reach_up ns ss + reach_down ns ss
span_of-reaches [] ss = refl
span_of-reaches (n ∷ ns) [] = refl
span_of-reaches (n ∷ ns) (pos s ∷ ss) = omega (arith, span_of-reaches ns ss)
span_of-reaches (n ∷ ns) (negsuc s ∷ ss) = omega (arith, span_of-reaches ns ss)

-- one axis's part, to either side
part_up : (k n s : ℕ) → k < n → k * s ≤ (n - 1) * s
part_up k n s h = mul-le-mul_right s (omega arith)

-- a displacement lies between the two reaches, by its positive and its negative part
pub offset_bounds : (ns : List ℕ) (ss : List ℤ) (i : List ℕ) → in_box ns i ≡ true → (up (displacement_of ss i) ≤ down (displacement_of ss i) + reach_up ns ss) × (down (displacement_of ss i) ≤ up (displacement_of ss i) + reach_down ns ss)
offset_bounds [] [] i h = (omega arith, omega arith)
offset_bounds [] (s ∷ ss) [] h = (omega arith, omega arith)
offset_bounds [] (s ∷ ss) (k ∷ i) h = absurd (false≢true h)
offset_bounds (n ∷ ns) [] i h = (omega arith, omega arith)
offset_bounds (n ∷ ns) (s ∷ ss) [] h = absurd (false≢true h)
offset_bounds (n ∷ ns) (pos s ∷ ss) (k ∷ i) h =
    let w = and_parts (ltb k n) (in_box ns i) h in
    let rest = offset_bounds ns ss i w.1 in
    let part = part_up k n s (ltb-true k n w.0) in
    (omega (arith, sums), omega (arith, sums))
offset_bounds (n ∷ ns) (negsuc s ∷ ss) (k ∷ i) h =
    let w = and_parts (ltb k n) (in_box ns i) h in
    let rest = offset_bounds ns ss i w.1 in
    let part = part_up k n (suc s) (ltb-true k n w.0) in
    (omega (arith, sums), omega (arith, sums))

-- where the lowest place isn't below 0, each place is a number, and at most `reach_up` above the first
pub place-in_box : (offset : ℕ) (ns : List ℕ) (ss : List ℤ) (i : List ℕ) → in_box ns i ≡ true → reach_down ns ss ≤ offset → (p : ℕ) × (place_of offset ss i ≡ pos p) × (p ≤ offset + reach_up ns ss)
place-in_box offset ns ss i h low =
    let b = offset_bounds ns ss i h in
    natural (displacement_of ss i) b.0 b.1
  where
    natural : (z : ℤ) → up z ≤ down z + reach_up ns ss → down z ≤ up z + reach_down ns ss → (p : ℕ) × (pos offset +ℤ z ≡ pos p) × (p ≤ offset + reach_up ns ss)
    natural z top bottom = (offset + up z - down z, omega (arith, sums), omega arith)
