-- The last index of a shape is that of the greatest rank.
use Rattle.nd_array_core.proofs.NamesFromOtherCrates.{◌≡◌, ℕ, zero, suc, ◌+◌, ◌-◌, ◌*◌, ◌/◌, ◌%◌, ◌<◌, ◌≤◌, Bool, true, false, List, [], ◌∷◌, length, take, refl, ap, sym, ◌∙◌, arith, true≢false, length-take, div-mul-add, mod-mul-add, in_box, size_of, index_at, positive-cons, row_rank_below, in_box-index_at}
use Rattle.nd_array_core.specs.LastIndex.{last_index}

pub last_by_rank : (ns : List ℕ) → 0 < size_of ns → index_at ns (size_of ns - 1) ≡ last_index ns
last_by_rank [] some = refl
last_by_rank (zero ∷ ns) some = absurd (omega (arith, some))
last_by_rank (suc m ∷ ns) some =
    let s = size_of ns in
    let rest : 0 < s = (positive-cons (suc m) ns some).1 in
    let low : s - 1 < s = omega (arith, rest) in
    let product : suc m * s ≡ m * s + s = grind arith in
    let rank : suc m * s - 1 ≡ m * s + (s - 1) = omega (arith, product, rest) in
    let first : (suc m * s - 1) / s ≡ suc m - 1 = ap (λ r. r / s) rank ∙ (div-mul-add m s (s - 1) low ∙ omega arith) in
    let later : (suc m * s - 1) % s ≡ s - 1 = ap (λ r. r % s) rank ∙ mod-mul-add m s (s - 1) low in
    (λ k. first k ∷ (ap (index_at ns) later ∙ last_by_rank ns rest) k)

pub last_inside : (ns : List ℕ) → 0 < size_of ns → in_box ns (last_index ns) ≡ true
last_inside ns some = ap (in_box ns) (sym (last_by_rank ns some)) ∙ in_box-index_at ns (size_of ns - 1) (omega (arith, some))

-- a shape without elements has none
pub last_outside : (ns : List ℕ) → size_of ns ≡ 0 → in_box ns (last_index ns) ≡ false
last_outside ns none = by_test (in_box ns (last_index ns)) refl
  where
    by_test : (b : Bool) → in_box ns (last_index ns) ≡ b → in_box ns (last_index ns) ≡ false
    by_test true h = absurd (let below = row_rank_below ns (last_index ns) h in omega (arith, below, none))
    by_test false h = h

-- where a test for no elements failed, there are some
pub some_left : (none : Bool) (size : ℕ) → none ≡ false → (size ≡ 0 → none ≡ true) → 0 < size
some_left none zero failed tests = absurd (true≢false (sym (tests refl) ∙ failed))
some_left none (suc n) failed tests = omega arith

pub rank_below : (size n : ℕ) → n ≡ size → 0 < size → n - 1 < size
rank_below size n same some = omega (arith, same, some)

pub taken_long : (n : ℕ) (xs : List ℕ) → n ≤ length xs → length (take n xs) ≡ n
taken_long n xs within = omega (arith, length-take n xs, within)

pub not_none : (size : ℕ) → 0 < size → (true ≡ false → size ≡ 0) × (size ≡ 0 → true ≡ false)
not_none size some = ((λ is. absurd (true≢false is)), (λ none. absurd (omega (arith, some, none))))
