-- Quotients rounded up: the ways to write them.
use Rattle.nd_shape_and_slice.proofs.NamesFromOtherCrates.{◌≡◌, ℕ, zero, suc, ◌+◌, ◌-◌, ◌*◌, ◌/◌, ◌%◌, ◌<◌, arith, refl, ◌∙◌, ap, div-add-mod', div-mul-add, mod_below, div_ceil}
use Rattle.nd_shape_and_slice.specs.Slice.{quotient_up}

pub div_ceil_is : (a b : ℕ) → 0 < b → div_ceil a b ≡ quotient_up a b
div_ceil_is a b some = at (a % b) refl
  where
    at : (r : ℕ) → a % b ≡ r → div_ceil a b ≡ quotient_up a b
    at zero e =
        let whole : a + (b - 1) ≡ a / b * b + (b - 1) = omega (arith, div-add-mod' a b, e) in
        let last : b - 1 < b = omega arith in
        let right : (a + (b - 1)) / b ≡ a / b = ap (λ x. x / b) whole ∙ div-mul-add (a / b) b (b - 1) last in
        omega (arith, right, e)
    at (suc r) e =
        let below : a % b < b = mod_below a b some in
        let next : suc (a / b) * b ≡ a / b * b + b = grind arith in
        let whole : a + (b - 1) ≡ suc (a / b) * b + r = omega (arith, div-add-mod' a b, e, next) in
        let last : r < b = omega (arith, below, e) in
        let right : (a + (b - 1)) / b ≡ suc (a / b) = ap (λ x. x / b) whole ∙ div-mul-add (suc (a / b)) b r last in
        omega (arith, right, e)

pub quotient_by_one : (a : ℕ) → a ≡ quotient_up a 1
quotient_by_one a = omega arith
