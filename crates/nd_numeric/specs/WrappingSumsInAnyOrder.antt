-- Sums and products of integers that wrap are the same in any order of the numbers.
use Rattle.std.proofs.Common.{◌≡◌, ◌∙◌, ◌+◌, ◌*◌, ◌%◌, ◌^◌, sym, ap, ℕ, ℤ, true, false, true≢false}
use Rattle.std.proofs.Math.Nat.{add_right_comm, mul_right_comm, mod-add-mod, mod-lt}
use Rattle.std.proofs.lemmas.Int.{of_z-to_z}
use Rattle.std.proofs.lemmas.Nat.{mul-mod_first, pow_pos}
use Rattle.std.specs.Int.{Width, cast_signed, cast_unsigned, int_wrapping_add, int_wrapping_mul}
use Rattle.nd_array_core.specs.elements.ElementFolds.{IsOrderFree}
use mir.Val.{bits}

-- Sums and products modulo `n`.
pub sum_is_free : (n : ℕ) → IsOrderFree (λ x y. (x + y) % n)
sum_is_free n b x y = mod-add-mod (b + x) n y ∙ ap (λ s. s % n) (add_right_comm b x y) ∙ sym (mod-add-mod (b + y) n x)

pub product_is_free : (n : ℕ) → IsOrderFree (λ x y. (x * y) % n)
product_is_free n b x y = mul-mod_first (b * x) y n ∙ ap (λ s. s % n) (mul_right_comm b x y) ∙ sym (mul-mod_first (b * y) x n)

module _ (w : Width) (h : ℕ → ℕ → ℕ) (free : IsOrderFree (λ (x y : ℕ). h x y % 2 ^ bits w)) where
  -- A result that wraps, from the bits of both numbers.
  abbrev by_bits : ℤ → ℤ → ℤ
  by_bits x y = cast_signed w (h (cast_unsigned w x) (cast_unsigned w y) % 2 ^ bits w)

  -- The bits of such a result.
  bits_are : (x y : ℤ) → cast_unsigned w (by_bits x y) ≡ h (cast_unsigned w x) (cast_unsigned w y) % 2 ^ bits w
  bits_are x y = of_z-to_z w (h (cast_unsigned w x) (cast_unsigned w y) % 2 ^ bits w) (mod-lt (h (cast_unsigned w x) (cast_unsigned w y)) (pow_pos (bits w)))

  -- Where the order doesn't matter to the bits, it doesn't to the numbers.
  bits_are_free : (b x y : ℤ) → by_bits (by_bits b x) y ≡ by_bits (by_bits b y) x
  bits_are_free b x y =
      ap (λ n. cast_signed w (h n (cast_unsigned w y) % 2 ^ bits w)) (bits_are b x)
      ∙ ap (cast_signed w) (free (cast_unsigned w b) (cast_unsigned w x) (cast_unsigned w y))
      ∙ sym (ap (λ n. cast_signed w (h n (cast_unsigned w x) % 2 ^ bits w)) (bits_are b y))

-- Sums and products of signed numbers.
pub signed_sum_is_free : (w : Width) → IsOrderFree (int_wrapping_add w)
signed_sum_is_free w = bits_are_free w (λ x y. x + y) (sum_is_free (2 ^ bits w))

pub signed_product_is_free : (w : Width) → IsOrderFree (int_wrapping_mul w)
signed_product_is_free w = bits_are_free w (λ x y. x * y) (product_is_free (2 ^ bits w))

-- Of a type without such laws nothing is asked.
pub never : {P : Type 0} → false ≡ true → P
never h = absurd (true≢false (sym h))
