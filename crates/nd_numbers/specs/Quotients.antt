-- Quotients of whole numbers for every divisor.
use Rattle.std.specs.Prelude.{ℕ, ℤ, pos, ◌/◌, nat_eq, if◌then◌else◌}
use Rattle.std.specs.Int.{Width, int_wrapping_div}
use Rattle.std.specs.Ordering.{int_eq}

-- Returns `x / y`, rounded down, and 0 where `y` is 0.
abbrev pub quotient_or_zero : ℕ → ℕ → ℕ
quotient_or_zero x y = if nat_eq y 0 then 0 else x / y

-- Returns `x / y`, rounded toward 0 and wrapped to the width `w`, and 0 where `y` is 0.
abbrev pub wrapped_quotient_or_zero : Width → ℤ → ℤ → ℤ
wrapped_quotient_or_zero w x y = if int_eq y (pos 0) then pos 0 else int_wrapping_div w x y
