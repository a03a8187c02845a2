-- Quotients by a variable: which numbers have one.
use Rattle.nd_array_core.proofs.NamesFromOtherCrates.{◌≡◌, ℕ, ◌+◌, ◌*◌, ◌/◌, ◌-◌, ◌<◌, ◌≤◌, arith, div-mul-le_self, lt-div-mul-add, div-lt_iff_lt-mul, div-mul-add}

-- a number lies from its quotient times the size on
pub quotient_holds : (size i : ℕ) → 0 < size → (i / size * size ≤ i) × (i < i / size * size + size)
quotient_holds size i some = (div-mul-le_self i size, lt-div-mul-add some)

-- what lies there has that quotient
pub quotient_of : (size quotient i : ℕ) → quotient * size ≤ i → i < quotient * size + size → i / size ≡ quotient
quotient_of size quotient i low high =
    let offset : i - quotient * size < size = omega arith in
    let sum : quotient * size + (i - quotient * size) ≡ i = omega arith in
    rw sum at (div-mul-add quotient size (i - quotient * size) offset)

-- what has a smaller quotient lies before it
pub before_quotient : (size quotient i : ℕ) → 0 < size → i / size < quotient → i < quotient * size
before_quotient size quotient i some below = (div-lt_iff_lt-mul some).0 below
