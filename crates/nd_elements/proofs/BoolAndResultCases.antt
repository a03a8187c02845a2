-- A test, by its two answers; two numbers, by their order; a result, by what it is.
use Rattle.nd_elements.proofs.NamesFromOtherCrates.{◌≡◌, ℕ, ◌<◌, ◌≤◌, Bool, true, false, refl, subst, ⊎_elim, cases_lt, Result, Ok, OnOk, Err, OnErr}

pub by_bool : {P : Type 0} (b : Bool) → (b ≡ true → P) → (b ≡ false → P) → P
by_bool true holds fails = holds refl
by_bool false holds fails = fails refl

pub by_order : {P : Type 0} (m n : ℕ) → (m < n → P) → (n ≤ m → P) → P
by_order m n less more = ⊎_elim less more (cases_lt m n)

-- what a test's value decides, by its two values
pub by_value : (P : Bool → Type 0) (t : Bool) → (t ≡ true → P true) → (t ≡ false → P false) → P t
by_value P t holds fails = at t refl
  where
    at : (b : Bool) → t ≡ b → P b
    at true e = holds e
    at false e = fails e

-- what a clause says of a result that is there, and of one that is refused
pub there : {T E P : Type 0} (r : Result T E) (x : T) → r ≡ Ok x → OnOk r P → P
there {P = P} r x is all = subst (λ r. OnOk r P) is all

pub refused : {T E P : Type 0} (r : Result T E) (e : E) → r ≡ Err e → OnErr r P → P
refused {P = P} r e is all = subst (λ r. OnErr r P) is all
