use Rattle.nd_layout.proofs.NamesFromOtherCrates.{◌≡◌, ◌<◌, ◌^◌, ℕ, arith, ℤ, pos, negsuc, ◌+ℤ◌, ◌*ℤ◌, w64, FitsSigned, ints, to_z-of_z, to_z_pos}
use Rattle.nd_layout.proofs.walk_lemmas.NextIndexOfWalk.{place_number}
use Rattle.nd_layout.proofs.layout.place_at.moved_by.Goals as goal

-- the steps lead from one place to another, so they fit
steps_fit : (place : ℕ) (by : ℤ) (p : ℕ) → place < 2 ^ 63 → p < 2 ^ 63 → pos place +ℤ by ≡ pos p → FitsSigned w64 by
steps_fit place (pos n) p from to e = record { sfits = omega (arith, ints) }
steps_fit place (negsuc n) p from to e = record { sfits = omega (arith, ints) }

pub overflow_mul-result : goal.overflow_mul-result
overflow_mul-result c =
    let to = place_number (pos c.args.place +ℤ (pos c.args.steps *ℤ c.args.stride)) c.requires.to in
    rw (to_z_pos w64 c.args.steps c.requires.few, to_z-of_z w64 c.args.stride c.ranges.stride) (steps_fit c.args.place (pos c.args.steps *ℤ c.args.stride) to.0 c.requires.from to.2 to.1)

pub overflow_add-result : goal.overflow_add-result
overflow_add-result c =
    let to = place_number (pos c.args.place +ℤ (pos c.args.steps *ℤ c.args.stride)) c.requires.to in
    let fit = steps_fit c.args.place (pos c.args.steps *ℤ c.args.stride) to.0 c.requires.from to.2 to.1 in
    rw (to_z_pos w64 c.args.steps c.requires.few, to_z-of_z w64 c.args.stride c.ranges.stride, to_z_pos w64 c.args.place c.requires.from, to_z-of_z w64 (pos c.args.steps *ℤ c.args.stride) fit, to.1) (record { sfits = to.2 })

pub overflow_cast-result-3 : goal.overflow_cast-result-3
overflow_cast-result-3 c =
    let to = place_number (pos c.args.place +ℤ (pos c.args.steps *ℤ c.args.stride)) c.requires.to in
    let fit = steps_fit c.args.place (pos c.args.steps *ℤ c.args.stride) to.0 c.requires.from to.2 to.1 in
    let whole : FitsSigned w64 (pos to.0) = record { sfits = to.2 } in
    rw (to_z_pos w64 c.args.steps c.requires.few, to_z-of_z w64 c.args.stride c.ranges.stride, to_z_pos w64 c.args.place c.requires.from, to_z-of_z w64 (pos c.args.steps *ℤ c.args.stride) fit, to.1, to_z-of_z w64 (pos to.0) whole) (tt, record { fits = omega (arith, to.2) })

pub returns : goal.returns
returns c =
    let to = place_number (pos c.args.place +ℤ (pos c.args.steps *ℤ c.args.stride)) c.requires.to in
    let fit = steps_fit c.args.place (pos c.args.steps *ℤ c.args.stride) to.0 c.requires.from to.2 to.1 in
    let whole : FitsSigned w64 (pos to.0) = record { sfits = to.2 } in
    rw (to_z_pos w64 c.args.steps c.requires.few, to_z-of_z w64 c.args.stride c.ranges.stride, to_z_pos w64 c.args.place c.requires.from, to_z-of_z w64 (pos c.args.steps *ℤ c.args.stride) fit, to.1, to_z-of_z w64 (pos to.0) whole)
