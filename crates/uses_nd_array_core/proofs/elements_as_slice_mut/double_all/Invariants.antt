use Rattle.std.proofs.Common.{◌≡◌, ℕ, ◌<◌, ◌≤◌, ◌*◌, ◌%◌, ◌^◌, length}
use Rattle.std.specs.Prelude.{slice_get}
use Rattle.std.specs.Option.{option_map}
use Rattle.uses_nd_array_core.proofs.elements_as_slice_mut.double_all.Given as goal

abbrev pub invariant-loop-k : goal.invariant-loop-k
invariant-loop-k l = record {
  long : length l.numbers ≡ length l.fn.numbers;
  done : (i : ℕ) → i < l.k → slice_get l.numbers i ≡ option_map (λ x. x * 2 % 2 ^ 64) (slice_get l.fn.numbers i);
  left : (i : ℕ) → l.k ≤ i → slice_get l.numbers i ≡ slice_get l.fn.numbers i;
}
