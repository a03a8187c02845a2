-- Strides that serve make a layout of the same places.
use Rattle.nd_array_core.proofs.NamesFromOtherCrates.{◌↔◌, ◌≡◌, ℕ, ◌<◌, ◌^◌, Bool, false, List, [], ◌∷◌, ℤ, arith, ap, sym, ◌∙◌, subst, IsTrue, both_ways, size_of, HasCheckedSize, span_of, Order, ErrorKind, IncompatibleShape, IsViewStep, IsValid, ReachesPlaces, seen_reaches, lane_checked}
use Rattle.nd_array_core.specs.declared.base.array_error.ArrayError.{ArrayError}
use Rattle.nd_array_core.specs.declared.base.array_error.ArrayError.TheVariants.{Shape}
use Rattle.nd_array_core.specs.reshape.EitherArray.{IsReshapeRefused, NotAsMany, NotCopied}
use Rattle.nd_array_core.specs.reshape.ReshapeByRank.{regrouped_index, IsShapeOf}
use Rattle.nd_array_core.specs.reshape.ServingStrides.{IsServedBy, SomeServe}
use Rattle.nd_array_core.proofs.reshape_lemmas.IndexesAfterReshape.{served_seen}

module _ (order : Order) (offset : ℕ) (ns : List ℕ) (ss : List ℤ) (ms : List ℕ) (ts : List ℤ) (fits : IsShapeOf ns ms) (served : IsServedBy order ns ss ms ts) where
  pub served_step : IsViewStep offset ns ss offset ms ts (regrouped_index order ns ms)
  served_step = served_seen order offset ns ss ms ts fits.1 served.serve

  pub served_valid : span_of ns ss < 2 ^ 63 → ReachesPlaces offset ns ss → IsValid offset ms ts
  served_valid short reach = record { as_many = served.serve.as_many; spread = omega (arith, served.span_no_larger); checked = fits.0; reach = seen_reaches served_step reach }

-- lengths that failed the test aren't a shape of as many elements
pub size_refused : (order : Order) (ns : List ℕ) (ss : List ℤ) (ms ls : List ℕ) (size : ℕ) (test : Bool) (kind : ErrorKind) → ls ≡ ms → size ≡ size_of ns
    → (IsTrue test ↔ (HasCheckedSize ls × (size_of ls ≡ size))) → test ≡ false → kind ≡ IncompatibleShape → IsReshapeRefused order ns ss ms (Shape kind)
size_refused order ns ss ms ls size test kind same count exact failed refused =
    subst (λ e. IsReshapeRefused order ns ss ms (Shape e)) (sym refused) (NotAsMany (λ fits. both_ways test failed (exact.1 (subst HasCheckedSize (sym same) fits.0, ap size_of same ∙ fits.1 ∙ sym count))))

-- one axis for all elements
pub line_has_all : (ns : List ℕ) (count : ℕ) → count ≡ size_of ns → count < 2 ^ 63 → IsShapeOf ns (count ∷ [])
line_has_all ns count is short = (lane_checked count short, one_axis ∙ is)
  where
    one_axis : size_of (count ∷ []) ≡ count
    one_axis = omega arith

-- where the lengths are a shape of as many elements, memory alone can be wanting
pub only_memory : {order : Order} {ns : List ℕ} {ss : List ℤ} {ms : List ℕ} (e : ArrayError) → IsShapeOf ns ms → IsReshapeRefused order ns ss ms e → SomeServe order ns ss ms → ⊥
only_memory e fits (NotAsMany none) serve = none fits
only_memory e fits (NotCopied f none) serve = none serve
