-- What a caller of a scoped call learns of one index: the array shows there what the view does, and the view what was put.
use Rattle.std.proofs.Common.{◌≡◌, ℕ, Bool, true, List, [], ◌∷◌, refl, ap, sym, ◌∙◌}
use Rattle.std.specs.Cmp.{unsigned_Decides}
use Rattle.std.specs.Prelude.{Option, Some, None, nat_eq, if◌then◌else◌}
use Rattle.std.proofs.lemmas.Bool.{and_from}
use Rattle.nd_shape_and_slice.specs.ShapesAndIndexOrders.{in_box}
use Rattle.nd_array_core.specs.ArrayInStorage.{PlacedArray, element_placed}
use Rattle.nd_array_core.specs.scoped.ViewTasks.{IsViewThrough}
use Rattle.nd_array_core.specs.base.ArrayWrites.{is_index, with_element_at}

-- the view through a map shows an element where the array does
pub through : {A : Type 0} (shape : List ℕ) (source : List ℕ → List ℕ) (place : List ℕ → Option ℕ) (at : List ℕ → Option A) (w : PlacedArray A) (i : List ℕ) (x : A) → IsViewThrough shape source place at w → in_box shape i ≡ true → element_placed w i ≡ Some x → at (source i) ≡ Some x
through shape source place at w i x seen h e = sym (seen.same_element i ∙ ap (λ (b : Bool). if b then at (source i) else None) h) ∙ e

-- and shows what was put at an index
same_index : (i : List ℕ) → is_index i i ≡ true
same_index [] = refl
same_index (x ∷ i) = and_from (nat_eq x x) (is_index i i) ((unsigned_Decides x x).1 refl) (same_index i)

pub put_there : {A : Type 0} (at : List ℕ → Option A) (i : List ℕ) (x : A) → with_element_at at i x i ≡ Some x
put_there at i x = ap (λ (b : Bool). if b then Some x else at i) (same_index i)
