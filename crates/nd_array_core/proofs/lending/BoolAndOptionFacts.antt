-- What a walk has of the answer to a question: the answer, where it is tested, and that both parts of a value have their types.
use Rattle.nd_array_core.proofs.NamesFromOtherCrates.{T, Option, Some, None, IsSome, IfSome, IsTrue, ◌↔◌}
use mathlib.Core.Path.{refl}
use mathlib.Core.Bool.{Bool, true, false, not, ◌&&◌}

pub is_on : (asked : Bool) → T asked → IsTrue asked
is_on true on = refl
is_on false on = absurd on

-- an answer that isn't given fits no question's yes
pub none_asked : {φ : Type 0} (asked : Bool) → T (not asked) → IsTrue asked ↔ φ → IsTrue false ↔ φ
none_asked true off is = absurd off
none_asked false off is = is

pub both : (a b : Bool) → T a → T b → T (a && b)
both true b p q = q
both false b p q = absurd p

-- what holds of a value that is there gives what else holds of it
pub shown_as : {X : Type 0} (m : Option X) (P Q : X → Type 0) → (IsSome m → (x : X) → P x → Q x) → IfSome m P → IfSome m Q
shown_as (Some x) P Q gives p = gives refl x p
shown_as None P Q gives p = tt
