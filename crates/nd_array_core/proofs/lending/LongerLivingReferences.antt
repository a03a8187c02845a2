-- References that live as long as what a mutable view borrows: what their walks read of the machine values, and of an answer that may be none.
use Rattle.nd_region.proofs.SeparationLogicImports.{◌≡◌, refl, sym, ap, ◌∙◌, Bool, true, false, List, [], ◌∷◌, T, GName, Ty, Val, has_ty, WT, follows, follows_if, follows_by, Typed, RattleType, MutBor}
use Rattle.std.specs.Prelude.{Option, Some, None, IsSome, MatchOption}
use Rattle.std.specs.Option.{option_copied_mut, ghost_name_of}
use Rattle.nd_region.specs.Region.{stored_if}

-- a type that is one for the machine has one value
pub one_value : (τ : Ty) (vs : List Val) → Typed (τ ∷ []) vs → (v : Val) × (vs ≡ v ∷ []) × (T (has_ty τ v) × WT v)
one_value τ [] t = absurd t
one_value τ (v ∷ []) t = (v, refl, t.0)
one_value τ (v ∷ w ∷ vs) t = absurd t.1

-- what is answered was asked for
pub was_asked : {A : Type 0} (asked : Bool) (stored : Option A) (x : A) → Some x ≡ stored_if asked stored → asked ≡ true
was_asked true stored x e = refl
was_asked false stored x e = cc

no_item : {A : Type 0} (o : Option A) → None ≡ o → IsSome o → ⊥
no_item None e has = cc
no_item (Some x) e has = cc

pub answer_is : {A : Type 0} (m : Option (MutBor A)) (asked within : Bool) (stored at : Option A) → asked ≡ within → at ≡ stored_if asked stored → option_copied_mut m ≡ stored_if asked stored → (asked ≡ true → IsSome stored)
    → MatchOption m (within ≡ false) (λ x. at ≡ Some x.now)
answer_is None true within stored at w e gives there = absurd (no_item stored gives (there refl))
answer_is None false within stored at w e gives there = sym w
answer_is (Some x) asked within stored at w e gives there = e ∙ sym gives

-- where there is no reference, the function of what is left behind it doesn't matter
pub same_end : (R S : RattleType) (γ : GName) (m : Option (MutBor S.Denot)) (f g : S.Denot → R.Denot) (v : R.Denot) → ((x : MutBor S.Denot) → m ≡ Some x → f ≡ g) → follows_if R S γ (ghost_name_of m) f v ≡ follows_if R S γ (ghost_name_of m) g v
unfolding follows_by
same_end R S γ None f g v e = refl
same_end R S γ (Some x) f g v e = ap (λ h. follows R S γ x.ghost_name h) (e x refl)
