-- A `Result` in a proof by hand: what it owns is what the value in its variant owns. Assumes `Logic`.
use Rattle.nd_region.proofs.SeparationLogicImports.{◌≡◌, refl, ap, ◌∙◌, Bool, true, false, ◌&&◌, List, [], ◌∷◌, ◌++◌, T, lit<, Ura, Ty, Val, vcons, vnil, of_list, has_ty, WT, ent, Logic, sem, Item, Goal, Seq, ‵, ◌$◌, ◌∵◌, !, qed, move, drop, fsplit, fpick, feq_l, fjoin, fpack, feq_i, done, live, shape, form_of, in_a_row, tagged_with, Is, Typed, shows, one_value, RattleType, Valss, owns, nothing, only, peeks}
use Rattle.std.specs.Prelude.{Result, Ok, Err}
use Rattle.std.specs.contracts.result.Result as R

and_true : (b : Bool) → T b → T (b && true)
and_true true t = tt
and_true false t = absurd t

-- a value in a variant of one field has the type of the enum
pub ok_typed : (τ : Ty) (u : Val) → T (has_ty τ u) × WT u → T (has_ty τ u && true) × WT (live 0 (vcons u vnil))
ok_typed τ u good = (and_true (has_ty τ u) good.0, (record { fits = lit< tt }, (good.1, tt)))

pub err_typed : (τ : Ty) (u : Val) → T (has_ty τ u) × WT u → T (has_ty τ u && true) × WT (live 1 (vcons u vnil))
err_typed τ u good = (and_true (has_ty τ u) good.0, (record { fits = lit< tt }, (good.1, tt)))

module _ {M : Type 1} {𝓤 : Ura M} (𝓛 : Logic 𝓤) (X Y : RattleType) where
  pub ok_of : (x : X.Denot) (v : Val) → ent 𝓤 (sem 𝓛 (X.own_val x (v ∷ []))) (sem 𝓛 ((R.the_row X Y).own_val (Ok x) (live 0 (vcons v vnil) ∷ [])))
  ok_of x v =
      qed 𝓛 (‵ (X.own_val x (v ∷ [])) ∷ []) ∵ nothing ! $ move ! (1 ∷ 0 ∷ []) $ fjoin ! $ feq_i ! (List Val) (v ∷ []) (v ∷ []) refl $ fjoin ! $
      fpack ! (Valss (X ∷ [])) (in_a_row (X ∷ []) (owns (X ∷ []) (x, tt)) (v ∷ [])) (v ∷ [], tt) $
      feq_i ! (List Val) (live 0 (vcons v vnil) ∷ []) (live 0 (vcons v vnil) ∷ []) refl $ fjoin ! $
      fpack ! (List Val) (tagged_with (form_of (shape (R.the_type X Y))) (form_of (shape (R.the_type X Y))).payload ((R.the_type X Y).to (Ok x)) (live 0 (vcons v vnil) ∷ [])) (v ∷ []) $ done !

  pub err_of : (y : Y.Denot) (v : Val) → ent 𝓤 (sem 𝓛 (Y.own_val y (v ∷ []))) (sem 𝓛 ((R.the_row X Y).own_val (Err y) (live 1 (vcons v vnil) ∷ [])))
  err_of y v =
      qed 𝓛 (‵ (Y.own_val y (v ∷ [])) ∷ []) ∵ nothing ! $ move ! (1 ∷ 0 ∷ []) $ fjoin ! $ feq_i ! (List Val) (v ∷ []) (v ∷ []) refl $ fjoin ! $
      fpack ! (Valss (Y ∷ [])) (in_a_row (Y ∷ []) (owns (Y ∷ []) (y, tt)) (v ∷ [])) (v ∷ [], tt) $
      feq_i ! (List Val) (live 1 (vcons v vnil) ∷ []) (live 1 (vcons v vnil) ∷ []) refl $ fjoin ! $
      fpack ! (List Val) (tagged_with (form_of (shape (R.the_type X Y))) (form_of (shape (R.the_type X Y))).payload ((R.the_type X Y).to (Err y)) (live 1 (vcons v vnil) ∷ [])) (v ∷ []) $ done !

  module _ {K : Type 0} {Γ : List (Item 𝓤)} {G : Goal 𝓤 𝓛.H} (τ τ' : Ty) where
    -- one proof for each variant
    pub result_parts : K → ((x : X.Denot) (vs : List Val) → Is X x vs → Typed (τ ∷ []) vs) → ((y : Y.Denot) (vs : List Val) → Is Y y vs → Typed (τ' ∷ []) vs) → (r : Result X.Denot Y.Denot) (w : Val)
        → ((x : X.Denot) (u : Val) → r ≡ Ok x → w ≡ live 0 (vcons u vnil) → T (has_ty τ u) × WT u → Seq K 𝓛 (‵ (X.own_val x (u ∷ [])) ∷ Γ) G)
        → ((y : Y.Denot) (u : Val) → r ≡ Err y → w ≡ live 1 (vcons u vnil) → T (has_ty τ' u) × WT u → Seq K 𝓛 (‵ (Y.own_val y (u ∷ [])) ∷ Γ) G)
        → Seq K 𝓛 (‵ ((R.the_row X Y).own_val r (w ∷ [])) ∷ Γ) G
    result_parts t typed typed' (Ok x) w ok err =
        fpick t (λ us. fsplit t $ feq_l t (λ e. fpick t (λ vss. fsplit t $ feq_l t (λ e'. fsplit t $ move t (1 ∷ []) $ drop t $ peeks t X (Is X) (shows 𝓛 X) x vss.0 (λ is.
        one_value τ (λ ws. us ≡ ws ++ [] → Seq K 𝓛 (‵ (X.own_val x ws) ∷ Γ) G) vss.0 (typed x vss.0 is) (λ u good same. ok x u refl (ap only e ∙ ap (λ zs. live 0 (of_list zs)) same) good) e')))))
    result_parts t typed typed' (Err y) w ok err =
        fpick t (λ us. fsplit t $ feq_l t (λ e. fpick t (λ vss. fsplit t $ feq_l t (λ e'. fsplit t $ move t (1 ∷ []) $ drop t $ peeks t Y (Is Y) (shows 𝓛 Y) y vss.0 (λ is.
        one_value τ' (λ ws. us ≡ ws ++ [] → Seq K 𝓛 (‵ (Y.own_val y ws) ∷ Γ) G) vss.0 (typed' y vss.0 is) (λ u good same. err y u refl (ap only e ∙ ap (λ zs. live 1 (of_list zs)) same) good) e')))))
