-- `lend` borrows the elements, and makes a region of the borrow. Assumes `Logic`.
use Rattle.nd_region.proofs.SeparationLogicImports.{◌≡◌, refl, ap, ◌∙◌, List, [], ◌∷◌, emp, id⊢, via, fst∗, snd∗, Lft, Share, ftrue, flft, Args, a_type, dnil, named, inst_fn, Val, ◌⊑◌, fact, fact_i, fact_use, tables, ‵, raw, ◌⊛◌, some, later, ◌$◌, ◌∵◌, !, qed, done, move, drop, use0, use1, use2, split, join, fjoin, pick, await, rewrite, suffices, frame, enter, addr, stop, no_more, and_then, returns, alloc_all, pass_all, free_all, look_at, get, through, sets, lands_as, Array, RefMutOf, no, follows, follows_then, Is, shows, param, bounded, param_laws, RattleType, MutBor, mut_vals, mut_Tells, plain, named_lft, MutSlice, mut_slice_vals, nothing, heard, only, peeks, calls_at, Ended, Lasts, lasts, on_entry, triple_of, framed, Stays, stay_dropped, ends_at, Goes-spent_ref}
use Rattle.std.proofs.raw_atomic.Walks.{proved}
use Rattle.std.specs.Prelude.{slice_get}
use Rattle.nd_region.specs.Region.{IsWhole}
use Rattle.nd_region.specs.contracts.divided_mutable_borrow.Region.{the_row as region_row}
use Rattle.nd_region.proofs.TruthOfConjunctions.{says_two}
use Rattle.nd_region.proofs.divided_mutable_borrow.Region.TheLaws.{the_row_laws as region_laws}
use Rattle.nd_elements.specs.contracts.storage.OwnedRepr.{the_row as owned_row}
use Rattle.nd_elements.specs.OwnedStorageAfterBorrow.{owned_with}
use Rattle.nd_elements.proofs.tasks.StoragePartLent.{whole_holds}
use Rattle.nd_elements.specs.contracts.storage.OwnedRepr.items_mut as I
use Rattle.nd_elements.proofs.storage.OwnedRepr.items_mut.Met.{met as items_met}
use Rattle.nd_region.specs.contracts.divided_mutable_borrow.Region.from_slice as O
use Rattle.nd_region.proofs.divided_mutable_borrow.Region.from_slice.Met.{met as of_met}
use Rattle.nd_elements.specs.contracts.storage.OwnedReprDataMut.lend as F
use Rattle.nd_elements.specs.contracts.storage.OwnedReprDataMut.lend.Key.{name as #self}
use Rattle.nd_elements.proofs.storage.OwnedReprDataMut.lend.Statement.{statement}
use Rattle.nd_elements.proofs.storage.OwnedReprDataMut.lend.Code as code

pub lend_spec : {M : Type 1} → statement M
lend_spec 𝓤 𝓛 𝓜 𝓡 wired A lA =
    let H = 𝓛.H in let 𝓣 = tables 𝓤 H 𝓜 𝓡 𝓡.env in
    let inst : Args = bounded (a_type ∷ []) (A, tt) dnil in
    let En : Ended = F.ended A in
    let c = F.clauses A 𝓛 𝓜.mem 𝓡.returns in
    let R : RattleType = param 0 A in
    let Row : RattleType = owned_row R in
    let hs : Stays En.signature.params En.kept = (stay_dropped (RefMutOf (0 ∷ []) tt (plain (λ _. Row)) (λ _. tt)) no, tt) in
    proved 𝓛 En hs c 𝓜 𝓡 (Goes-spent_ref 𝓛 2 (0 ∷ []) tt (plain (λ _. Row)), tt) (#self inst) (inst_fn inst code.function) (code.unfolded 𝓤 H 𝓜 𝓡 wired (A, tt))
    (λ κs. (mut_vals, tt)) (λ κs. (mut_Tells (named 0) κs.0 Row, tt)) (λ κs qs bounds a gh are.
    let κ : Lft = κs.0 in let κA : Lft = κs.1.0 in let q : Share = qs.0 in let qA : Share = qs.1.0 in
    let vs : List Val = mut_vals a.0 in
    let I-ended : Ended = I.ended A in
    let I-triple = triple_of 𝓛 (I.signature A) (I.spec A 𝓛 𝓜.mem 𝓡.returns) in
    let z : I-triple.Ghost = ((κs, qs, bounds, a, (vs, tt)), tt) in
    let Slice : RattleType = MutSlice (named 0) κ R in
    let Rg : RattleType = region_row (named_lft 2 0 tt κs) R in
    let ends : List A.Denot → Row.Denot = owned_with a.0.now in
    fact_use 𝓤 (κA ⊑ A.lives) (via 𝓤 _ (snd∗ 𝓤 (on_entry 𝓛 En.signature κs qs a (vs, tt)) ((c κs a).requires gh)) (fst∗ 𝓤 (fact 𝓤 (κA ⊑ A.lives)) (emp 𝓤))) (λ inA.
    qed 𝓛 (raw (I-triple.pre z) ∷ []) ∵ enter ! _ _ _ _ _ $ alloc_all ! (λ l. pass_all ! refl ((tt, tt), tt) $
    sets ! (addr ! (through ! refl (stop !))) refl (tt, tt) $
    calls_at ! (framed 𝓤 H 𝓜 𝓣) I-triple (items_met 𝓤 𝓛 𝓜 𝓡 (code.calls-nd_elements::storage::OwnedRepr::items_mut 𝓡.env wired) A lA) z
    (and_then ! (get ! refl) (no_more !)) (λ v.
    use1 𝓛 (later (some (λ (r : MutBor (List A.Denot)). ((‵ (flft κ q) ⊛ ‵ (flft κA qA) ⊛ ‵ ftrue) ⊛ ‵ (Slice.own_val r (v ∷ []))) ⊛
    some (λ (ws : Lasts I-ended κs a). ‵ (lasts I-ended κs a ws) ⊛ ‵ (follows Row (Array R 0) a.0.ghost_name r.ghost_name ends) ⊛ raw (fact 𝓤 (r.now ≡ a.0.now.items.items)))))) (id⊢ 𝓤 _) $ await ! tt $ pick ! (λ r.
    split ! $ split ! $ move ! (2 ∷ []) $ pick ! (λ ws. split ! $ drop ! $ split ! $ move ! (1 ∷ []) $ heard ! (r.now ≡ a.0.now.items.items) (λ same.
    -- [what follows; the tokens; the slice]
    move ! (2 ∷ []) $ peeks ! Slice (Is Slice) (shows 𝓛 Slice) r (v ∷ []) (λ is.
    rewrite ! 0 (λ (us : List Val). ‵ (Slice.own_val r us)) is.0.0 refl $
    lands_as ! (ap only is.0.0) refl (tt, (tt, (record { fits = is.0.1.0 }, tt))) $
    let O-ended : Ended = O.ended A in
    let O-triple = triple_of 𝓛 (O.signature A) (O.spec A 𝓛 𝓜.mem 𝓡.returns) in
    let z₂ : O-triple.Ghost = ((κs, qs, bounds, (r, tt), (mut_slice_vals r, tt)), tt) in
    nothing ! $ use0 𝓛 (raw (fact 𝓤 (κA ⊑ A.lives))) (fact_i 𝓤 (κA ⊑ A.lives) (emp 𝓤) inA) $ join ! $
    nothing ! $ move ! (2 ∷ 0 ∷ []) $ join ! $ move ! (3 ∷ 0 ∷ []) $ join ! $ join ! $
    use1 𝓛 (raw (O-triple.pre z₂)) (id⊢ 𝓤 _) $
    calls_at ! (framed 𝓤 H 𝓜 𝓣) O-triple (of_met 𝓤 𝓛 𝓜 𝓡 (code.calls-nd_region::divided_mutable_borrow::Region::from_slice 𝓡.env wired) A lA) z₂
    (and_then ! (get ! refl) (no_more !)) (λ v'.
    use1 𝓛 (later (some (λ (x : Rg.Denot). ((‵ (flft κ q) ⊛ ‵ (flft κA qA) ⊛ ‵ ftrue) ⊛ ‵ (Rg.own_val x (v' ∷ []))) ⊛
    some (λ (us : Lasts O-ended κs (r, tt)). ‵ (lasts O-ended κs (r, tt) us) ⊛ ‵ (follows (Array R 0) (Array R 0) r.ghost_name x.name (λ w. w)) ⊛ raw (fact 𝓤 (IsWhole x r.now)))))) (id⊢ 𝓤 _) $ await ! tt $ pick ! (λ x.
    split ! $ move ! (1 ∷ []) $ pick ! (λ us. split ! $ drop ! $ split ! $ move ! (1 ∷ []) $ heard ! (IsWhole x r.now) (λ whole.
    -- [what the slice follows; the tokens and the region; what the storage follows]
    move ! (2 ∷ 0 ∷ []) $ use2 𝓛 (‵ (follows Row (Array R 0) a.0.ghost_name x.name ends)) (follows_then 𝓛 Row (Array R 0) (Array R 0) ends (λ w. w) a.0.ghost_name r.ghost_name x.name) $
    move ! (1 ∷ []) $ split ! $ move ! (1 ∷ []) $ peeks ! Rg (Is Rg) (shows 𝓛 Rg) x (v' ∷ []) (λ typed.
    let good = (region_laws (named_lft 2 0 tt κs) R (param_laws 0 A lA)).lawful 𝓛 in
    lands_as ! refl refl (good.typed x (v' ∷ []) typed).0 $
    returns ! (look_at ! 0 refl) $ free_all ! refl $
    suffices ! _ (ends_at 𝓛 En hs c (((κs, qs, bounds, a, (vs, tt)), gh)) v' x (tt, tt) (tt, tt)) $
    nothing ! $ nothing ! $ fjoin ! $ join ! $ move ! (1 ∷ 0 ∷ []) $ join ! $ frame ! $
    says_two ! ((λ p. whole_holds x r.now whole p ∙ ap (λ (us : List A.Denot). slice_get us p) same), whole.0 ∙ same) $ done !)))))))))))))
