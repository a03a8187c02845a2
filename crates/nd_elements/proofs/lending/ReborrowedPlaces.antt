-- A region's places are lent on, so that as many elements come back. Assumes `Logic`.
--     keeps          a loan of places becomes one under another name, of whose last elements the row takes as many as it has
--     region_out     a storage's region in memory, apart from its tie;  region_back     another in its place
use Rattle.nd_region.proofs.SeparationLogicImports.{◌≡◌, refl, sym, ◌∙◌, ℕ, ◌+◌, Bool, List, [], ◌∷◌, length, Ura, full_share, Gv, coded_list, SProp, ent, sep, emp, id⊢, Lft, GName, Share, flft, fobs, fbor, align, up, Logic, sem, Item, ‵, raw, some, later, ◌⊛◌, ◌$◌, ◌∵◌, !, qed, move, keep, use0, use1, split, split3, rewrite, group, await, updating, show, mean, pick, fsplit, fjoin, feq_l, feq_i, now, done, SemTy, Body, open_ref, after, takes_part, Array, follows, Lawfuls, mem, layout, RattleType, block_ptr, NamedLft, Declared, Member, rows_of, PartsBack, rest_at, record_field_out, record_field_back, usize}
use Rattle.std.proofs.mem.Param.{El, R, el_x}
use Rattle.std.specs.contracts.snapshot.Snapshot as Snapshot
use Rattle.nd_region.specs.RegionMemory.{Spots, loan}
use Rattle.nd_region.proofs.RegionValueAndPlaces.{Rg, rg_d}
use Rattle.nd_elements.specs.contracts.storage.RegionRepr as S
use Rattle.nd_region.specs.RegionPlaces.{overwritten_items}
use Rattle.nd_region.proofs.OverwrittenElementList.{overwritten_by}

module _ (E : El) {M : Type 1} {𝓤 : Ura M} (𝓛 : Logic 𝓤) (κ : Lft) (q : Share) (b o : ℕ) (δ : GName) (xs : List (el_x E)) (fs : List Bool) where
  open 𝓛 use {H, A}

  abbrev Places : SemTy
  Places = Spots (R E) (block_ptr b o) fs

  abbrev code_of : List (el_x E) → Gv
  code_of = (coded_list (R E).coded).code

  abbrev pub Kept : GName → Item 𝓤
  Kept δ' = ‵ (loan (R E) κ (block_ptr b o) δ' xs fs) ⊛ ‵ (flft κ q) ⊛ ‵ (follows (Array (R E) 0) (Array (R E) 0) δ δ' (overwritten_items xs))

  places_back : length xs ≡ length fs → (ws : List (el_x E)) → ent 𝓤 (sep 𝓤 (sem 𝓛 (Places.own_at ws 0 0)) (emp 𝓤)) (sem 𝓛 (Places.own_at (overwritten_items xs ws) 0 0))
  places_back long ws = qed 𝓛 (‵ (Places.own_at ws 0 0) ∷ raw (emp 𝓤) ∷ []) ∵ fsplit ! $ feq_l ! (λ e. feq_i ! ℕ (length ws) (length fs) e $ fjoin ! $
      rewrite ! 0 (λ (l : List (el_x E)). ‵ (Places.own_at l 0 0)) (sym (overwritten_by xs ws (e ∙ sym long))) refl $ keep ! (0 ∷ []) $ done !)

  pub keeps : ent 𝓤 (sep 𝓤 (sem 𝓛 (loan (R E) κ (block_ptr b o) δ xs fs)) (A.lft κ q)) (H.⇛ (mean 𝓛 (some Kept)))
  keeps = qed 𝓛 (‵ (loan (R E) κ (block_ptr b o) δ xs fs) ∷ ‵ (flft κ q) ∷ []) ∵ updating ! $ fsplit ! $ open_ref ! tt Places {x = xs} {b = 0} {o = 0} $
      fsplit ! $ feq_l ! (λ long. feq_i ! ℕ (length xs) (length fs) long $ fjoin ! $ use0 𝓛 (raw (emp 𝓤)) (id⊢ 𝓤 (emp 𝓤)) $ move ! (2 ∷ 3 ∷ 4 ∷ 1 ∷ 0 ∷ []) $ group ! 5 $
      use1 𝓛 (later (some (λ (δ' : GName). ‵ (fobs δ' (code_of xs)) ⊛ ‵ (fbor κ (Body Places 0 0 δ')) ⊛ ‵ (flft κ q) ⊛ ‵ (after Places Places δ δ' (overwritten_items xs)))))
      (takes_part 𝓛 Places Places (overwritten_items xs) κ q 0 0 0 0 δ (emp 𝓤) (places_back long) (code_of xs) (code_of xs) xs) $
      await ! tt $ pick ! (λ δ'. split3 ! $ fjoin ! $ move ! (1 ∷ []) $ split ! $ now ! $ show ! (λ (z : GName). mean 𝓛 (Kept z)) δ' $ move ! (2 ∷ 0 ∷ 1 ∷ []) $ done !))

abbrev member : RattleType → Member
member T = record { row = T; ty = layout T }

module _ (a : NamedLft) (E : El) where
  abbrev pub Row : RattleType
  Row = S.the_row (Rg a E)

  abbrev pub Whole : Declared
  Whole = S.the_type (Rg a E)

  abbrev pub members : List Member
  members = member (Rg a E) ∷ member (Snapshot.the_field usize).row ∷ []

  module _ {M : Type 1} {𝓤 : Ura M} (𝓛 : Logic 𝓤) (b o : ℕ) where
    -- where the region lies
    abbrev pub region_at : ℕ
    region_at = o + up (align (layout (Rg a E))) 0

    abbrev pub Outside : Row.Denot → SProp 𝓤
    Outside d = sep 𝓤 (sem 𝓛 (rest_at full_share members 0 (Whole.to d) b o 0)) (PartsBack 𝓛 full_share Whole.name members b o)

    pub region_out : Lawfuls 𝓛 (rows_of members) → (d : Row.Denot) → ent 𝓤 (sem 𝓛 ((mem Row).own_at d b o)) (sep 𝓤 (sem 𝓛 ((mem (Rg a E)).own_at d.region b region_at)) (Outside d))
    region_out lawful d = record_field_out 𝓛 full_share Whole.name members Whole.D Whole.to Whole.to_one lawful d b o 0

    pub region_back : (d : Row.Denot) (r : rg_d E) → ent 𝓤 (sep 𝓤 (sem 𝓛 ((mem (Rg a E)).own_at r b region_at)) (Outside d)) (sem 𝓛 ((mem Row).own_at (record { region = r; tie = d.tie }) b o))
    region_back d r = record_field_back 𝓛 full_share Whole.name members Whole.D Whole.to Whole.to_one (record { region = r; tie = d.tie }) b o 0
