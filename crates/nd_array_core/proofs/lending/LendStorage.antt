-- The storage of an array in memory, apart from its layout: taken out, and put back with other elements. Assumes `Logic`.
use Rattle.nd_region.proofs.SeparationLogicImports.{ℕ, ◌+◌, Bool, List, [], ◌∷◌, Ura, full_share, SProp, ent, sep, align, up, Logic, sem, Lawfuls, mem, layout, param, copied, RattleType, Declared, Member, rows_of, PartsBack, rest_at, record_field_out, record_field_back}
use Rattle.nd_shape_and_slice.specs.declared.dimension.Dimension as dimension
use Rattle.nd_shape_and_slice.specs.declared.dimension.AxisCount as axis_count
use Rattle.nd_shape_and_slice.specs.declared.dimension.StrideList as stride_list
use Rattle.nd_elements.specs.declared.storage.Data as data_trait
use Rattle.nd_array_core.specs.contracts.base.array.ArrayBase as A
use Rattle.nd_layout.specs.contracts.layout.Layout as L
use Rattle.nd_region.specs.RegionPlaces.{written_where}
use Rattle.nd_array_core.specs.layout.ArrayAfterMutableView.{array_with_part}

abbrev member : RattleType → Member
member R = record { row = R; ty = layout R }

module _ (S D T E : RattleType) (s : data_trait.Ghosts S.Denot E.Denot) (d : dimension.Ghosts D.Denot T.Denot) (n : axis_count.Ghosts D.Denot) (t : stride_list.Ghosts T.Denot) where
  abbrev pub Row : RattleType
  Row = A.the_row (param 0 S) (copied 1 D) (copied 3 T) (param 2 E) (copied 3 T) s d n t t

  abbrev pub Whole : Declared
  Whole = A.the_type (param 0 S) (copied 1 D) (copied 3 T) (param 2 E) (copied 3 T) s d n t t

  abbrev pub members : List Member
  members = member (param 0 S) ∷ member (L.the_field (copied 1 D) (copied 3 T) (copied 3 T) d n t t).row ∷ []

  module _ {M : Type 1} {𝓤 : Ura M} (𝓛 : Logic 𝓤) (b o : ℕ) where
    -- where the storage lies
    abbrev pub storage_at : ℕ
    storage_at = o + up (align (layout S)) 0

    abbrev pub Outside : Row.Denot → SProp 𝓤
    Outside a = sep 𝓤 (sem 𝓛 (rest_at full_share members 0 (Whole.to a) b o 0)) (PartsBack 𝓛 full_share Whole.name members b o)

    pub storage_out : Lawfuls 𝓛 (rows_of members) → (a : Row.Denot) → ent 𝓤 (sem 𝓛 ((mem Row).own_at a b o)) (sep 𝓤 (sem 𝓛 ((mem (param 0 S)).own_at a.storage b storage_at)) (Outside a))
    storage_out lawful a = record_field_out 𝓛 full_share Whole.name members Whole.D Whole.to Whole.to_one lawful a b o 0

    pub storage_back : (a : Row.Denot) (test : ℕ → Bool) (us : List E.Denot)
        → ent 𝓤 (sep 𝓤 (sem 𝓛 ((mem (param 0 S)).own_at (s.refilled a.storage (written_where test (s.items a.storage) us)).0 b storage_at)) (Outside a)) (sem 𝓛 ((mem Row).own_at (array_with_part s.refilled s.items a test us) b o))
    unfolding array_with_part
    storage_back a test us = record_field_back 𝓛 full_share Whole.name members Whole.D Whole.to Whole.to_one (array_with_part s.refilled s.items a test us) b o 0
