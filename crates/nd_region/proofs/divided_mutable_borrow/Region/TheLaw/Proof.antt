-- A `&` to a region reaches each element. Assumes `Logic`.
use Rattle.nd_region.proofs.SeparationLogicImports.{[], ◌++◌, Incl-trans, meet_⊑_left, meet_⊑_right, RattleType, NamedLft, MutRef, Laws, copy_shared, RawPtr-field, usize-field, RawPtr-copy, usize-copy, field_copy, of_Lends}
use Rattle.std.specs.contracts.marker.PhantomData as marker
use Rattle.nd_region.specs.contracts.divided_mutable_borrow.Region as C
use Rattle.nd_region.proofs.divided_mutable_borrow.Region.TheLaw.Statement.{statement}
use Rattle.nd_region.proofs.SharedReferences.{region_lent_laws, Lends-region}

pub shares : (κ : NamedLft) (V : RattleType) (L : Laws V) → statement κ V L
shares κ V L =
    let R : RattleType = MutRef κ.mir κ.lft V in
    of_Lends (C.struct κ V) (C.the_codes V.Denot V.coded (marker.the_row R).coded) (C.the_heap κ.lft V) (C.the_lent κ.lft V)
    (λ d p. region_lent_laws V L.shr_laws κ.lft d.ptr d.len d.items d.held)
    (copy_shared RawPtr-field RawPtr-copy, (copy_shared usize-field usize-copy, (copy_shared (marker.the_field R) (field_copy (marker.the_type R) tt), tt)))
    (λ M 𝓤 𝓛 d p. Lends-region 𝓛 (C.the_row κ V).lives V L (Incl-trans (meet_⊑_left (V.lives ++ []) _) (meet_⊑_left V.lives [])) κ.lft
    (Incl-trans (meet_⊑_right (V.lives ++ []) (κ.lft ++ V.lives ++ [] ++ [] ++ [])) (Incl-trans (meet_⊑_left (κ.lft ++ V.lives ++ [] ++ []) []) (Incl-trans (meet_⊑_left (κ.lft ++ V.lives ++ []) []) (Incl-trans (meet_⊑_left (κ.lft ++ V.lives) []) (meet_⊑_left κ.lft V.lives))))) d.name d.items d.held d.ptr d.len)
